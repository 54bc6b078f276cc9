-- A call that is in the history stays there.
use Rattle.std.specs.Prelude.{◌≡◌, ◌++◌, ℕ, [], ◌∷◌}
use Rattle.std.proofs.Common.{sym, ap, ◌∙◌, append_assoc}
use Rattle.lot_journal.specs.declared.entry.Entry.{Entry}
use Rattle.lot_journal.specs.Journal.{JournalView, GoesOn, calls_of}
use Rattle.lot_load.specs.declared.counter.Add.{Add}
use Rattle.lot_load.specs.declared.counter.Counter.{Counter}
use Rattle.lot_load.specs.Counters.{total_after, IsAdded, OwnIsMore, IsThere}

-- the thread was counted once in what went on from the value that it had seen, and the value that it sees now has gone
-- on from there without it
pub record IsCountedOnce {V Part : Type 0} (grows : V → V → Type 0) (part : ℕ → V → Part) (is_counted : V → ℕ → V → Type 0) (thread : ℕ)
    (seen now : V) : Type 0 where
  pub found : V
  pub counted : V
  pub on : grows seen found
  pub mine : part thread seen ≡ part thread found
  pub once : is_counted found thread counted
  pub later : grows counted now
  pub same : part thread counted ≡ part thread now

abbrev one : Add
one = record { 0 = 1 }

abbrev entry_of : ℕ → ℕ → Entry Add ℕ
entry_of thread answer = record { thread = thread; call = one; reply = answer }

-- what was found goes on from what was seen, and then the thread called
pub found_there : (thread : ℕ) (seen found now : JournalView Counter Add ℕ) → GoesOn seen found
    → calls_of thread seen ≡ calls_of thread found
    → IsAdded found thread one now × OwnIsMore found thread one (total_after found.object one) now → IsThere thread one seen now
found_there thread seen found now on mine counted = record {
  answer = total_after found.object one;
  between = on.history.0;
  more = [];
  history = counted.0.history ∙ ap (λ h. h ++ entry_of thread (total_after found.object one) ∷ []) (sym on.history.1);
  once = counted.1 ∙ ap (λ h. h ++ entry_of thread (total_after found.object one) ∷ []) (sym mine);
}

-- it is still there where only others called since
pub left_there : (thread : ℕ) (seen mid now : JournalView Counter Add ℕ) → IsThere thread one seen mid → GoesOn mid now
    → calls_of thread mid ≡ calls_of thread now → IsThere thread one seen now
left_there thread seen mid now there on same = record {
  answer = there.answer;
  between = there.between;
  more = there.more ++ on.history.0;
  history =
      sym on.history.1
      ∙ (ap (λ h. h ++ on.history.0) there.history
      ∙ append_assoc (seen.history ++ there.between) (entry_of thread there.answer ∷ there.more) on.history.0);
  once = sym same ∙ there.once;
}

-- so the call of a thread that was counted in a journal is in the history, after all that it had seen, once
pub counted_is_there : (thread : ℕ) (seen now : JournalView Counter Add ℕ)
    → IsCountedOnce GoesOn calls_of (λ old t new. IsAdded old t one new × OwnIsMore old t one (total_after old.object one) new) thread seen
    now → IsThere thread one seen now
counted_is_there thread seen now c =
    left_there thread seen c.counted now (found_there thread seen c.found c.counted c.on c.mine c.once) c.later c.same
