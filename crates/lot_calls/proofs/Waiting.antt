-- One wait more on a condition, and a lock that was got and then waited with.
use Rattle.std.proofs.Common.{◌≡◌, ℕ, zero, suc, ◌+◌, ◌<◌, Bool, true, false, List, [], ◌∷◌, ◌++◌, length, get_or, set, slice_index, refl}
use Rattle.std.proofs.Common.{sym, ap, subst, ◌∙◌, arith}
use Rattle.std.proofs.lemmas.List.{get_or-set_same, set-set, append-nil}
use Rattle.atomic_table.proofs.Lists.{set_here}
use Rattle.lot_words.specs.CallersRule.{CallersRule}
use Rattle.lot_scheme.specs.Traces.{GetTrace}
use Rattle.lot_sync.specs.Lot.{LotView, PassView, HeldView, ◌≈◌, Owns, OwnsNone, HasSeen, HasShape, owning, letting_go, one_wait_more}
use Rattle.lot_sync.specs.Traces.{Adds, WaitedTrace}
use Rattle.lot_sync.specs.Values.{Gets, MayGiveBack, WaitsAndGets}
use Rattle.lot_sync.specs.Holding.{Holding}
use Rattle.lot_sync.proofs.Adding.{adds_then}
use Rattle.lot_sync.proofs.Holdings.{near_of, may_go_back, got_holds}
use Rattle.lot_calls.specs.Traces.{WaitsTrace, GetAfterTrace}
use Rattle.lot_calls.specs.Waits.{AfterWaits, WaitsOn, GetsAfter, woken_from}

-- what was cleared and set again, and was set before, is as before
pub clear_back : (bs : List Bool) (k : ℕ) → get_or bs k false ≡ true → set (set bs k false) k true ≡ bs
clear_back [] k owned = refl
clear_back (true ∷ bs) zero owned = refl
clear_back (false ∷ bs) zero owned = absurd (cc)
clear_back (b ∷ bs) (suc k) owned = ap (λ cs. b ∷ cs) (clear_back bs k owned)

-- a count that was raised by n and then by one was raised by one more
pub raised_more : (ns : List ℕ) (c n : ℕ) → c < length ns
    → set (set ns c (slice_index ns c + n)) c (slice_index (set ns c (slice_index ns c + n)) c + 1) ≡ set ns c (slice_index ns c + suc n)
raised_more ns c n near =
    let at = get_or-set_same ns c (slice_index ns c + n) 0 near in
    set-set ns c (slice_index ns c + n) (slice_index (set ns c (slice_index ns c + n)) c + 1)
    ∙ ap (set ns c) (ap (λ m. m + 1) at ∙ omega arith)

module _ {V : Type 0} where
  -- after one wait more: the pass that waited n times let the lock go, was woken and got the lock again
  pub waits_once_more : (before pass after : PassView V) (key cond n : ℕ) (left found before_found : V) → cond < length before.woken
      → AfterWaits before key cond before_found n pass → after ≈ owning (one_wait_more (letting_go pass key left) cond) key found
      → HasSeen after key found
      → AfterWaits before key cond found (suc n) after
  waits_once_more before pass after key cond zero left found before_found near same went seen = (
    went
        ∙ (ap (λ (p : PassView V). record (owning (one_wait_more (letting_go p key left) cond) key found) { made = after.made }) same
        ∙ (λ i. record {
          thread = before.thread;
          owns = set-set before.owns key false true i;
          seen = set-set before.seen key left found i;
          called = before.called;
          woken = set before.woken cond (slice_index before.woken cond + 1);
          permits = before.permits;
          made = after.made;
        })),
    seen,
  )
  waits_once_more before pass after key cond (suc n) left found before_found near waited went seen = (
    went
        ∙ (ap (λ (p : PassView V). record (owning (one_wait_more (letting_go p key left) cond) key found) { made = after.made }) waited.0
        ∙ (λ i. record {
          thread = before.thread;
          owns = (set-set (set before.owns key true) key false true ∙ set-set before.owns key true true) i;
          seen = (set-set (set before.seen key before_found) key left found ∙ set-set before.seen key before_found found) i;
          called = before.called;
          woken = raised_more before.woken cond (suc n) near i;
          permits = before.permits;
          made = after.made;
        })),
    seen,
  )

  -- the accesses of one wait more
  pub made_once_more : (before pass after : PassView V) (key k cond now n : ℕ) → k ≡ key → pass.thread ≡ before.thread
      → Adds before.made (WaitsTrace before.thread cond key now n) pass.made
      → Adds pass.made (WaitedTrace pass.thread cond k now) after.made
      → Adds before.made (WaitsTrace before.thread cond key now (suc n)) after.made
  made_once_more before pass after key k cond now n same thread waits waited =
      adds_then before.made waits (subst (λ l. Adds pass.made (WaitedTrace before.thread cond l now) after.made) same
      (subst (λ t. Adds pass.made (WaitedTrace t cond k now) after.made) thread waited))

  -- those of a lock that was got and then waited with
  pub made_until : (before got after : PassView V) (key k cond now n : ℕ) → k ≡ key → got.thread ≡ before.thread
      → Adds before.made (GetTrace before.thread key) got.made
      → Adds got.made (WaitsTrace got.thread cond k now n) after.made
      → Adds before.made (GetAfterTrace before.thread cond key now n) after.made
  made_until before got after key k cond now n same thread get waits =
      adds_then before.made get (subst (λ l. Adds got.made (WaitsTrace before.thread cond l now n) after.made) same
      (subst (λ t. Adds got.made (WaitsTrace t cond k now n) after.made) thread waits))

  -- how many waits more have ended
  pub woken_after : (before after : PassView V) (key cond n : ℕ) (found : V) → AfterWaits before key cond found n after
      → after.woken ≡ (woken_from before cond n).woken
  woken_after before after key cond zero found same = ap (λ (p : PassView V). p.woken) same
  woken_after before after key cond (suc n) found waited = ap (λ (p : PassView V). p.woken) waited.0

  pub woken_alike : (before got : PassView V) (cond n : ℕ) → got.woken ≡ before.woken
      → (woken_from got cond n).woken ≡ (woken_from before cond n).woken
  woken_alike before got cond zero same = same
  woken_alike before got cond (suc n) same = ap (λ ns. set ns cond (slice_index ns cond + suc n)) same

  -- the pass, after a lock was got and then waited with
  pub is_after : (before got after : PassView V) (key cond : ℕ) (held found : HeldView V) (n : ℕ) → held.key ≡ key
      → got ≈ owning before key held.value → AfterWaits got held.key cond found.value n after → (n ≡ 0 → found ≡ held)
      → after ≈ woken_from (owning before key found.value) cond n
  is_after before got after key cond held found zero same is waited whole =
      subst (λ (h : HeldView V). after ≈ owning before key h.value) (sym (whole refl))
      (waited ∙ ap (λ (p : PassView V). record p { made = after.made }) is)
  is_after before got after key cond held found (suc n) same is waited whole =
      let again : after ≈ woken_from (owning got key found.value) cond (suc n) =
      subst (λ k. after ≈ woken_from (owning got k found.value) cond (suc n)) same waited.0 in
      again
      ∙ (ap (λ (p : PassView V). record (woken_from (owning p key found.value) cond (suc n)) { made = after.made }) is
      ∙ (λ i. record {
        thread = before.thread;
        owns = set-set before.owns key true true i;
        seen = set-set before.seen key held.value found.value i;
        called = before.called;
        woken = (woken_from before cond (suc n)).woken;
        permits = before.permits;
        made = after.made;
      }))

module _ {V Part : Type 0} (rule : CallersRule V Part) (unready : V → Type 0) where
  -- no wait yet
  pub not_yet : (before : PassView V) (held : HeldView V) (cond now : ℕ) → MayGiveBack rule before held
      → WaitsOn rule unready before held cond now held before
  not_yet before held cond now back = record {
    count = 0;
    while = refl;
    after_is = refl;
    made = ([], sym (append-nil before.made), refl);
    same = λ _. refl;
    key_is = refl;
    kept = back.kept;
    grown = rule.grows_itself held.value;
    mine = refl;
    thread = refl;
    same_owns = refl;
    same_permits = refl;
    back = back;
  }

  -- one wait more
  pub once_more : (lot : LotView) (before pass after : PassView V) (held mid found : HeldView V) (cond now : ℕ) → held.key < lot.locks
      → cond < length before.woken → HasShape lot pass → Owns pass held.key
      → WaitsOn rule unready before held cond now mid pass → unready mid.value → WaitsAndGets rule pass mid cond found after
      → Adds pass.made (WaitedTrace pass.thread cond mid.key now) after.made
      → WaitsOn rule unready before held cond now found after
  once_more lot before pass after held mid found cond now is_lock near shape owned waits lacks gets made = record {
    count = suc waits.count;
    while = (mid.value, waits.while, lacks, gets.grown mid.value saw);
    after_is = waits_once_more before pass after held.key cond waits.count mid.value found.value mid.value near waits.after_is went seen;
    made = made_once_more before pass after held.key mid.key cond now waits.count waits.key_is waits.thread waits.made made;
    same = λ none. absurd (omega (arith, none));
    key_is = gets.key_is ∙ waits.key_is;
    kept = subst (λ k. rule.keeps k found.value) waits.key_is gets.kept;
    grown = rule.grows_on held.value mid.value found.value waits.grown (gets.grown mid.value saw);
    mine = waits.mine ∙ subst (λ t. rule.part t mid.value ≡ rule.part t found.value) waits.thread (gets.mine mid.value saw);
    thread = ap (λ (p : PassView V). p.thread) went ∙ waits.thread;
    same_owns = ap (λ (p : PassView V). p.owns) went ∙ (clear_back pass.owns held.key owned ∙ waits.same_owns);
    same_permits = ap (λ (p : PassView V). p.permits) went ∙ waits.same_permits;
    back = may_go_back rule (one_wait_more (letting_go pass mid.key mid.value) cond) after mid.key found found.value gets
        (subst (λ k. rule.keeps k found.value) (sym gets.key_is) gets.kept) (rule.grows_itself found.value) (λ t else. refl);
  }
    where
      went : after ≈ owning (one_wait_more (letting_go pass held.key mid.value) cond) held.key found.value
      went = subst (λ k. after ≈ owning (one_wait_more (letting_go pass k mid.value) cond) k found.value) waits.key_is gets.after_is

      saw : HasSeen (one_wait_more (letting_go pass mid.key mid.value) cond) mid.key mid.value
      saw =
          set_here pass.seen mid.key mid.value
          (subst (λ n. mid.key < n) (sym shape.seen) (subst (λ k. k < lot.locks) (sym waits.key_is) is_lock))

      seen : HasSeen after held.key found.value
      seen = subst (λ k. HasSeen after k found.value) waits.key_is gets.seen

  seen_after : (got after : PassView V) (held found : HeldView V) (cond n : ℕ) → AfterWaits got held.key cond found.value n after
      → (n ≡ 0 → found ≡ held) → HasSeen got held.key held.value
      → HasSeen after held.key found.value
  seen_after got after held found cond zero same is saw =
      subst (λ (h : HeldView V). HasSeen after held.key h.value) (sym (is refl))
      (subst (λ (p : PassView V). HasSeen p held.key held.value) (sym same) saw)
  seen_after got after held found cond (suc n) waited is saw = waited.1

  -- the lock was got, and then waited with
  pub got_after : (before got after : PassView V) (key cond now : ℕ) (held found : HeldView V) → Gets rule before key held got
      → WaitsOn rule unready got held cond now found after → GetsAfter rule before key found after
  got_after before got after key cond now held found gets waits = record {
    key_is = waits.key_is ∙ gets.key_is;
    kept = subst (λ k. rule.keeps k found.value) gets.key_is waits.kept;
    grown = λ u saw. rule.grows_on u held.value found.value (gets.grown u saw) waits.grown;
    mine =
        λ u saw. gets.mine u saw ∙ subst (λ t. rule.part t held.value ≡ rule.part t found.value)
        (ap (λ (p : PassView V). p.thread) gets.after_is) waits.mine;
    thread = waits.thread ∙ ap (λ (p : PassView V). p.thread) gets.after_is;
    same_owns = waits.same_owns ∙ ap (λ (p : PassView V). p.owns) gets.after_is;
    same_permits = waits.same_permits ∙ ap (λ (p : PassView V). p.permits) gets.after_is;
    seen = subst (λ k. HasSeen after k found.value) gets.key_is
        (seen_after got after held found cond waits.count waits.after_is waits.same
        (subst (λ k. HasSeen got k held.value) (sym gets.key_is) gets.seen));
    back = waits.back;
  }

  -- whoever owned nothing before holds the lock then
  pub after_holds : (before got after : PassView V) (key cond now : ℕ) (held found : HeldView V) → OwnsNone before
      → Gets rule before key held got → WaitsOn rule unready got held cond now found after
      → Holding rule.grows after found
  after_holds before got after key cond now held found none gets waits =
      let holds = got_holds rule before got key held none gets in record {
        owns = subst (λ k. Owns after k) (sym waits.key_is) (ap (λ bs. get_or bs held.key false) waits.same_owns ∙ holds.owns);
        alone =
            λ k other owned. holds.alone k (λ e. other (e ∙ sym waits.key_is)) (sym (ap (λ bs. get_or bs k false) waits.same_owns) ∙ owned);
        no_permit = λ k. ap (λ xs. slice_index xs k) waits.same_permits ∙ holds.no_permit k;
        knows = subst (λ k. k < length after.seen) (sym waits.key_is) (near_of after.seen held.key found.value
            (seen_after got after held found cond waits.count waits.after_is waits.same
            (subst (λ k. HasSeen got k held.value) (sym gets.key_is) gets.seen)));
        grown = waits.back.grown;
      }
