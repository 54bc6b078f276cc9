-- The root of a condition after a call, as the bucket sees it.
use Rattle.std.proofs.Common.{◌≡◌, ℕ, true, List, [], ◌∷◌, ◌++◌, take, drop, refl, sym, ap, ◌∙◌}
use Rattle.lot_rights.specs.Shown.{RootShown}
use Rattle.lot_conds.specs.declared.views.CondRootView.{CondRootView}
use Rattle.lot_conds.specs.Calls.{enlisted_root, called_root, swept_root}
use Rattle.lot_whole.specs.declared.views.LotRootView.{LotRootView}
use Rattle.lot_whole.specs.declared.views.LotRootView.TheVariants.{Lock, Cond, Sem}
use Rattle.lot_whole.specs.Standing.{IsCondRoot, as_cond}
use Rattle.lot_park.specs.Parking.{Queues, debts}
use Rattle.lot_whole.specs.Lot.{line_of_root}
use Rattle.lot_scheme.specs.Roots.{root_view, owes_in}
use Rattle.lot_scheme.specs.Standing.{LotStanding}
use Rattle.lot_scheme.specs.CondCalls.{IsCondNow}
use Rattle.lot_scheme.proofs.CondNotes.{cond_line}
use Rattle.lot_waits.specs.Notifying.{Dequeues, DequeuesAll}
use Rattle.lot_waits.proofs.Taken.{owes_only}

was_owing : (own : LotRootView) → IsCondRoot own → owes_in own ≡ debts (as_cond own).owes
was_owing (Lock q) is = absurd is
was_owing (Cond q) is = refl
was_owing (Sem q) is = absurd is

module _ (root now : RootShown LotRootView) where
  named : (own : CondRootView) → IsCondNow root own now → now.key ≡ root.key
  named own is = ap (λ (r : RootShown LotRootView). r.key) is.is

  lined : (own : CondRootView) → IsCondNow root own now → line_of_root now.own ≡ own.line
  lined own is = ap (λ (r : RootShown LotRootView). line_of_root r.own) is.is

  owing : (own : CondRootView) → IsCondNow root own now → owes_in now.own ≡ debts own.owes
  owing own is = ap (λ (r : RootShown LotRootView). owes_in r.own) is.is

  -- whoever owed nobody owes these alone
  owes_these : (own : CondRootView) (line : List ℕ) → IsCondNow root own now → own.owes ≡ (as_cond root.own).owes ++ line
      → owes_in root.own ≡ [] → owes_in now.own ≡ debts line
  owes_these own line is more none = owing own is ∙ ap debts more
      ∙ owes_only (as_cond root.own).owes line (sym (was_owing root.own is.kind) ∙ none)

  -- the thread is last in the line
  pub queues : {V : Type 0} (p q : LotStanding V) → q.thread ≡ p.thread
      → IsCondNow root (enlisted_root (as_cond root.own) p.thread) now
      → Queues root_view (λ (r : LotStanding V). r.thread) p root true q now
  queues p q same is =
      let own : CondRootView = enlisted_root (as_cond root.own) p.thread in
      record {
        caller = same;
        named = named own is;
        owing = owing own is ∙ sym (was_owing root.own is.kind);
        lined = lined own is ∙ ap (λ xs. xs ++ p.thread ∷ []) (sym (cond_line root.own is.kind));
      }

  -- the first n were taken
  pub dequeues : (n : ℕ) → IsCondNow root (called_root (as_cond root.own) n) now → owes_in root.own ≡ []
      → Dequeues root_view n root now
  dequeues n is none =
      let own : CondRootView = called_root (as_cond root.own) n in
      let same = sym (cond_line root.own is.kind) in
      record {
        named = named own is;
        lined = lined own is ∙ ap (drop n) same;
        owing = owes_these own (take n (as_cond root.own).line) is refl none ∙ ap (λ xs. debts (take n xs)) same;
      }

  -- all were taken
  pub dequeues_all : IsCondNow root (swept_root (as_cond root.own)) now → owes_in root.own ≡ [] → DequeuesAll root_view root now
  dequeues_all is none =
      let own : CondRootView = swept_root (as_cond root.own) in
      record {
        named = named own is;
        lined = lined own is;
        owing = owes_these own (as_cond root.own).line is refl none ∙ ap debts (sym (cond_line root.own is.kind));
      }
