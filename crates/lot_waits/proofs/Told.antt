-- What is so of a pass after a whole wait, and after a notification: it is idle, and has counted so much.
use Rattle.std.proofs.Common.{◌≡◌, ℕ, Bool, true, false, List, [], ◌∷◌, inl, inr, refl, sym, ap, subst, ◌∙◌}
use Rattle.lot_events.specs.declared.events.Event.TheVariants.{Look, Call}
use Rattle.lot_events.specs.declared.events.Seen.TheVariants.{Bool as Saw, Count}
use Rattle.lot_rights.specs.declared.views.Access.{Access}
use Rattle.lot_rights.specs.declared.views.Access.TheVariants.{Makes}
use Rattle.lot_words.specs.CallersRule.{CallersRule}
use Rattle.lot_whole.specs.Family.{lock, cond, sem}
use Rattle.lot_whole.specs.Standing.{IsUp, IsIdle}
use Rattle.lot_scheme.specs.Standing.{LotStanding, adding, called_more}
use Rattle.lot_scheme.specs.Traces.{trace_of_all, trace_of_nobody}
use Rattle.lot_locks.specs.declared.released.Released.{Released}
use Rattle.lot_waits.specs.Counts.{counts_in, one_wait_more}
use Rattle.lot_waits.specs.Notifying.{FindsNobody, Notifies, NotifiesAll, HasTaken}
use Rattle.lot_waits.specs.Waiting.{HasWaited, waited}
use Rattle.lot_waits.proofs.Notified.{looked, finds_nobody}
use Rattle.lot_waits.proofs.Taken.{none_called}

module _ {V Part : Type 0} (rule : CallersRule V Part) where
  -- ---- a wait
  pub idle_waited : (p q : LotStanding V) (c l : ℕ) (became : Released) → IsIdle p.own → HasWaited rule p c l became q → IsIdle q.own
  idle_waited p q c l became idle w = subst (λ (r : LotStanding V). IsIdle r.own) (sym w.is)
      (record { up = up; aim = refl; sweeps = idle.0.sweeps; seeks = idle.0.seeks }, refl)
    where
      up : IsUp (waited p c l w.left w.found).own
      up lock = idle.0.up lock
      up cond = refl
      up sem = idle.0.up sem

  pub counts_waited : (p q : LotStanding V) (c l : ℕ) (became : Released) → HasWaited rule p c l became q
      → counts_in q ≡ one_wait_more (counts_in p) c
  counts_waited p q c l became w = ap counts_in w.is

module _ {V : Type 0} where
  -- ---- a notification
  told : (p q : LotStanding V) (c taken : ℕ) (acts : List Access) → IsIdle p.own
      → q ≡ adding (called_more p c taken) acts → HasTaken p c taken q
  told p q c taken acts idle is = record {
    idle =
        subst (λ (r : LotStanding V). IsIdle r.own) (sym is)
        (record { up = up; aim = idle.0.aim; sweeps = idle.0.sweeps; seeks = idle.0.seeks }, idle.1);
    counts = ap counts_in is;
  }
    where
      up : IsUp (called_more p c taken).own
      up lock = idle.0.up lock
      up cond = idle.0.up cond
      up sem = idle.0.up sem

  told_nobody : (p q : LotStanding V) (c taken : ℕ) → IsIdle p.own → FindsNobody p c taken q → HasTaken p c taken q
  told_nobody p q c taken idle (none, is) =
      let acts : List Access = trace_of_nobody p.thread c in
      told p q c taken acts idle (is ∙ ap (λ (r : LotStanding V). adding r acts) (sym (ap (called_more p c) none ∙ none_called p c)))

  -- its look found the flag clear
  pub told_at_once : (p q : LotStanding V) (c : ℕ) (saw : Bool) → IsIdle p.own → saw ≡ false → q ≡ looked p c saw → HasTaken p c 0 q
  told_at_once p q c saw idle clear is = told_nobody p q c 0 idle (finds_nobody p q c saw clear is)

  pub told_some : (p q : LotStanding V) (c n taken : ℕ) → IsIdle p.own → Notifies p c n taken q → HasTaken p c taken q
  told_some p q c n taken idle (inl nobody) = told_nobody p q c taken idle nobody
  told_some p q c n taken idle (inr (did, (more, says, trace), is)) =
      let acts : List Access = Makes (Look p.thread c) (Saw true) ∷ Makes (Call p.thread c n more) (Count taken) ∷ [] in
      told p q c taken acts idle (is ∙ ap (adding (called_more p c taken)) trace)

  pub told_all : (p q : LotStanding V) (c taken : ℕ) → IsIdle p.own → NotifiesAll p c taken q → HasTaken p c taken q
  told_all p q c taken idle (inl nobody) = told_nobody p q c taken idle nobody
  told_all p q c taken idle (inr is) = told p q c taken (trace_of_all p.thread c taken) idle is
