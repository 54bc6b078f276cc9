-- A pass that came back to `close` shows the accesses that were made with it: so those by which it let a lock go stand
-- in the one run of its lot.
use Rattle.std.proofs.Common.{◌≡◌, ℕ, ◌*◌, ◌<◌, true, false, List, [], ◌∷◌, ◌++◌, sym, ap, subst, ◌∙◌, append_assoc, inl, inr}
use Rattle.std.specs.List.{All, Any}
use Rattle.std.proofs.lemmas.List.Elements.{All-nil, All-cons}
use Rattle.lot_core.specs.Sound.{IsSound}
use Rattle.lot_events.specs.declared.events.Event.TheVariants.{Free, Pass}
use Rattle.lot_events.specs.declared.events.Seen.TheVariants.{Bool as Saw, Sleeper}
use Rattle.lot_rights.specs.declared.views.Access.TheVariants.{Makes}
use Rattle.lot_rights.specs.declared.views.Entry.{Entry}
use Rattle.lot_rights.specs.History.{events_in}
use Rattle.lot_rights.proofs.Totals.{any_all}
use Rattle.lot_locks.specs.declared.released.Released.{Released}
use Rattle.lot_locks.specs.Released.{FreeTrace}
use Rattle.lot_sync.specs.Lot.{PassView, LotNames}
use Rattle.lot_sync.specs.Traces.{Adds}
use Rattle.lot_whole.specs.Closing.{IsQuiet}
use Rattle.lot_whole.specs.Order.{accesses_of}
use Rattle.lot_sync.specs.Closing.{HasOneRun}
use Rattle.lot_trials.proofs.Splits.{is_in_log, any_in_log}
use Rattle.lot_trials.specs.Runs.{HasReleased, LetsGo, HasLetGo, HasWholeRun}

module _ {V : Type 0} where
  -- an unlock lets a lock go
  pub released_by : (p q : PassView V) (l : ℕ) (became : Released) → q.thread ≡ p.thread
      → Adds p.made (FreeTrace p.thread l became) q.made → HasReleased q
  released_by p q l became same (did, is, inl (quiet, trace)) = record {
    front = p.made;
    back = [];
    event = Free p.thread l;
    saw = Saw true;
    going = sym same;
    made = is ∙ ap (λ xs. p.made ++ xs) trace;
  }
  released_by p q l became same (did, is, inr (more, rest, (first, fair, decided, says, passed), trace)) = record {
    front = p.made ++ Makes (Free p.thread l) (Saw false) ∷ [];
    back = [];
    event = Pass p.thread l fair more;
    saw = Sleeper first;
    going = sym same;
    made = is ∙ (ap (λ xs. p.made ++ xs) (trace ∙ ap (λ xs. Makes (Free p.thread l) (Saw false) ∷ xs) passed)
        ∙ sym (append_assoc p.made (Makes (Free p.thread l) (Saw false) ∷ []) (Makes (Pass p.thread l fair more) (Sleeper first) ∷ [])));
  }

  -- what was made with a pass stands in the log
  let_go : (log : List Entry) (p : PassView V) → p.made ≡ accesses_of (2 * p.thread) log → HasReleased p → HasLetGo (events_in log) p.thread
  let_go log p own has =
      let there = is_in_log p.thread log has.front (Makes has.event has.saw) has.back (sym own ∙ has.made) in
      any_in_log (λ x. LetsGo p.thread x.0 x.1) log there.before there.entry there.after has.event has.saw there.at
      there.access_is has.going

  -- where each thread's pass came back, and had let a lock go
  pub whole_run : (names : LotNames V) (passes : List (PassView V)) → HasOneRun names passes → All HasReleased passes
      → ((t : ℕ) → t < names.threads → Any (λ (p : PassView V). p.thread ≡ t) passes) → HasWholeRun names
  whole_run names passes has released all =
      let log : List Entry = has.told.recounted.log in
      let Both : PassView V → Type 0 = λ p. HasReleased p × (p.made ≡ accesses_of (2 * p.thread) log) in (
        events_in log,
        record {
          run = has.told.run.run;
          sound = subst IsSound has.told.run.end has.told.run.sound;
          quiet = subst IsQuiet has.told.run.end has.quiet;
          let_go = λ t near.
              let one =
              any_all (λ (p : PassView V). p.thread ≡ t) Both passes (all t near) (λ k d at. (released k d at, has.made k d at)) in
              subst (HasLetGo (events_in log)) one.1 (let_go log one.0 one.2.1 one.2.0);
        },
      )

  pub both_released : (a b : PassView V) → HasReleased a → HasReleased b → All HasReleased (a ∷ b ∷ [])
  both_released a b first second = All-cons HasReleased a (b ∷ []) first (All-cons HasReleased b [] second (All-nil HasReleased))
