-- One more event of a run.
use Rattle.std.proofs.Common.{◌≡◌, ◌<◌, ◌≤◌, ◌+◌, ◌++◌, ℕ, List, [], ◌∷◌, length, get_or, take, refl, sym, ap, subst, ◌∙◌}
use Rattle.std.specs.Prelude.{slice_get, Some, Err}
use Rattle.std.proofs.lemmas.List.{take_more, take_all}
use Rattle.std.proofs.lemmas.Option.{slice_get-get_or}
use Rattle.lot_events.specs.declared.events.Event.{Event}
use Rattle.lot_core.specs.declared.state.CoreFault.{CoreFault}
use Rattle.lot_core.specs.declared.state.CoreFault.TheVariants.{BadLimits, NoMemory, NotEnabled}
use Rattle.lot_core.specs.Model.{StateView}
use Rattle.lot_core.specs.Steps.{Allowed, Run, after, after_all}
use Rattle.lot_core.specs.State.{Answers, StopsAt}

-- the events up to place i led from s to r
pub record IsSoFar (s : StateView) (events : List Event) (i : ℕ) (r : StateView) : Type 0 where
  pub run : Run s (take i events)
  pub state : r ≡ after_all s (take i events)

pub run_push : (s : StateView) (events : List Event) (e : Event) → Run s events → Allowed (after_all s events) e → Run s (events ++ e ∷ [])
run_push s [] e run ok = (ok, tt)
run_push s (x ∷ events) e run ok = (run.0, run_push (after s x) events e run.1 ok)

pub after_push : (s : StateView) (events : List Event) (e : Event) → after_all s (events ++ e ∷ []) ≡ after (after_all s events) e
after_push s [] e = refl
after_push s (x ∷ events) e = after_push (after s x) events e

-- one more event that was made
pub so_more : (s r q : StateView) (events : List Event) (i : ℕ) (e : Event) → IsSoFar s events i r → i < length events
    → e ≡ get_or events i e →
    Allowed r e → q ≡ after r e → IsSoFar s events (i + 1) q
so_more s r q events i e so within is ok made =
    let one_more : take i events ++ e ∷ [] ≡ take (i + 1) events =
    ap (λ x. take i events ++ x ∷ []) is ∙ sym (take_more events i e within) in
    record {
      run = subst (λ xs. Run s xs) one_more (run_push s (take i events) e so.run (subst (λ w. Allowed w e) so.state ok));
      state = made ∙ ap (λ (w : StateView). after w e) so.state ∙ sym (after_push s (take i events) e) ∙ ap (after_all s) one_more;
    }

-- and one that was refused
pub so_stops : (s r q : StateView) (events : List Event) (i : ℕ) (e : Event) (fault : CoreFault) → IsSoFar s events i r
    → slice_get events i ≡ Some e →
    Answers r e (Err fault) q → q ≡ r → StopsAt s events i fault q
so_stops s r q events i e fault so is answers same =
    (so.run, same ∙ so.state, (e, is, subst (λ w. Answers w e (Err fault) q) (sym same) answers))

-- an event that was refused changed nothing
pub refused_same : (r q : StateView) (e : Event) (fault : CoreFault) → Answers r e (Err fault) q → q ≡ r
refused_same r q e NotEnabled answers = answers.1
refused_same r q e NoMemory answers = answers.2
refused_same r q e BadLimits answers = absurd answers

-- the event at place i that was refused
pub so_refused : (s r q : StateView) (events : List Event) (i : ℕ) (d : Event) (fault : CoreFault) → IsSoFar s events i r
    → i < length events →
    Answers r (get_or events i d) (Err fault) q → StopsAt s events i fault q
so_refused s r q events i d fault so within answers =
    so_stops s r q events i (get_or events i d) fault so (slice_get-get_or events i d within) answers
    (refused_same r q (get_or events i d) fault answers)

-- all events
pub so_all : (s r : StateView) (events : List Event) (i : ℕ) → IsSoFar s events i r → length events ≤ i → Run s events
    × (r ≡ after_all s events)
so_all s r events i so past =
    let all : take i events ≡ events = take_all i events past in (subst (λ xs. Run s xs) all so.run, so.state ∙ ap (after_all s) all)
