-- One more event that saw what is said of it.
use Rattle.std.proofs.Common.{◌≡◌, ◌<◌, ◌≤◌, ◌+◌, ◌++◌, ℕ, List, [], ◌∷◌, length, get_or, take, refl, sym, ap, subst, ◌∙◌}
use Rattle.std.specs.Prelude.{Err}
use Rattle.std.proofs.lemmas.List.{take_more, take_all}
use Rattle.std.proofs.lemmas.Option.{slice_get-get_or}
use Rattle.lot_events.specs.declared.events.Event.{Event}
use Rattle.lot_core.specs.Model.{StateView}
use Rattle.lot_core.specs.Steps.{Allowed, Run, after, after_all, seen}
use Rattle.lot_core.specs.declared.state.CoreFault.{CoreFault}
use Rattle.lot_core.specs.declared.state.CoreFault.TheVariants.{BadLimits, NoMemory, NotEnabled}
use Rattle.lot_core.specs.State.{Answers, TakesMemory}
use Rattle.lot_witness.specs.declared.witness.Sighting.{Sighting}
use Rattle.lot_witness.specs.Judging.{RunSaw, StopsAt, events_of}

-- the sightings before place i led from s to r
pub record IsSoFar (s : StateView) (xs : List Sighting) (i : ℕ) (r : StateView) : Type 0 where
  pub run : RunSaw s (take i xs)
  pub state : r ≡ after_all s (events_of (take i xs))

pub saw_push : (s : StateView) (xs : List Sighting) (x : Sighting) → RunSaw s xs → Allowed (after_all s (events_of xs)) x.event →
    seen (after_all s (events_of xs)) x.event ≡ x.saw → RunSaw s (xs ++ x ∷ [])
saw_push s [] x run ok saw = (ok, saw, tt)
saw_push s (y ∷ xs) x run ok saw = (run.0, run.1, saw_push (after s y.event) xs x run.2 ok saw)

pub after_one : (s : StateView) (xs : List Sighting) (x : Sighting) →
    after_all s (events_of (xs ++ x ∷ [])) ≡ after (after_all s (events_of xs)) x.event
after_one s [] x = refl
after_one s (y ∷ xs) x = after_one (after s y.event) xs x

pub so_more : (s r q : StateView) (xs : List Sighting) (i : ℕ) (x : Sighting) → IsSoFar s xs i r → i < length xs → x ≡ get_or xs i x →
    Allowed r x.event → q ≡ after r x.event → seen r x.event ≡ x.saw → IsSoFar s xs (i + 1) q
so_more s r q xs i x so within is ok made saw =
    let one_more : take i xs ++ x ∷ [] ≡ take (i + 1) xs = ap (λ y. take i xs ++ y ∷ []) is ∙ sym (take_more xs i x within) in
    record {
      run = subst (RunSaw s) one_more
          (saw_push s (take i xs) x so.run (subst (λ w. Allowed w x.event) so.state ok) (subst (λ w. seen w x.event ≡ x.saw) so.state saw));
      state = made ∙ ap (λ (w : StateView). after w x.event) so.state ∙ sym (after_one s (take i xs) x)
          ∙ ap (λ ys. after_all s (events_of ys)) one_more;
    }

-- and one that failed
pub so_stops : (s r : StateView) (xs : List Sighting) (i : ℕ) (d : Sighting) (P : StateView → Sighting → Type 0) → IsSoFar s xs i r
    → i < length xs → P r (get_or xs i d) → StopsAt s xs i P
so_stops s r xs i d P so within fails =
    (so.run, (get_or xs i d, slice_get-get_or xs i d within, subst (λ w. P w (get_or xs i d)) so.state fails))

-- what the step said of it
pub lacks : (r q : StateView) (e : Event) (fault : CoreFault) → Answers r e (Err fault) q → fault ≡ NoMemory → Allowed r e × TakesMemory r e
lacks r q e NoMemory answers is = (answers.0, answers.1)
lacks r q e NotEnabled answers is = absurd (cc)
lacks r q e BadLimits answers is = absurd answers

pub refuses : (r q : StateView) (e : Event) (fault : CoreFault) → Answers r e (Err fault) q → fault ≡ NotEnabled → ¬ Allowed r e
refuses r q e NotEnabled answers is = answers.0
refuses r q e NoMemory answers is = absurd (cc)
refuses r q e BadLimits answers is = absurd answers

-- all of them
pub so_all : (s r : StateView) (xs : List Sighting) (i : ℕ) → IsSoFar s xs i r → length xs ≤ i → RunSaw s xs
    × (r ≡ after_all s (events_of xs))
so_all s r xs i so past =
    let all : take i xs ≡ xs = take_all i xs past in
    (subst (RunSaw s) all so.run, so.state ∙ ap (λ ys. after_all s (events_of ys)) all)

-- what saw that is a run
pub is_run : (s : StateView) (xs : List Sighting) → RunSaw s xs → Run s (events_of xs)
is_run s [] saw = tt
is_run s (x ∷ xs) saw = (saw.0, is_run (after s x.event) xs saw.2)
