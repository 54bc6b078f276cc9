use Rattle.std.proofs.Common.{arith, refl}
use Rattle.lot_core.proofs.Places.{place_more, all_places, of_place}
use Rattle.lot_core.proofs.state.State.do_all_wait.Goals as goal

pub loop-place-preserved : goal.loop-place-preserved
loop-place-preserved c = place_more _ _ _ _ c.loop-place.invariant c.at.ensures (c.if-not-is_waiting.ensures.0 refl)

pub returns : goal.returns
returns c = (
  (λ yes. all_places _ _ _ (omega (arith, c.len-place-end.ensures, c.loop-place-test.false)) c.loop-place.invariant),
  (λ all. refl),
)

pub returns-then-not-is_waiting : goal.returns-then-not-is_waiting
returns-then-not-is_waiting c = ((λ no. absurd (cc)), (λ all. c.if-not-is_waiting.ensures.1 (of_place _ _ _ _ c.at.ensures all)))
