use Rattle.lot_locks.specs.Released.{FreeTrace}
use Rattle.lot_sync.proofs.Calls.{sees_left_at, adds_left}
use Rattle.lot_sync.proofs.Rests.{rests_free}
use Rattle.lot_sync.proofs.Holdings.{sees_left}
use Rattle.lot_sync.proofs.lot.Lot.unlock_as.Goals as goal

pub at_rest-requires-clause-rest : goal.at_rest-requires-clause-rest
at_rest-requires-clause-rest g c κs within =
    let b = c.given_back-right.ensures in
    rests_free _ _ g.V.Keeps.grows_on c.given_back-right.result.0 c.let_go-right.result.0 c.key-key.result c.args.held.value
    c.let_go-right.result.1
    b.locks b.owner b.lies b.grown c.let_go-right.ensures.went

pub returns-clause-pass : goal.returns-clause-pass
returns-clause-pass g c =
    let b = c.given_back-right.ensures in
    sees_left_at c.key-key.ensures b.same c.at_rest.ensures.pass b.lies c.let_go-right.ensures.went

pub returns-clause-made : goal.returns-clause-made
returns-clause-made g c =
    adds_left (λ t k. FreeTrace t k c.let_go-right.result.1) c.key-key.ensures c.given_back-right.ensures.same c.at_rest.ensures.pass
    c.let_go-right.ensures.went (λ told. told)

pub returns-clause-seen : goal.returns-clause-seen
returns-clause-seen g c =
    sees_left _ c.args.pass c.at_rest.result c.args.held.key c.args.held.value c.requires.key c.at_rest.ensures.shape
    (returns-clause-pass g c)
