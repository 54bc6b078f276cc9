use Rattle.std.proofs.Common.{arith}
use Rattle.lot_sync.proofs.Rests.{rests_again}
use Rattle.lot_sync.proofs.lot.Lot.taken.Goals as goal

pub at_rest-requires-clause-rest : goal.at_rest-requires-clause-rest
at_rest-requires-clause-rest g c κs within =
    let same = c.parking.ensures.keys.0 in
    let near = c.requires.key in
    rests_again _ _ c.args.right c.value_out-right.result.0 c.args.key
    (omega (arith, same, near)) c.requires.owner c.value_out-right.ensures.out
