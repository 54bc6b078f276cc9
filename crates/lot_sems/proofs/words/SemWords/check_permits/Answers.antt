use Rattle.std.proofs.Common.{arith}
use Rattle.lot_sems.proofs.Headlines.{two_of}
use Rattle.lot_sems.proofs.words.SemWords.check_permits.Goals as goal

pub check_two-requires-clause-tells : goal.check_two-requires-clause-tells
check_two-requires-clause-tells c w ws hs ok first second ne k =
    omega (
      arith,
      ok.sound.permits_conserved k,
      first.out k,
      second.out k,
      two_of _ (w.part.sems.out k) c.args.first.thread c.args.second.thread ne first.near second.near,
    )
