use Rattle.std.proofs.Common.{subst}
use Rattle.lot_rights.specs.Steps.{Moment}
use Rattle.lot_whole.specs.Shown.{LotWordsShown, lot_of}
use Rattle.lot_whole.proofs.words.LotWords.check_root.Goals as goal

pub check_root-requires-clause-tells : goal.check_root-requires-clause-tells
check_root-requires-clause-tells g c = λ moment. moment

pub returns-clause-moment : goal.returns-clause-moment
returns-clause-moment g c =
    subst (λ (z : LotWordsShown g.row.V.Denot). Moment (lot_of g.V.Keeps z) c.args.root) c.self.view_is c.check_root.ensures.fact
