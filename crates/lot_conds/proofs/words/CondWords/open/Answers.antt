use Rattle.std.proofs.Common.{◌+◌, replicate, sym, subst}
use Rattle.lot_rights.specs.Layout.{word_count}
use Rattle.lot_rights.specs.Start.{OpensWell}
use Rattle.lot_conds.specs.declared.views.Size.{Size}
use Rattle.lot_conds.specs.Rule.{meaning}
use Rattle.lot_conds.proofs.Opens.{opens_well}
use Rattle.lot_conds.proofs.words.CondWords.open.Goals as goal

pub open-requires-clause-opens : goal.open-requires-clause-opens
open-requires-clause-opens c =
    let size : Size = record { threads = c.args.threads; locks = c.args.locks; conds = c.args.conds } in
    subst (OpensWell (meaning size) (replicate (word_count c.args.threads (c.args.locks + c.args.conds)) 0)) (sym c.new.ensures.items)
    (opens_well size c.requires.limits.2)
