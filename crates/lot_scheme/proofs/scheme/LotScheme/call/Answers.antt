use Rattle.std.proofs.Common.{rules}
use Rattle.lot_scheme.proofs.CondNotes.{cond_root}
use Rattle.lot_scheme.proofs.Counts.{called_on}
use Rattle.lot_scheme.proofs.scheme.LotScheme.call.Goals as goal

pub lay_down-requires-clause-counted : goal.lay_down-requires-clause-counted
lay_down-requires-clause-counted g c =
    let root = c.take_up-root.result.0 in
    called_on (g.C.Tally.counts c.take_up-root.result.1) root c.call-pass.result.1 c.args.count
    (search (rules, cond_root)) c.call-pass.ensures.root c.take_up-root.ensures.counted
