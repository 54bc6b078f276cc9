use Rattle.std.proofs.Common.{rules}
use Rattle.lot_scheme.proofs.CondNotes.{cond_root}
use Rattle.lot_scheme.proofs.Counts.{swept_on}
use Rattle.lot_scheme.proofs.scheme.LotScheme.sweep.Goals as goal

pub lay_down-requires-clause-counted : goal.lay_down-requires-clause-counted
lay_down-requires-clause-counted g c =
    let root = c.take_up-root.result.0 in
    swept_on (g.C.Tally.counts c.take_up-root.result.1) root c.sweep-pass.result.1
    (search (rules, cond_root)) c.sweep-pass.ensures.root c.take_up-root.ensures.counted
