use Rattle.std.proofs.Common.{ap, ◌∙◌}
use Rattle.lot_scheme.specs.Standing.{LotStanding}
use Rattle.lot_waits.specs.Counts.{counts_in}
use Rattle.lot_waits.proofs.Counts.{kept_of_none}
use Rattle.lot_sync.proofs.rooms.make_idle.Goals as goal

pub at_rest-pass-requires-clause-kept : goal.at_rest-pass-requires-clause-kept
at_rest-pass-requires-clause-kept g c κs within =
    kept_of_none g.N.LotName.locks g.N.LotName.conds (counts_in c.new.result) _ _
    (ap (λ (r : LotStanding g.row.V.Denot). r.own.conds.called) c.new.ensures ∙ c.requires.fresh.none_called)
    (ap (λ (r : LotStanding g.row.V.Denot). r.own.conds.woken) c.new.ensures ∙ c.requires.fresh.none_woken)
    c.requires.none.0 c.requires.none.1
