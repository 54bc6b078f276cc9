use Rattle.std.proofs.Common.{inl, arith}
use Rattle.lot_locks.proofs.Seeking.{laws, begins}
use Rattle.base_trials.proofs.Calm.{any, may_take, owner_has_it}
use Rattle.base_trials.proofs.kinds.locks.OnGated.own.Goals as goal

pub get_or_park-requires-clause-laws : goal.get_or_park-requires-clause-laws
get_or_park-requires-clause-laws g c κs within = laws _ g.N.LotName.locks

pub get_or_park-requires-clause-waits : goal.get_or_park-requires-clause-waits
get_or_park-requires-clause-waits g c κs within =
    let two = c.args.self.now.small.0.0 in
    begins any g.N.LotName.locks c.args.pass 0 (omega (arith, two)) (may_take c.requires.pass.0 0 c.args.pass (inl c.requires.pass.1))

pub returns : goal.returns
returns g c = λ t calm. owner_has_it _ t 0 c.args.pass c.get_or_park.result (inl calm) c.get_or_park.ensures.got
