use Rattle.lot_locks.proofs.Seeking.{laws, begins}
use Rattle.lot_locks.proofs.getting.get_slowly.Goals as goal

pub get_or_park-requires-clause-laws : goal.get_or_park-requires-clause-laws
get_or_park-requires-clause-laws g c κs within = laws g.V.Keeps g.N.LotName.locks

pub get_or_park-requires-clause-waits : goal.get_or_park-requires-clause-waits
get_or_park-requires-clause-waits g c κs within =
    begins g.V.Keeps.above g.N.LotName.locks c.args.pass c.args.key c.requires.key.0 c.requires.may
