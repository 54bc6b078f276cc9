use Rattle.lot_permits.proofs.Seeking.{laws}
use Rattle.lot_permits.proofs.getting.get_slowly.Goals as goal

pub get_or_park-requires-clause-laws : goal.get_or_park-requires-clause-laws
get_or_park-requires-clause-laws g c κs within = laws g.V.Keeps.above g.N.LotName.first_sem
