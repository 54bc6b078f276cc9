use Rattle.std.proofs.Common.{rules}
use Rattle.lot_park.proofs.parking.pay.Goals as goal

pub returns-in-Some-clause-paid : goal.returns-in-Some-clause-paid
returns-in-Some-clause-paid g c = search rules
