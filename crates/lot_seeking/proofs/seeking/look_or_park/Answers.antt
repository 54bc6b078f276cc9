use Rattle.std.proofs.Common.{rules}
use Rattle.lot_seeking.proofs.seeking.look_or_park.Goals as goal

pub returns-then-has_got : goal.returns-then-has_got
returns-then-has_got g c = search rules
