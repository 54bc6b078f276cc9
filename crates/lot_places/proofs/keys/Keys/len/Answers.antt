use Rattle.std.proofs.Common.{sym}
use Rattle.lot_places.proofs.Spacing.{length-spaced}
use Rattle.lot_places.proofs.keys.Keys.len.Goals as goal

pub returns-in-Spaced : goal.returns-in-Spaced
returns-in-Spaced c = rw c.in-Spaced.is (sym (length-spaced c.in-Spaced.first c.in-Spaced.step c.in-Spaced.count))
