use Rattle.std.proofs.Common.{rules}
use Rattle.lot_table.proofs.table.Table.lock_with_place.Goals as goal

pub returns-then-has_place_for-clause-place : goal.returns-then-has_place_for-clause-place
returns-then-has_place_for-clause-place g c = search rules
