use Rattle.std.proofs.Common.{rules}
use Rattle.lot_table.proofs.table.Table.with_bucket.Goals as goal

pub returns : goal.returns
returns g c = search rules
