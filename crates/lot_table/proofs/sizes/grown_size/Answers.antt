use Rattle.std.proofs.Common.{rules}
use Rattle.lot_table.proofs.sizes.grown_size.Goals as goal

pub returns-else-size-threads : goal.returns-else-size-threads
returns-else-size-threads c = search rules
