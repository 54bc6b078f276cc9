use Rattle.std.proofs.Common.{rules}
use Rattle.lot_calls.proofs.finishing.take_pass.Goals as goal

pub returns-then-thread-clause-thread : goal.returns-then-thread-clause-thread
returns-then-thread-clause-thread g c = search rules
