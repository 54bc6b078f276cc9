use Rattle.std.proofs.Common.{◌≤◌}
use Rattle.lot_rights.proofs.words.WordsOf.collect.Given as goal

abbrev pub ghosts-swap : goal.ghosts-swap
ghosts-swap g a = record { table = g.N.TellsPass.table; then = λ n p. (n ≤ 2) × g.N.TellsPass.then n p }
