use Rattle.std.proofs.Common.{true, false}
use Rattle.lot_words.proofs.Roots.{Passes}
use Rattle.lot_words.proofs.words.LockWords.pass_on.Given as goal

abbrev pub ghosts-load_both : goal.ghosts-load_both
ghosts-load_both g a = record { table = a.pass.table; then = λ n. Passes a.pass a.root a.root.own.line true a._about }

abbrev pub ghosts-store_both : goal.ghosts-store_both
ghosts-store_both g a = record { table = a.pass.table; then = λ n. Passes a.pass a.root a.root.own.line false a._about }
