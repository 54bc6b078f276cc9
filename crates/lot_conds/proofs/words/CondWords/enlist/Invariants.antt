use Rattle.lot_conds.proofs.Turns.{Enlists}
use Rattle.lot_conds.proofs.words.CondWords.enlist.Given as goal

-- The store sets the flag whatever it was, so it is told of each word that it may have found
-- that the thread is queued then.
abbrev pub ghosts-store_both : goal.ghosts-store_both
ghosts-store_both a = record { table = a.pass.table; then = λ n. Enlists a.pass a.root }
