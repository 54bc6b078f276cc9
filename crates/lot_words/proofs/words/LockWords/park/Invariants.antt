use Rattle.lot_words.proofs.Turns.{Parks}
use Rattle.lot_words.proofs.words.LockWords.park.Given as goal

-- The load tells by the word that it found whether the thread is queued: only then does the pass sleep,
-- and only then has the root it last in its line.
abbrev pub ghosts-load_both : goal.ghosts-load_both
ghosts-load_both g a = record { table = a.pass.table; then = Parks a.pass a.root }
