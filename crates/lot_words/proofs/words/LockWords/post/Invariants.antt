use Rattle.lot_words.proofs.Roots.{Pays}
use Rattle.lot_words.proofs.words.LockWords.post.Given as goal

abbrev pub ghosts-post : goal.ghosts-post
ghosts-post g a = record { table = a.root.table; then = λ n. Pays a.root a.thread a.token }
