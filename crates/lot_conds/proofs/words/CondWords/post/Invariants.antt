use Rattle.lot_conds.proofs.Turns.{Pays}
use Rattle.lot_conds.proofs.words.CondWords.post.Given as goal

abbrev pub ghosts-post : goal.ghosts-post
ghosts-post a = record { table = a.root.table; then = λ n. Pays a.root a.thread }
