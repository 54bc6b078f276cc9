use Rattle.lot_sems.proofs.Roots.{Pays}
use Rattle.lot_sems.proofs.words.SemWords.post.Given as goal

abbrev pub ghosts-post : goal.ghosts-post
ghosts-post a = record { table = a.root.table; then = λ n. Pays a.root a.thread }
