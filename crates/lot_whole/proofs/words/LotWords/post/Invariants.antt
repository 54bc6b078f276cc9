use Rattle.lot_rights.specs.declared.views.Access.TheVariants.{Posts}
use Rattle.lot_rights.specs.Steps.{RootNotes}
use Rattle.lot_whole.specs.Calls.{paid}
use Rattle.lot_whole.proofs.words.LotWords.post.Given as goal

abbrev pub ghosts-post : goal.ghosts-post
ghosts-post g a = record
    { table = a.root.table; then = λ n. RootNotes a.root (paid a.root.own a.thread) (Posts a.root.key a.thread a.token) }
