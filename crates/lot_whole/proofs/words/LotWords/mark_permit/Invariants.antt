use Rattle.lot_whole.proofs.Seekers.{MarksPermit}
use Rattle.lot_whole.proofs.words.LotWords.mark_permit.Given as goal

abbrev pub ghosts-compare_exchange : goal.ghosts-compare_exchange
ghosts-compare_exchange g a = record { table = a.pass.table; then = MarksPermit a.pass a._about }
