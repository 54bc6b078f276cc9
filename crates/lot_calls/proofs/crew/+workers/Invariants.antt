use Rattle.std.proofs.Common.{◌+◌, ◌*◌, length}
use Rattle.lot_calls.proofs.crew.+workers.Given as goal

abbrev pub decreases-work_beside-others : goal.decreases-work_beside-others
decreases-work_beside-others g l = 4 * length l.all.now.items + 1

abbrev pub decreases-work_all : goal.decreases-work_all
decreases-work_all g l = 4 * length l.all.now.items

abbrev pub decreases-work_beside : goal.decreases-work_beside
decreases-work_beside g l = 4 * length l.all.now.items + 2
