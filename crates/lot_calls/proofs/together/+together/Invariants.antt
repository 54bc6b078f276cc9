use Rattle.std.proofs.Common.{◌+◌, ◌*◌, length}
use Rattle.lot_calls.proofs.together.+together.Given as goal

abbrev pub decreases-start_all : goal.decreases-start_all
decreases-start_all g l = 4 * length l.all.items

abbrev pub decreases-start_beside : goal.decreases-start_beside
decreases-start_beside g l = 4 * length l.all.value.items + 2

abbrev pub decreases-start_beside-scope : goal.decreases-start_beside-scope
decreases-start_beside-scope g l = 4 * length l.all.value.items + 1
