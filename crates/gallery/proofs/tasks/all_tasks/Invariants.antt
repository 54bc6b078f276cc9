use Rattle.std.proofs.Common.{◌≡◌, ◌≤◌}
use Rattle.std.specs.VecDeque.{deque_len, deque_capacity}
use Rattle.gallery.specs.Tasks.{AllBelow}
use Rattle.gallery.proofs.tasks.all_tasks.Given as goal

abbrev pub invariant-loop-task : goal.invariant-loop-task
invariant-loop-task l = AllBelow l.task l.tasks.items × (deque_len l.tasks ≡ l.task) × (200 ≤ deque_capacity l.tasks)
