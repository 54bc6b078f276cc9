-- Every run of semaphore events from the opening leads to a sound part.
use Rattle.std.proofs.Common.{List, length}
use Rattle.lot_core.specs.Parts.{SemaphorePart}
use Rattle.lot_core.proofs.Permits.{semaphore_step_sound}
use Rattle.lot_events.specs.declared.events.Event.{Event}
use Rattle.lot_events.specs.declared.events.Seen.{Seen}
use Rattle.lot_rights.specs.History.{ModelRun}
use Rattle.lot_rights.proofs.Runs.{run_keeps}
use Rattle.lot_sems.specs.World.{Numbers, permits_of}
use Rattle.lot_sems.specs.Rule.{opening_part, IsStep, IsSound}
use Rattle.lot_sems.proofs.Opens.{opening_sound}

pub run_sound : (size : Numbers) (events : List (Event × Seen)) (part : SemaphorePart)
    → ModelRun (IsStep size) (opening_part size) events part
    → IsSound size part
run_sound size events part run = run_keeps (IsStep size) (IsSound size)
    (λ a b e saw ok step. semaphore_step_sound size.threads size.first_sem (length size.permits) (permits_of size) a b e saw step ok)
    (opening_part size) events part run (opening_sound size)
