-- Every run of lock events from the opening leads to a sound part.
use Rattle.std.proofs.Common.{List, []}
use Rattle.lot_events.specs.declared.events.Event.{Event}
use Rattle.lot_events.specs.declared.events.Seen.{Seen}
use Rattle.lot_core.specs.Parts.{LockPart, LockStep}
use Rattle.lot_core.specs.Sound.{IsSoundLockPart}
use Rattle.lot_core.proofs.LockParts.{lock_step_sound, lock_opening_sound}
use Rattle.lot_rights.specs.History.{ModelRun}
use Rattle.lot_rights.proofs.Runs.{run_keeps}
use Rattle.lot_words.specs.declared.views.Size.{Size}
use Rattle.lot_words.specs.Rule.{opening_part}

pub run_sound : (size : Size) (events : List (Event × Seen)) (part : LockPart)
    → ModelRun (LockStep size.threads size.locks) opening_part events part
    → IsSoundLockPart size.threads part
run_sound size events part run = run_keeps (LockStep size.threads size.locks) (IsSoundLockPart size.threads)
    (λ a b e saw ok step. lock_step_sound size.threads size.locks a b e saw step ok) opening_part events part run
    (lock_opening_sound size.threads size.locks 0 [])
