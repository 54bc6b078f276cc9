-- Every run of condition events from the opening leads to a sound part.
use Rattle.std.proofs.Common.{List, []}
use Rattle.lot_events.specs.declared.events.Event.{Event}
use Rattle.lot_events.specs.declared.events.Seen.{Seen}
use Rattle.lot_core.specs.Parts.{CondPart}
use Rattle.lot_core.specs.Sound.{IsSoundCondPart}
use Rattle.lot_core.proofs.CondParts.{cond_step_sound}
use Rattle.lot_core.proofs.PartLaws.{opening_parts}
use Rattle.lot_rights.specs.History.{ModelRun}
use Rattle.lot_rights.proofs.Runs.{run_keeps}
use Rattle.lot_conds.specs.declared.views.Size.{Size}
use Rattle.lot_conds.specs.Rule.{opening_part, IsStep}

pub run_sound : (size : Size) (events : List (Event × Seen)) (part : CondPart) → ModelRun (IsStep size) opening_part events part
    → IsSoundCondPart size.threads part
run_sound size events part run = run_keeps (IsStep size) (IsSoundCondPart size.threads)
    (λ a b e saw ok step. cond_step_sound size.threads size.locks size.conds a b e saw step ok) opening_part events part run
    (opening_parts size.threads size.locks size.conds []).conds
