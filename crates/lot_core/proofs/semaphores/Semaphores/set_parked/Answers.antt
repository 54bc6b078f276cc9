use Rattle.std.proofs.Common.{refl}
use Rattle.lot_core.specs.Lines.{line_of}
use Rattle.lot_core.proofs.SemaphoreRows.{rows_parked, numbers_kept}
use Rattle.lot_core.proofs.semaphores.Semaphores.set_parked.Goals as goal

pub returns-clause-sems : goal.returns-clause-sems
returns-clause-sems c =
    let s = c.args.self.now in
    rows_parked s.first_sem s.items.items (line_of s.lines) c.args.sem c.index_mut.result.now _ c.requires.0 c.requires.1
    c.index_mut.ensures.value refl refl

pub returns-clause-numbers : goal.returns-clause-numbers
returns-clause-numbers c =
    let kept = numbers_kept _ _ _ _ _ c.requires.0 c.requires.1 c.index_mut.ensures.value refl in
    (refl, refl, kept.0, kept.1)
