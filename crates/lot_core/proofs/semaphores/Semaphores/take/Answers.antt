use Rattle.std.proofs.Common.{◌∙◌, refl, arith}
use Rattle.lot_core.proofs.SemaphoreRows.{item_left, take_write, numbers_kept}
use Rattle.lot_core.proofs.semaphores.Semaphores.take.Goals as goal

pub take-requires-clause-left : goal.take-requires-clause-left
take-requires-clause-left c =
    omega (
      arith,
      c.if-left-eq0.false,
      c.left.ensures,
      item_left c.args.self.now c.args.sem c.index_mut.result.now c.requires.key c.index_mut.ensures.value,
    )

pub returns-clause-sems : goal.returns-clause-sems
returns-clause-sems c =
    take_write c.args.self.now c.args.sem c.args.thread c.index_mut.result.now c.take.new.self c.requires.key c.requires.thread
    c.index_mut.ensures.value (λ e. c.if-left-eq0.false (c.left.ensures ∙ e)) c.take.ensures.others.1 c.take.ensures.left c.take.ensures.out

pub returns-clause-numbers : goal.returns-clause-numbers
returns-clause-numbers c =
    let kept = numbers_kept _ _ _ _ _ c.requires.key.0 c.requires.key.1 c.index_mut.ensures.value c.take.ensures.others.0 in
    (refl, refl, kept.0, kept.1)
