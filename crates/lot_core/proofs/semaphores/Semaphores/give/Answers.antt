use Rattle.std.proofs.Common.{◌≤◌, subst, arith, refl}
use Rattle.lot_core.proofs.SemaphoreRows.{item_out, item_wide, give_write, numbers_kept}
use Rattle.lot_core.proofs.semaphores.Semaphores.give.Goals as goal

pub give-requires : goal.give-requires
give-requires c =
    let s = c.args.self.now in
    let m = c.index_mut.result.now in (
      omega (arith, item_wide s c.args.sem m c.requires.key c.index_mut.ensures.value, c.requires.thread.0),
      subst (λ n. 1 ≤ n) (item_out s c.args.sem c.args.thread m c.requires.key c.index_mut.ensures.value) c.requires.thread.1,
    )

pub returns-clause-sems : goal.returns-clause-sems
returns-clause-sems c =
    give_write c.args.self.now c.args.sem c.args.thread c.index_mut.result.now c.give.new.self c.requires.key c.requires.thread.0
    c.index_mut.ensures.value c.give.ensures.others.1 c.give.ensures.left c.give.ensures.out

pub returns-clause-numbers : goal.returns-clause-numbers
returns-clause-numbers c =
    let kept = numbers_kept _ _ _ _ _ c.requires.key.0 c.requires.key.1 c.index_mut.ensures.value c.give.ensures.others.0 in
    (refl, refl, kept.0, kept.1)
