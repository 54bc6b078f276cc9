use Rattle.std.proofs.Common.{◌+◌, [], List, subst, refl, sym, ap, ◌∙◌, arith, take}
use Rattle.lot_core.specs.declared.semaphores.Semaphore.{Semaphore}
use Rattle.lot_core.specs.Rows.{row_from}
use Rattle.lot_core.proofs.SemaphoreRows.{AreNew, none_new, one_new, all_new, new_count, new_rows}
use Rattle.lot_core.proofs.semaphores.Semaphores.new.Goals as goal

pub loop-number-init : goal.loop-number-init
loop-number-init c = subst (AreNew c.args.threads []) (sym (c.in_ok-items.ensures {u = tt}).items) (none_new c.args.threads)

pub loop-number-preserved : goal.loop-number-preserved
loop-number-preserved c =
    let m = c.in_ok-new.field-0 in
    let made = c.in_ok-new.ensures {u = tt} in
    subst (AreNew c.args.threads (take (c.loop-number.number-index + 1) c.args.permits.now))
    (sym {A = List Semaphore} (c.in_ok-push.ensures {u = tt}).items)
    (one_new c.args.threads c.args.permits.now c.loop-number.items.items c.loop-number.number-index m c.loop-number.invariant (omega arith)
    made.permits.0 made.permits.1 made.out.0 made.out.1)

pub invariant_of-result : goal.invariant_of-result
invariant_of-result c =
    let all = all_new c.args.threads c.args.permits.now c.loop-number.items.items c.loop-number.number-index c.loop-number.invariant
    c.loop-number-test.false in
    let count = new_count c.args.threads c.args.permits.now c.loop-number.items.items all in
    let keys = (c.in_ok-lines.ensures {u = tt}).keys in record {
      keys_fit = omega (arith, count, c.requires);
      out_each = all.wide;
      line_each = (keys.0, keys.1 ∙ sym count);
    }

pub returns-clause-numbers : goal.returns-clause-numbers
returns-clause-numbers c =
    let all = all_new c.args.threads c.args.permits.now c.loop-number.items.items c.loop-number.number-index c.loop-number.invariant
    c.loop-number-test.false in
    (refl, refl, new_count c.args.threads c.args.permits.now c.loop-number.items.items all)

pub returns-clause-permits : goal.returns-clause-permits
returns-clause-permits c =
    let all = all_new c.args.threads c.args.permits.now c.loop-number.items.items c.loop-number.number-index c.loop-number.invariant
    c.loop-number-test.false in
    ap (row_from 0 c.args.first_sem) all.permits_are

pub returns-clause-sems : goal.returns-clause-sems
returns-clause-sems c =
    let all = all_new c.args.threads c.args.permits.now c.loop-number.items.items c.loop-number.number-index c.loop-number.invariant
    c.loop-number-test.false in
    new_rows c.args.threads c.args.first_sem c.args.permits.now c.loop-number.items.items _ all (c.in_ok-lines.ensures {u = tt}).empty
