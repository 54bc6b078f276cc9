use Rattle.std.proofs.Common.{arith}
use Rattle.lot_calls.proofs.Working.{are_back}
use Rattle.gallery.proofs.tasks.do_all.Goals as goal

pub close_with-requires-clause-back : goal.close_with-requires-clause-back
close_with-requires-clause-back g c κs within = are_back _ _ _ _ _ _ c.take_all.ensures.taken c.work_all.ensures.each (λ p q r x. x.back)

pub returns-clause-done : goal.returns-clause-done
returns-clause-done g c pool at =
    let (i, q, near, is, saw) = c.close_with.ensures.seen 0 pool at in
    (c.work_all.ensures.each.each i q (omega (arith, near, c.work_all.ensures.each.count))).done pool (rw is saw)
