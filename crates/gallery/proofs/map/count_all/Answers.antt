use Rattle.std.proofs.Common.{[], rules, arith, refl}
use Rattle.std.specs.List.{sum, sum_by}
use Rattle.lot_calls.proofs.Working.{are_back, came_to, has_worked}
use Rattle.lot_calls.proofs.Sums.{sum_of_row}
use Rattle.gallery.proofs.Counting.{all_count}
use Rattle.gallery.proofs.map.count_all.Goals as goal

pub close_with-requires-clause-back : goal.close_with-requires-clause-back
close_with-requires-clause-back g c κs within =
    are_back _ _ _ _ _ _ c.take_all.ensures.taken c.work_all.ensures.each (λ p q r x. x.back)

pub returns-clause-total : goal.returns-clause-total
returns-clause-total g c =
    came_to _ c.take_all.ensures.taken c.work_all.ensures.each c.close_with.ensures.ends (λ p q r x. x.back) sum (λ s. sum_by sum s.rows)
    4 1024 (search rules) (omega arith) (λ k v kept. sum_of_row sum [] v.rows 4 kept.rows) (λ p q r x. omega (arith, x.added, r.rests))

pub returns-clause-each : goal.returns-clause-each
returns-clause-each g c =
    all_count _ _ _ _ _
    (λ t near. has_worked _ _ _ _ _ _ c.take_all.ensures.taken c.work_all.ensures.each (λ p q r x. x.back) _ c.close_with.ensures.ends t
    (search rules))
    (λ p q x. x) refl (λ k v kept. kept) (λ p rests. rests) (search rules)
