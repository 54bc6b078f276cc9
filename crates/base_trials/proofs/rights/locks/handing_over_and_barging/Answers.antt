use Rattle.std.proofs.Common.{rules, ◌≡◌, length, vec_len, ap, ◌∙◌, arith}
use Rattle.lot_rights.specs.Shown.{PassShown, RootShown}
use Rattle.base_trials.specs.declared.rights.tally.Tally.{Tally}
use Rattle.lot_words.specs.declared.views.LockPassView.{LockPassView}
use Rattle.lot_words.specs.declared.views.LockRootView.{LockRootView}
use Rattle.lot_words.specs.Shown.{pass_at}
use Rattle.base_trials.specs.LockSchedules.{HasNothing}
use Rattle.base_trials.proofs.Dealt.{two_taken, two_back}
use Rattle.base_trials.proofs.LockSchedules.{fresh_calm, fresh_roots}
use Rattle.base_trials.proofs.rights.locks.handing_over_and_barging.Goals as goal

pub hand_over-zero-requires : goal.hand_over-zero-requires
hand_over-zero-requires g c =
    let z = c.in-Ok.words.table in
    let xs = c.in_ok-values.values.items in
    let two : length xs ≡ 2 = search rules in
    let len : length c.in-Ok.passes.items ≡ 2 = search rules in
    let calm = two_taken (pass_at z xs) (HasNothing z) (fresh_calm z xs two) _ _ _ _ _ c.take_last-one.ensures.items
    c.take_last-zero.ensures.items (len, c.in-Ok.ensures.passes.1) in
    let n : vec_len c.in_ok-values.values ≡ 2 = search rules in
    let long : length c.in-Ok.roots.items ≡ 2 = search rules in
    let roots = fresh_roots z xs two _ n _ _ _ _ _ long c.in-Ok.ensures.roots.1 c.take_last-second.ensures.items
    c.take_last-first.ensures.items in
    (calm.0, calm.1, roots.0)

pub barge_in-zero-requires : goal.barge_in-zero-requires
barge_in-zero-requires g c =
    let xs = c.in_ok-values.values.items in
    let two : length xs ≡ 2 = search rules in
    let n : vec_len c.in_ok-values.values ≡ 2 = search rules in
    let long : length c.in-Ok.roots.items ≡ 2 = search rules in
    let roots = fresh_roots c.in-Ok.words.table xs two _ n _ _ _ _ _ long c.in-Ok.ensures.roots.1 c.take_last-second.ensures.items
    c.take_last-first.ensures.items in
    (c.hand_over-zero.ensures.0, c.hand_over-zero.ensures.1, roots.1)

pub close_soundly-values-requires-clause-passes : goal.close_soundly-values-requires-clause-passes
close_soundly-values-requires-clause-passes g c =
    let thread = λ (p : PassShown (LockPassView Tally)). p.thread in
    let is_zero = ap thread c.check_apart-zero.ensures.same.0 ∙ c.barge_in-zero.ensures.0.0.1 in
    let is_one = ap thread c.check_apart-zero.ensures.same.1 ∙ c.barge_in-zero.ensures.1.0.1 in
    let back = two_back thread _ _ _ _ _ c.push_reserved.ensures.items c.push_reserved-2.ensures.items is_zero is_one in
    λ t near. back t (omega (arith, near, c.in-Ok.ensures.size.0))

pub close_soundly-values-requires-clause-roots : goal.close_soundly-values-requires-clause-roots
close_soundly-values-requires-clause-roots g c =
    let n : vec_len c.in_ok-values.values ≡ 2 = search rules in
    let back = two_back (λ (q : RootShown LockRootView). q.key) _ _ _ _ _ c.push_reserved-3.ensures.items c.push_reserved-4.ensures.items
    c.hand_over-zero.ensures.3 c.barge_in-zero.ensures.3 in
    λ l near. back l (omega (arith, near, c.in-Ok.ensures.size.1, n))
