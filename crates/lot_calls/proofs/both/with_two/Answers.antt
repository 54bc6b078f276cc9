use Rattle.std.proofs.Common.{sym, ap, subst, ◌∙◌}
use Rattle.lot_sync.specs.Lot.{PassView}
use Rattle.lot_sync.proofs.Below.{got_below}
use Rattle.lot_words.specs.Values.{MayBecome}
use Rattle.lot_calls.specs.Visits.{Finds, VisitsBoth}
use Rattle.lot_calls.proofs.Visiting.{visit_made}
use Rattle.lot_calls.proofs.Nesting.{finds_both, back_second, back_first, visits_both, free_after_both, nested_made}
use Rattle.lot_calls.proofs.both.with_two.Given.{Over}
use Rattle.lot_calls.proofs.both.with_two.Goals.{After-value_mut-2, After-work-outcome}
use Rattle.lot_calls.proofs.both.with_two.Goals as goal

pub lock-pass-requires-2-clause-above : goal.lock-pass-requires-2-clause-above
lock-pass-requires-2-clause-above g c κs within =
    got_below g.V.Keeps c.args.pass c.lock-pass.result.0 c.args.first c.lock-pass.result.1 c.lock-pass.ensures.gets c.args.second
    c.requires.above.1 c.requires.rises

-- what is known of both values when the second lock was got
told : (g : Over) (c : After-value_mut-2 g) → g.V.Keeps.keeps c.args.first c.value_mut.result.now
    × g.V.Keeps.keeps c.args.second c.value_mut-2.result.now
    × Finds g.V.Keeps c.args.pass c.args.first c.value_mut.result.now × Finds g.V.Keeps c.args.pass c.args.second c.value_mut-2.result.now
told g c =
    finds_both g.V.Keeps c.args.pass c.lock-pass.result.0 c.lock-pass-2.result.0 c.lock-pass.result.1 c.lock-pass-2.result.1
    c.args.first c.args.second c.requires.keys.2 c.requires.not_owned.0 c.requires.not_owned.1 c.lock-pass.ensures.gets
    c.lock-pass-2.ensures.gets c.value_mut.result.now c.value_mut-2.result.now c.value_mut.ensures.value c.value_mut-2.ensures.value
    c.args.lot.now c.requires.keys.0 c.requires.keys.1 c.lock-pass.ensures.shape

-- and what the work may leave of them
may : (g : Over) (c : After-work-outcome g) → g.V.Keeps.keeps c.args.first c.value_mut.result.now
    × g.V.Keeps.keeps c.args.second c.value_mut-2.result.now
    × Finds g.V.Keeps c.args.pass c.args.first c.value_mut.result.now × Finds g.V.Keeps c.args.pass c.args.second c.value_mut-2.result.now
    → MayBecome g.V.Keeps c.args.first c.args.pass.thread c.lock-pass.result.1.value c.work-outcome.new.arg2
    × MayBecome g.V.Keeps c.args.second c.args.pass.thread c.lock-pass-2.result.1.value c.work-outcome.new.arg3
may g c known =
    let found = c.value_mut.result in
    let other = c.value_mut-2.result in
    let both = c.requires.keeps found other c.work-outcome.result (record found { now = c.work-outcome.new.arg2 })
    (record other { now = c.work-outcome.new.arg3 }) known.0 known.1 known.2 known.3 c.work-outcome.ensures in (
      subst (λ z. MayBecome g.V.Keeps c.args.first c.args.pass.thread z c.work-outcome.new.arg2) c.value_mut.ensures.value both.0,
      subst (λ z. MayBecome g.V.Keeps c.args.second c.args.pass.thread z c.work-outcome.new.arg3) c.value_mut-2.ensures.value both.1,
    )

pub work-outcome-requires : goal.work-outcome-requires
work-outcome-requires g c =
    let known = told g (goal.at.work-outcome-requires g c).After-value_mut-2 in
    c.requires.callable c.value_mut.result c.value_mut-2.result known.0 known.1 known.2 known.3

pub unlock-pass-requires-clause-back : goal.unlock-pass-requires-clause-back
unlock-pass-requires-clause-back g c κs within =
    back_second g.V.Keeps c.args.pass c.lock-pass.result.0 c.lock-pass-2.result.0 c.lock-pass.result.1 c.lock-pass-2.result.1
    c.args.first c.args.second
    c.requires.keys.2 c.requires.not_owned.0 c.requires.not_owned.1 c.lock-pass.ensures.gets c.lock-pass-2.ensures.gets _
    (may g (goal.at.unlock-pass-requires-clause-back g c).After-work-outcome (told g (goal.at.unlock-pass-requires-clause-back g c).After-value_mut-2)).1

pub unlock-pass-requires-2-clause-back : goal.unlock-pass-requires-2-clause-back
unlock-pass-requires-2-clause-back g c κs within =
    let left = may g (goal.at.unlock-pass-requires-2-clause-back g c).After-work-outcome (told g (goal.at.unlock-pass-requires-2-clause-back g c).After-value_mut-2) in
    back_first g.V.Keeps c.args.pass c.lock-pass.result.0 c.lock-pass-2.result.0 c.lock-pass.result.1 c.lock-pass-2.result.1
    c.args.first c.args.second
    c.requires.keys.2 c.requires.not_owned.0 c.requires.not_owned.1 c.lock-pass.ensures.gets c.lock-pass-2.ensures.gets _ left.1
    c.unlock-pass.result.0 c.unlock-pass.ensures.pass _ left.0

pub returns-clause-visits : goal.returns-clause-visits
returns-clause-visits g c =
    let found = c.value_mut.result in
    let other = c.value_mut-2.result in
    let left = record found { now = c.work-outcome.new.arg2 } in
    let other' = record other { now = c.work-outcome.new.arg3 } in
    let may_become = may g (goal.at.returns-clause-visits g c).After-work-outcome (told g (goal.at.returns-clause-visits g c).After-value_mut-2) in (
      found,
      other,
      left,
      other',
      c.work-outcome.ensures,
      subst (λ z. VisitsBoth g.V.Keeps c.args.pass c.args.first c.args.second z other.now left.now other'.now c.unlock-pass-2.result.0)
          (sym c.value_mut.ensures.value)
          (subst
          (λ z. VisitsBoth g.V.Keeps c.args.pass c.args.first c.args.second c.lock-pass.result.1.value z left.now other'.now
          c.unlock-pass-2.result.0)
          (sym c.value_mut-2.ensures.value)
          (visits_both g.V.Keeps c.args.pass c.lock-pass.result.0 c.lock-pass-2.result.0 c.lock-pass.result.1 c.lock-pass-2.result.1
          c.args.first c.args.second
          c.requires.keys.2 c.requires.not_owned.0 c.requires.not_owned.1 c.lock-pass.ensures.gets c.lock-pass-2.ensures.gets other'.now
          may_become.1 c.unlock-pass.result.0 c.unlock-pass.ensures.pass left.now may_become.0
          c.unlock-pass-2.result.0 c.unlock-pass-2.ensures.pass
          c.unlock-pass.ensures.seen c.unlock-pass-2.ensures.seen c.args.lot.now c.requires.keys.0 c.requires.keys.1
          c.unlock-pass-2.ensures.shape)),
    )

pub returns-clause-made : goal.returns-clause-made
returns-clause-made g c =
    let gets = c.lock-pass.ensures.gets in
    let gets' = c.lock-pass-2.ensures.gets in
    let inner =
    visit_made c.lock-pass.result.0 c.lock-pass-2.result.0 c.unlock-pass.result.0 c.args.second c.lock-pass-2.result.1.key
    c.args.moment.now c.unlock-pass.result.1
    gets'.key_is (ap (λ (p : PassView g.row.V.Denot). p.thread) gets'.after_is) c.lock-pass-2.ensures.made c.unlock-pass.ensures.fits
    c.unlock-pass.ensures.made in
    let thread = ap (λ (p : PassView g.row.V.Denot). p.thread) gets.after_is in
    nested_made c.args.pass c.lock-pass.result.0 c.unlock-pass.result.0 c.unlock-pass-2.result.0 c.args.first c.lock-pass.result.1.key
    c.args.second c.args.moment.now
    c.unlock-pass-2.result.1 gets.key_is thread (ap (λ (p : PassView g.row.V.Denot). p.thread) c.unlock-pass.ensures.pass
    ∙ (ap (λ (p : PassView g.row.V.Denot). p.thread) gets'.after_is ∙ thread)) c.lock-pass.ensures.made inner c.unlock-pass-2.ensures.fits
    c.unlock-pass-2.ensures.made

pub returns-clause-free : goal.returns-clause-free
returns-clause-free g c = free_after_both c.args.pass c.unlock-pass-2.result.0 _ (returns-clause-visits g c).5.after_is
