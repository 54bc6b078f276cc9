use Rattle.std.proofs.Common.{rules, subst, sym, ap}
use Rattle.lot_sync.specs.Lot.{PassView}
use Rattle.lot_sync.proofs.Holdings.{may_go_back}
use Rattle.lot_words.specs.Values.{MayBecome}
use Rattle.lot_calls.specs.Visits.{Finds}
use Rattle.lot_calls.proofs.Visiting.{visits, visit_made, finds_got}
use Rattle.lot_calls.proofs.with.with_lock.Given.{Over}
use Rattle.lot_calls.proofs.with.with_lock.Goals.{After-value_mut, After-work-outcome}
use Rattle.lot_calls.proofs.with.with_lock.Goals as goal

-- what is known of the value when the lock was got
told : (g : Over) (c : After-value_mut g) → g.V.Keeps.keeps c.args.key c.value_mut.result.now
    × Finds g.V.Keeps c.args.pass c.args.key c.value_mut.result.now
told g c =
    let gets = c.lock-pass.ensures.gets in (
      subst (g.V.Keeps.keeps c.args.key) (sym c.value_mut.ensures.value) gets.kept,
      subst (Finds g.V.Keeps c.args.pass c.args.key) (sym c.value_mut.ensures.value)
          (finds_got g.V.Keeps c.args.pass c.lock-pass.result.0 c.args.key c.lock-pass.result.1 gets c.args.lot.now c.requires.key
          c.lock-pass.ensures.shape),
    )

-- and what the work may leave of it
may : (g : Over) (c : After-work-outcome g) → g.V.Keeps.keeps c.args.key c.value_mut.result.now
    × Finds g.V.Keeps c.args.pass c.args.key c.value_mut.result.now
    → MayBecome g.V.Keeps c.args.key c.args.pass.thread c.value_mut.result.now c.work-outcome.new.arg2
may g c known =
    let found = c.value_mut.result in
    c.requires.keeps found c.work-outcome.result (record found { now = c.work-outcome.new.arg2 }) known.0 known.1 c.work-outcome.ensures

pub returns-clause-visits : goal.returns-clause-visits
returns-clause-visits g c =
    let found = c.value_mut.result in
    let left = record found { now = c.work-outcome.new.arg2 } in (
      found,
      left,
      c.work-outcome.ensures,
      visits g.V.Keeps c.args.pass c.lock-pass.result.0 c.unlock-pass.result.0 c.args.key c.lock-pass.result.1 found.now left.now
          c.requires.not_owned c.lock-pass.ensures.gets c.value_mut.ensures.value
          (may g (goal.at.returns-clause-visits g c).After-work-outcome (told g (goal.at.returns-clause-visits g c).After-value_mut))
          c.unlock-pass.ensures.pass c.unlock-pass.ensures.seen c.args.lot.now c.requires.key c.unlock-pass.ensures.shape,
    )

pub returns-clause-made : goal.returns-clause-made
returns-clause-made g c =
    let gets = c.lock-pass.ensures.gets in
    visit_made c.args.pass c.lock-pass.result.0 c.unlock-pass.result.0 c.args.key c.lock-pass.result.1.key c.args.moment.now
    c.unlock-pass.result.1 gets.key_is
    (ap (λ (p : PassView g.row.V.Denot). p.thread) gets.after_is) c.lock-pass.ensures.made c.unlock-pass.ensures.fits
    c.unlock-pass.ensures.made

pub lock-pass-requires-clause-not_owned : goal.lock-pass-requires-clause-not_owned
lock-pass-requires-clause-not_owned g c κs within = search rules

pub work-outcome-requires : goal.work-outcome-requires
work-outcome-requires g c =
    let known = told g (goal.at.work-outcome-requires g c).After-value_mut in
    c.requires.callable c.value_mut.result known.0 known.1

pub unlock-pass-requires-clause-back : goal.unlock-pass-requires-clause-back
unlock-pass-requires-clause-back g c κs within =
    let left = c.work-outcome.new.arg2 in
    let gets = c.lock-pass.ensures.gets in
    let left_so = subst (λ z. MayBecome g.V.Keeps c.args.key c.args.pass.thread z left) c.value_mut.ensures.value
    (may g (goal.at.unlock-pass-requires-clause-back g c).After-work-outcome (told g (goal.at.unlock-pass-requires-clause-back g c).After-value_mut)) in
    may_go_back g.V.Keeps c.args.pass c.lock-pass.result.0 c.args.key c.lock-pass.result.1 left gets
    (subst (λ k. g.V.Keeps.keeps k left) (sym gets.key_is) left_so.kept) left_so.grown left_so.others
