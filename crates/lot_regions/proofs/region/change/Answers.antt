use Rattle.std.proofs.Common.{◌-◌, ℕ, Bool, subst, sym, ap, ◌∙◌}
use Rattle.lot_sync.specs.Lot.{PassView}
use Rattle.lot_sync.specs.Traces.{Adds}
use Rattle.lot_regions.specs.Traces.{ChangeTrace}
use Rattle.lot_regions.specs.Regions.{HasGot}
use Rattle.lot_regions.proofs.Leaving.{got_at_once, region, back, change_made}
use Rattle.lot_regions.proofs.region.change.Goals as goal

pub returns-clause-visits : goal.returns-clause-visits
returns-clause-visits g c =
    let p = c.args.pass in
    let q = c.lock-pass.result.0 in
    let held = c.lock-pass.result.1 in
    let found = c.value_mut.result in
    let left = record found { now = c.work-outcome.new.arg2 } in
    let gets = c.lock-pass.ensures.gets in
    let got : HasGot g.V.Keeps p c.args.key found.now q =
    subst (λ v. HasGot g.V.Keeps p c.args.key v q) (sym c.value_mut.ensures.value)
    (got_at_once g.V.Keeps p c.args.key held q gets c.args.lot.now c.requires.key c.lock-pass.ensures.shape) in
    let may = c.requires.keeps found c.work-outcome.result left got.finds c.work-outcome.ensures in
    let told : ℕ → Bool = λ d. g.V.Ready.ready d left.now in
    let made = change_made told p.thread c.args.key c.args.moment.now c.first_of-first.result
    (c.behind_of-behind.result - c.first_of-first.result) p.made q.made c.leave.result.made q.thread held.key
    (ap (λ (z : PassView _). z.thread) gets.after_is) gets.key_is c.lock-pass.ensures.made c.leave.ensures.made in (
      found,
      left,
      c.work-outcome.ensures,
      region g.V.Keeps p c.args.key found.now left.now q got may held.key gets.key_is c.leave.result (c.requires.free.no_lock c.args.key)
          c.leave.ensures.left c.leave.ensures.seen,
      subst (λ f. Adds p.made (ChangeTrace told p.thread c.args.key c.args.moment.now f (g.V.Ready.behind c.args.key - f))
          c.leave.result.made)
          c.first_of-first.ensures
          (subst (λ b. Adds p.made
          (ChangeTrace told p.thread c.args.key c.args.moment.now c.first_of-first.result
          (b - c.first_of-first.result)) c.leave.result.made)
          c.behind_of-behind.ensures made),
    )

pub returns-clause-woken : goal.returns-clause-woken
returns-clause-woken g c =
    ap (λ (z : PassView _). z.woken) c.leave.ensures.left ∙ ap (λ (z : PassView _). z.woken) c.lock-pass.ensures.gets.after_is

pub work-outcome-requires : goal.work-outcome-requires
work-outcome-requires g c =
    let found = c.value_mut.result in
    let q = c.lock-pass.result.0 in
    let got : HasGot g.V.Keeps c.args.pass c.args.key found.now q =
    subst (λ v. HasGot g.V.Keeps c.args.pass c.args.key v q) (sym c.value_mut.ensures.value)
    (got_at_once g.V.Keeps c.args.pass c.args.key c.lock-pass.result.1 q c.lock-pass.ensures.gets c.args.lot.now c.requires.key
    c.lock-pass.ensures.shape) in
    c.requires.callable found got.finds

pub leave-requires-clause-back : goal.leave-requires-clause-back
leave-requires-clause-back g c κs within =
    let found = c.value_mut.result in
    let left = record found { now = c.work-outcome.new.arg2 } in
    let q = c.lock-pass.result.0 in
    let gets = c.lock-pass.ensures.gets in
    let got : HasGot g.V.Keeps c.args.pass c.args.key found.now q =
    subst (λ v. HasGot g.V.Keeps c.args.pass c.args.key v q) (sym c.value_mut.ensures.value)
    (got_at_once g.V.Keeps c.args.pass c.args.key c.lock-pass.result.1 q gets c.args.lot.now c.requires.key c.lock-pass.ensures.shape) in
    back g.V.Keeps c.args.pass c.args.key found.now left.now q got
    (c.requires.keeps found c.work-outcome.result left got.finds c.work-outcome.ensures) c.lock-pass.result.1.key gets.key_is
