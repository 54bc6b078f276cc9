use Rattle.std.proofs.Common.{◌≡◌, ◌-◌, ℕ, Bool, true, false, rules, subst, sym, ap, ◌∙◌}
use Rattle.lot_sync.specs.Lot.{PassView}
use Rattle.lot_sync.specs.Traces.{Adds}
use Rattle.lot_sync.proofs.Below.{none_below, got_waits}
use Rattle.lot_regions.specs.Traces.{WhenTrace}
use Rattle.lot_regions.specs.Regions.{HasGot}
use Rattle.lot_calls.specs.Waits.{WaitsWhile}
use Rattle.lot_calls.proofs.Visiting.{finds_got}
use Rattle.lot_calls.proofs.Waiting.{made_until, woken_after, woken_alike}
use Rattle.lot_regions.proofs.Leaving.{got_after_waits, region, back, when_made, waits_map}
use Rattle.lot_regions.proofs.region.when.Given.{Over}
use Rattle.lot_regions.proofs.region.when.Goals.{After-value_mut}
use Rattle.lot_regions.proofs.region.when.Goals as goal

-- whoever owned nothing may wait with the lock that it got
pub wait_until-pass-requires-clause-above : goal.wait_until-pass-requires-clause-above
wait_until-pass-requires-clause-above g c κs within =
    let p = c.args.pass in
    got_waits g.V.Keeps p c.lock-pass.result.0 c.args.key c.lock-pass.result.1 c.lock-pass.ensures.gets c.args.cond
    (none_below g.V.Keeps.above p c.args.key c.requires.free) (none_below g.V.Keeps.above p c.args.cond c.requires.free)

-- the value was found ready for the condition
ready : (g : Over) (c : After-value_mut g) → g.V.Ready.ready c.args.cond c.value_mut.result.now ≡ true
ready g c =
    let (v, same, says) = c.wait_until-pass.ensures.ready in
    subst (λ w. g.V.Ready.ready c.args.cond w ≡ true) (same ∙ sym c.value_mut.ensures.value) (search rules)

-- by the pass that got the lock and waited
got : (g : Over) (c : After-value_mut g) → HasGot g.V.Keeps c.args.pass c.args.key c.value_mut.result.now c.wait_until-pass.result.0
got g c =
    let mid = c.wait_until-pass.result.0 in
    let gets = c.lock-pass.ensures.gets in
    let waits = c.wait_until-pass.ensures.waits in
    subst (λ w. HasGot g.V.Keeps c.args.pass c.args.key w mid) (sym c.value_mut.ensures.value)
    (got_after_waits g.V.Keeps c.args.pass c.args.key c.lock-pass.result.1 c.wait_until-pass.result.1 c.lock-pass.result.0 mid c.args.cond
    waits.count gets waits.after_is waits.same waits.kept waits.grown waits.mine c.args.lot.now c.requires.key c.lock-pass.ensures.shape)

pub returns-clause-visits : goal.returns-clause-visits
returns-clause-visits g c =
    let p = c.args.pass in
    let q = c.lock-pass.result.0 in
    let held = c.lock-pass.result.1 in
    let mid = c.wait_until-pass.result.0 in
    let found = c.value_mut.result in
    let left = record found { now = c.work-outcome.new.arg2 } in
    let gets = c.lock-pass.ensures.gets in
    let waits = c.wait_until-pass.ensures.waits in
    let thread = ap (λ (z : PassView _). z.thread) gets.after_is in
    let at = (goal.at.returns-clause-visits g c).After-value_mut in
    let has_got = got g at in
    let is_ready = ready g at in
    let may = c.requires.keeps found c.work-outcome.result left has_got.finds is_ready c.work-outcome.ensures in
    let told : ℕ → Bool = λ d. g.V.Ready.ready d left.now in
    let after_waits = made_until p q mid c.args.key held.key c.args.cond c.args.moment.now waits.count gets.key_is thread
    c.lock-pass.ensures.made waits.made in
    let made = when_made told p.thread c.args.key c.args.moment.now c.first_of-first.result
    (c.behind_of-behind.result - c.first_of-first.result) p.made mid.made c.leave.result.made mid.thread c.wait_until-pass.result.1.key
    (waits.thread ∙ thread) (waits.key_is ∙ gets.key_is) c.args.cond waits.count after_waits c.leave.ensures.made in (
      found,
      left,
      c.work-outcome.ensures,
      region g.V.Keeps p c.args.key found.now left.now mid has_got may c.wait_until-pass.result.1.key
          (waits.key_is ∙ gets.key_is) c.leave.result
          (c.requires.free.no_lock c.args.key) c.leave.ensures.left c.leave.ensures.seen,
      is_ready,
      (
        waits.count,
        subst (λ f. Adds p.made
            (WhenTrace told p.thread c.args.cond waits.count c.args.key c.args.moment.now f (g.V.Ready.behind c.args.key - f))
            c.leave.result.made)
            c.first_of-first.ensures
            (subst (λ b. Adds p.made
            (WhenTrace told p.thread c.args.cond waits.count c.args.key c.args.moment.now c.first_of-first.result
            (b - c.first_of-first.result))
            c.leave.result.made) c.behind_of-behind.ensures made),
        (
          held.value,
          finds_got g.V.Keeps p q c.args.key held gets c.args.lot.now c.requires.key c.lock-pass.ensures.shape,
          subst (λ w. WaitsWhile g.V.Keeps.grows (λ x. g.V.Ready.ready c.args.cond x ≡ false) waits.count held.value w)
              (sym c.value_mut.ensures.value)
              (waits_map g.V.Keeps.grows _ (λ x. g.V.Ready.ready c.args.cond x ≡ false)
              (λ x u.
              let (y, is, answers) = u in
              subst (λ z. g.V.Ready.ready c.args.cond z ≡ false) is (search rules))
              waits.count held.value c.wait_until-pass.result.1.value waits.while),
        ),
        ap (λ (z : PassView _). z.woken) c.leave.ensures.left
            ∙ (woken_after q mid held.key c.args.cond waits.count c.wait_until-pass.result.1.value waits.after_is
            ∙ woken_alike p q c.args.cond waits.count (ap (λ (z : PassView _). z.woken) gets.after_is)),
      ),
    )

pub work-outcome-requires : goal.work-outcome-requires
work-outcome-requires g c =
    let at = (goal.at.work-outcome-requires g c).After-value_mut in
    c.requires.callable c.value_mut.result (got g at).finds (ready g at)

pub leave-requires-clause-back : goal.leave-requires-clause-back
leave-requires-clause-back g c κs within =
    let found = c.value_mut.result in
    let left = record found { now = c.work-outcome.new.arg2 } in
    let at = (goal.at.leave-requires-clause-back g c).After-value_mut in
    let has_got = got g at in
    back g.V.Keeps c.args.pass c.args.key found.now left.now c.wait_until-pass.result.0 has_got
    (c.requires.keeps found c.work-outcome.result left has_got.finds (ready g at) c.work-outcome.ensures) c.wait_until-pass.result.1.key
    (c.wait_until-pass.ensures.waits.key_is ∙ c.lock-pass.ensures.gets.key_is)
