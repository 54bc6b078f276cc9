use Rattle.std.proofs.Common.{◌≡◌, ◌-◌, ℕ, Bool, true, false, refl, sym, ap, ◌∙◌}
use Rattle.lot_sync.specs.Lot.{PassView}
use Rattle.lot_regions.proofs.Leaving.{told_last, tells, tells_nobody}
use Rattle.lot_regions.proofs.region.+leave.Goals as goal

pub returns-then-is_ready-clause-made : goal.returns-then-is_ready-clause-made
returns-then-is_ready-clause-made g t c =
    let told : ℕ → Bool = λ d. g.V.Ready.ready d c.args.held.value in
    let cond = c.args.behind - 1 in
    let left = c.leave-pass.ensures in
    let so : told cond ≡ true =
    sym (c.is_ready-is_ready.ensures ∙ ap (λ v. g.V.Ready.ready cond v) c.value.ensures) ∙ c.if-is_ready.true in
    told_last told c.args.pass.thread c.args.held.key c.args.moment.now c.args.first c.args.behind c.args.pass.made c.leave-pass.result.made
    c.notify_one.result.0.made cond c.leave-pass.result.thread refl c.if-first-behind.false
    (ap (λ (p : PassView _). p.thread) left.left) left.made (tells told _ cond _ _ _ so c.notify_one.ensures.made)

pub returns-else-is_ready-clause-made : goal.returns-else-is_ready-clause-made
returns-else-is_ready-clause-made g t c =
    let told : ℕ → Bool = λ d. g.V.Ready.ready d c.args.held.value in
    let cond = c.args.behind - 1 in
    let left = c.leave-pass.ensures in
    let so : told cond ≡ false =
    sym (c.is_ready-is_ready.ensures ∙ ap (λ v. g.V.Ready.ready cond v) c.value.ensures) ∙ c.if-is_ready.false in
    told_last told c.args.pass.thread c.args.held.key c.args.moment.now c.args.first c.args.behind c.args.pass.made c.leave-pass.result.made
    c.leave-pass.result.made cond c.leave-pass.result.thread refl c.if-first-behind.false
    (ap (λ (p : PassView _). p.thread) left.left) left.made (tells_nobody told c.leave-pass.result.thread cond c.leave-pass.result.made so)
