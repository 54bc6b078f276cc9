use Rattle.std.proofs.Common.{◌≡◌, ◌≤◌, sym, ap, subst, ◌∙◌}
use Rattle.lot_trials.specs.declared.shares.Shares.{Shares}
use Rattle.lot_trials.specs.Shares.{own_share}
use Rattle.lot_sync.proofs.Holdings.{may_go_back, owns_none_again, seen_left}
use Rattle.lot_trials.proofs.shares.leave_own.Goals as goal

pub unlock-pass-requires-clause-back : goal.unlock-pass-requires-clause-back
unlock-pass-requires-clause-back g c κs within =
    may_go_back _ c.args.pass c.lock-pass.result.0 0 c.lock-pass.result.1 c.raised-more.result c.lock-pass.ensures.gets tt
    (subst (λ (x : Shares). (x.zero ≤ c.raised-more.result.zero) × (x.one ≤ c.raised-more.result.one)) c.value-found.ensures
    c.raised-more.ensures.grown)
    (λ t else.
    subst (λ (x : Shares). own_share t x.zero x.one ≡ own_share t c.raised-more.result.zero c.raised-more.result.one) c.value-found.ensures
    (c.raised-more.ensures.others t (λ e. else (e ∙ c.thread-thread.ensures))))

pub returns-clause-free : goal.returns-clause-free
returns-clause-free g c =
    owns_none_again c.args.pass c.lock-pass.result.0 c.unlock-pass.result.0 0 c.lock-pass.result.1.key
    c.lock-pass.result.1.value c.raised-more.result
    c.requires.free c.lock-pass.ensures.gets.after_is c.unlock-pass.ensures.pass c.lock-pass.ensures.gets.key_is

pub returns-clause-left : goal.returns-clause-left
returns-clause-left g c = λ u seen.
    let same : c.raised-more.result ≡ u =
    seen_left c.lock-pass.result.0 c.unlock-pass.result.0 0 c.lock-pass.result.1.key c.raised-more.result u
    c.unlock-pass.ensures.pass c.lock-pass.ensures.gets.key_is seen in
    ap (λ (x : Shares). own_share c.args.pass.thread x.zero x.one) (sym same)
    ∙ (ap (λ t. own_share t c.raised-more.result.zero c.raised-more.result.one) (sym c.thread-thread.ensures)
    ∙ sym c.own_of-2.ensures)
