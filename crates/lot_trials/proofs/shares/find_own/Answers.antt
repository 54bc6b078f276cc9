use Rattle.std.proofs.Common.{le_refl, sym, ap, ◌∙◌, refl}
use Rattle.lot_trials.specs.declared.shares.Shares.{Shares}
use Rattle.lot_trials.specs.Shares.{own_share}
use Rattle.lot_sync.proofs.Holdings.{may_go_back, owns_none_again}
use Rattle.lot_trials.proofs.shares.find_own.Goals as goal

pub unlock-pass-requires-clause-back : goal.unlock-pass-requires-clause-back
unlock-pass-requires-clause-back g c κs within =
    may_go_back _ c.args.pass c.lock-pass.result.0 0 c.lock-pass.result.1 c.lock-pass.result.1.value c.lock-pass.ensures.gets tt
    (le_refl c.lock-pass.result.1.value.zero, le_refl c.lock-pass.result.1.value.one) (λ t else. refl)

pub returns-clause-free : goal.returns-clause-free
returns-clause-free g c =
    owns_none_again c.args.pass c.lock-pass.result.0 c.unlock-pass.result.0 0 _ c.lock-pass.result.1.value _
    c.requires.free c.lock-pass.ensures.gets.after_is c.unlock-pass.ensures.pass c.lock-pass.ensures.gets.key_is

pub returns-clause-found : goal.returns-clause-found
returns-clause-found g c = λ u seen.
    c.lock-pass.ensures.gets.mine u seen
    ∙ (ap (λ t. own_share t c.lock-pass.result.1.value.zero c.lock-pass.result.1.value.one) (sym c.thread-thread.ensures)
    ∙ (ap (λ (x : Shares). own_share c.thread-thread.result x.zero x.one) (sym c.value-found.ensures) ∙ sym c.own_of.ensures))
