use Rattle.std.proofs.Common.{◌≡◌, ℕ, ◌∙◌, arith}
use Rattle.lot_sync.proofs.Holdings.{got_both}
use Rattle.lot_trials.proofs.accounts.own_both.Goals as goal

pub returns-clause-both : goal.returns-clause-both
returns-clause-both g c =
    got_both _ c.own-pass.result.0 c.lock-pass.result.0 c.own-pass.result.1 c.lock-pass.result.1 1
    (λ e. let one : ℕ = 1 in let f : one ≡ 0 = e ∙ c.own-pass.ensures.key in
    absurd (omega (arith, f))) c.own-pass.ensures.holding c.lock-pass.ensures.gets
