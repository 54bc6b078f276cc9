use Rattle.std.proofs.Common.{◌≡◌, ◌∙◌, sym, ap, true, false, is_some}
use Rattle.std.specs.Prelude.{◌&&◌}
use Rattle.lot_core.proofs.Passes.{pass_hands, pass_leaves}
use Rattle.lot_core.proofs.state.State.pass_on.Goals as goal
use Rattle.lot_core.proofs.state.State.pass_on.Goals.{else-fair-via-then-fair+else-is_some, else-fair-via-else-fair, then-is_some-2}
use Rattle.lot_core.proofs.state.State.pass_on.Goals.{else-is_some-2}

pub returns-then-is_some-clause-state : goal.returns-then-is_some-clause-state
returns-then-is_some-clause-state c =
    pass_hands c.args.self.now _ _ c.args.thread c.args.lock c.args.fair c.args.more c.leave_lock_line-first.result
    c.leave_lock_line-first.ensures.rest c.set_owner.ensures c.leave_lock_line-first.ensures.first (cc) (cc) c.requires.owner

pub returns-clause-state : goal.returns-clause-state
returns-clause-state c =
    let none : c.args.fair ≡ true → is_some c.leave_lock_line-first.result ≡ false =
    elim c.else-fair.branch [
      | else-fair-via-then-fair+else-is_some w ↦ λ fair. cc
      | else-fair-via-else-fair w ↦ λ fair. absurd (cc)
    ] in
    let says : c.if-is_some-2.set_parked ≡ (is_some c.leave_lock_line-first.result && c.args.more) =
    elim c.if-is_some-2.branch [
      | then-is_some-2 w ↦ let e : is_some c.leave_lock_line-first.result ≡ true = cc in w.set_parked-is
          ∙ sym (ap (λ b. b && c.args.more) e)
      | else-is_some-2 w ↦ let e : is_some c.leave_lock_line-first.result ≡ false = cc in
          let unset : c.if-is_some-2.set_parked ≡ false = cc in unset ∙ sym (ap (λ b. b && c.args.more) e)
    ] in
    pass_leaves c.args.self.now _ _ _ c.args.thread c.args.lock c.args.fair c.args.more c.if-is_some-2.set_parked
    c.leave_lock_line-first.result
    c.leave_lock_line-first.ensures.rest c.set_owner-2.ensures c.set_parked.ensures c.leave_lock_line-first.ensures.first
    says none c.requires.owner
