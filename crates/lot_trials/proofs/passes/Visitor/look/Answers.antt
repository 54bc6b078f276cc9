use Rattle.std.proofs.Common.{◌≡◌, subst}
use Rattle.lot_sync.proofs.Holdings.{owns_none_again, seen_left}
use Rattle.lot_load.proofs.Rounds.{read_may_go_back}
use Rattle.lot_trials.proofs.passes.Visitor.look.Goals as goal

pub unlock-pass-requires-clause-back : goal.unlock-pass-requires-clause-back
unlock-pass-requires-clause-back g c κs within =
    read_may_go_back g.V.Keeps c.args.pass c.lock-pass.result.0 _ c.lock-pass.result.1 c.lock-pass.ensures.gets

pub returns-clause-free : goal.returns-clause-free
returns-clause-free g c =
    owns_none_again c.args.pass c.lock-pass.result.0 c.unlock-pass.result.0 0 _ c.lock-pass.result.1.value _
    c.requires.free c.lock-pass.ensures.gets.after_is c.unlock-pass.ensures.pass c.lock-pass.ensures.gets.key_is

pub returns-clause-on : goal.returns-clause-on
returns-clause-on g c = λ seen now had has.
    let left = seen_left c.lock-pass.result.0 c.unlock-pass.result.0 0 c.lock-pass.result.1.key c.lock-pass.result.1.value now
    c.unlock-pass.ensures.pass c.lock-pass.ensures.gets.key_is has in
    subst (λ j. g.V.Keeps.grows seen j × (g.V.Keeps.part c.args.pass.thread seen ≡ g.V.Keeps.part c.args.pass.thread j)) left
    (c.lock-pass.ensures.gets.grown seen had, c.lock-pass.ensures.gets.mine seen had)
