use Rattle.std.proofs.Common.{◌∙◌}
use Rattle.lot_sync.proofs.Holdings.{owns_none_again}
use Rattle.lot_load.proofs.Rounds.{may_give_back}
use Rattle.lot_load.proofs.count.go_round.Goals as goal

pub unlock-pass-requires-clause-back : goal.unlock-pass-requires-clause-back
unlock-pass-requires-clause-back g c κs within =
    may_give_back g.V.Keeps c.args.pass c.lock-pass.result.0 _ c.thread-thread.result c.lock-pass.result.1 c.add_one-called.new.held
    c.lock-pass.ensures.gets c.thread-thread.ensures c.add_one-called.ensures.works

pub returns : goal.returns
returns g c =
    owns_none_again c.args.pass c.lock-pass.result.0 c.unlock-pass.result.0 _ c.add_one-called.new.held.key c.lock-pass.result.1.value
    c.add_one-called.new.held.value
    c.requires.free c.lock-pass.ensures.gets.after_is c.unlock-pass.ensures.pass
    (c.add_one-called.ensures.works.key_same ∙ c.lock-pass.ensures.gets.key_is)
