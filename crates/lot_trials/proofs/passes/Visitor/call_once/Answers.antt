use Rattle.std.proofs.Common.{subst, ap, ◌∙◌}
use Rattle.lot_sync.proofs.Holdings.{owns_none_again, seen_left}
use Rattle.lot_load.proofs.Rounds.{may_give_back}
use Rattle.lot_trials.proofs.passes.Visitor.call_once.Goals as goal

pub unlock-pass-requires-clause-back : goal.unlock-pass-requires-clause-back
unlock-pass-requires-clause-back g c κs within =
    may_give_back g.V.Keeps c.args.pass c.lock-pass.result.0 0 c.thread-thread.result c.lock-pass.result.1 c.add_one-called.new.held
    c.lock-pass.ensures.gets c.thread-thread.ensures c.add_one-called.ensures.works

pub returns-clause-free : goal.returns-clause-free
returns-clause-free g c =
    owns_none_again c.args.pass c.lock-pass.result.0 c.unlock-pass.result.0 0 c.add_one-called.new.held.key c.lock-pass.result.1.value
    c.add_one-called.new.held.value
    c.requires.free c.lock-pass.ensures.gets.after_is c.unlock-pass.ensures.pass
    (c.add_one-called.ensures.works.key_same ∙ c.lock-pass.ensures.gets.key_is)

pub returns-clause-there : goal.returns-clause-there
returns-clause-there g c = λ seen now had has.
    let left = seen_left c.lock-pass.result.0 c.unlock-pass.result.0 0 c.add_one-called.new.held.key c.add_one-called.new.held.value now
    c.unlock-pass.ensures.pass (c.add_one-called.ensures.works.key_same ∙ c.lock-pass.ensures.gets.key_is) has in
    let counted = rw c.if-called.true at c.add_one-called.ensures.counted in
    record {
      found = c.lock-pass.result.1.value;
      counted = c.add_one-called.new.held.value;
      on = c.lock-pass.ensures.gets.grown seen had;
      mine = c.lock-pass.ensures.gets.mine seen had;
      once =
          subst (λ t. g.V.Counts.is_counted c.lock-pass.result.1.value t c.add_one-called.new.held.value) c.thread-thread.ensures counted;
      later = subst (λ v. g.V.Keeps.grows c.add_one-called.new.held.value v) left (g.V.Keeps.grows_itself c.add_one-called.new.held.value);
      same = ap (λ v. g.V.Keeps.part c.args.pass.thread v) left;
    }
