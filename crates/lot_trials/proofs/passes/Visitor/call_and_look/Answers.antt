use Rattle.std.proofs.Common.{◌≡◌, ◌<◌, sym, subst, ◌∙◌}
use Rattle.lot_sync.proofs.Rests.{reads}
use Rattle.lot_trials.proofs.passes.Visitor.call_and_look.Goals as goal

pub returns-clause-there : goal.returns-clause-there
returns-clause-there g c = λ seen now had has.
    let mid = reads c.call_once-pass.result.seen 0 (subst (λ n. 0 < n) (sym c.call_once-pass.ensures.shape.seen) c.args.self.now.locks) in
    let on = c.look-pass.ensures.on mid.0 now mid.1 has in
    let there = c.call_once-pass.ensures.there seen mid.0 had mid.1 in
    let laws = g.met.V.Tells g.world.𝓛 g.world.𝓜 g.world.𝓡 ((λ s x. x), (λ x. x), (λ x. x), λ x. x) in
    laws.there_once_counted c.args.pass.thread seen now (record {
      found = there.found;
      counted = there.counted;
      on = there.on;
      mine = there.mine;
      once = there.once;
      later = g.V.Keeps.grows_on there.counted mid.0 now there.later on.0;
      same = there.same ∙ subst (λ t. g.V.Keeps.part t mid.0 ≡ g.V.Keeps.part t now) c.call_once-pass.ensures.same on.1;
    })
