use Rattle.std.proofs.lemmas.List.{get_or_default}
use Rattle.lot_core.specs.State.{state_of}
use Rattle.lot_core.proofs.Runs.{so_more, so_refused, so_all}
use Rattle.lot_core.proofs.state.State.run.Goals as goal

pub loop-i-preserved : goal.loop-i-preserved
loop-i-preserved c =
    let answers = c.in-Ok.ensures in
    so_more (state_of c.args.self.now) (state_of c.loop-i.self) (state_of c.step.new.self) c.args.events.now c.loop-i.i _
    c.loop-i.invariant c.loop-i-test.true (get_or_default c.args.events.now c.loop-i.i _ _ c.loop-i-test.true) answers.0 answers.1

pub returns-in-Err : goal.returns-in-Err
returns-in-Err c = record {
  ok = tt;
  err = so_refused (state_of c.args.self.now) (state_of c.loop-i.self) (state_of c.step.new.self) c.args.events.now c.loop-i.i _
      c.in-Err.fault c.loop-i.invariant
      c.loop-i-test.true c.in-Err.ensures;
}

pub returns : goal.returns
returns c = record {
  ok = so_all (state_of c.args.self.now) (state_of c.loop-i.self) c.args.events.now c.loop-i.i c.loop-i.invariant c.loop-i-test.false;
  err = tt;
}
