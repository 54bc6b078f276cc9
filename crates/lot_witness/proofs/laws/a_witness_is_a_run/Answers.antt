use Rattle.std.proofs.Common.{refl}
use Rattle.lot_witness.specs.Judging.{events_of}
use Rattle.lot_witness.proofs.Runs.{is_run}
use Rattle.lot_core.specs.Model.{opening_with}
use Rattle.lot_witness.proofs.laws.a_witness_is_a_run.Goals as goal

pub returns-clause-run : goal.returns-clause-run
returns-clause-run c = is_run

pub returns-clause-reached : goal.returns-clause-reached
returns-clause-reached c threads locks conds permits xs saw = record {
  threads = threads;
  locks = locks;
  conds = conds;
  permits = permits;
  events = events_of xs;
  run = is_run (opening_with threads locks conds permits) xs saw;
  ends = refl;
}
