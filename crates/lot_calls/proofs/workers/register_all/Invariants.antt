use Rattle.std.proofs.Common.{◌≡◌, ◌≤◌, vec_len, vec_capacity}
use Rattle.std.specs.List.{All}
use Rattle.lot_calls.specs.Finished.{IsReady}
use Rattle.lot_calls.proofs.workers.register_all.Given as goal

abbrev pub invariant-loop : goal.invariant-loop
invariant-loop g l = record {
  long : vec_len l.passes ≡ l.counter;
  near : l.counter ≤ l.lot.threads;
  capacity : vec_capacity l.passes ≡ vec_capacity l.initial.passes;
  room : l.lot.threads ≤ vec_capacity l.passes;
  ready : All (IsReady g.V.Keeps g.N.LotName.values l.lot) l.passes.items;
}
