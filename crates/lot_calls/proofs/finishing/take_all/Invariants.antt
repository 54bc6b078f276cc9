use Rattle.std.proofs.Common.{◌≡◌, ◌≤◌, vec_len, vec_capacity}
use Rattle.std.specs.List.{All}
use Rattle.lot_sync.proofs.Turns.{AreThere}
use Rattle.lot_calls.proofs.Taking.{AreInOrder}
use Rattle.lot_calls.specs.Finished.{IsReady}
use Rattle.lot_calls.proofs.finishing.take_all.Given as goal

abbrev pub invariant-loop-thread : goal.invariant-loop-thread
invariant-loop-thread g l = record {
  long : vec_len l.passes ≡ l.thread;
  near : l.thread ≤ l.initial.lot.threads;
  room : l.initial.lot.threads ≤ vec_capacity l.passes;
  ready : All (IsReady g.V.Keeps g.N.LotName.values l.initial.lot) l.passes.items;
  order : AreInOrder l.passes.items l.thread;
  all : AreThere l.passes.items l.thread;
  same : l.lot ≡ l.initial.lot;
}
