use Rattle.std.proofs.Common.{◌≡◌, ◌≤◌, ◌<◌, ℕ, vec_len, vec_capacity}
use Rattle.std.specs.List.{All, Any}
use Rattle.lot_sync.specs.Lot.{PassView, OwnsNone}
use Rattle.lot_trials.proofs.counts.gather.Given as goal

abbrev pub invariant-loop-thread : goal.invariant-loop-thread
invariant-loop-thread g l = record {
  long : vec_len l.passes ≡ l.thread;
  room : l.fn.threads ≤ vec_capacity l.passes;
  free : All OwnsNone l.passes.items;
  all : (t : ℕ) → t < l.thread → Any (λ (p : PassView _). p.thread ≡ t) l.passes.items;
  same : l.lot ≡ l.fn.lot;
}
