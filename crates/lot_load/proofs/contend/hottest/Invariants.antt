use Rattle.std.proofs.Common.{◌≡◌, ℕ, ◌<◌, ◌≤◌, get_or}
use Rattle.lot_load.proofs.contend.hottest.Given as goal

-- the greatest number before the lock, and where some is not 0 the first place at which it lies
abbrev pub invariant-loop-lock : goal.invariant-loop-lock
invariant-loop-lock l = record {
  most : (k : ℕ) → k < l.lock → get_or l.parked k 0 ≤ l.most;
  place : 0 < l.most → (l.place < l.lock) × (get_or l.parked l.place 0 ≡ l.most);
  before : (k : ℕ) → k < l.place → get_or l.parked k 0 < l.most;
}
