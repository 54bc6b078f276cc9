use Rattle.std.proofs.Common.{◌≡◌}
use Rattle.base_trials.proofs.park.buckets.queue_all.Given as goal

abbrev pub invariant-loop-thread : goal.invariant-loop-thread
invariant-loop-thread g l = record { places : l.bucket.places ≡ l.fn.bucket.places; opened : l.bucket.opened ≡ l.fn.bucket.opened }
