use Rattle.std.proofs.Common.{◌≡◌}
use Rattle.base_trials.proofs.park.buckets.expect_row.Given as goal

abbrev pub invariant-loop-step : goal.invariant-loop-step
invariant-loop-step g l = record { places : l.bucket.places ≡ l.fn.bucket.places; opened : l.bucket.opened ≡ l.fn.bucket.opened }

abbrev pub invariant-loop-key : goal.invariant-loop-key
invariant-loop-key g l = record { places : l.bucket.places ≡ l.fn.bucket.places; opened : l.bucket.opened ≡ l.fn.bucket.opened }
