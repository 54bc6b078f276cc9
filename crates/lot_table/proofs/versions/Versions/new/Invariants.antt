use Rattle.std.proofs.Common.{◌≡◌, ◌+◌, ◌≤◌, vec_len, vec_capacity}
use Rattle.lot_table.specs.declared.sizes.TheConstants.{MOST_VERSIONS}
use Rattle.lot_table.proofs.versions.Versions.new.Given as goal

abbrev pub invariant-loop : goal.invariant-loop
invariant-loop g l = record { count : vec_len l.later + 1 ≡ l.counter; room : MOST_VERSIONS ≤ vec_capacity l.later + 1 }
