use Rattle.std.proofs.Common.{◌≡◌, vec_len}
use Rattle.lot_park.proofs.lot.new_records.Given as goal

abbrev pub invariant-loop : goal.invariant-loop
invariant-loop l = vec_len l.records ≡ l.counter
