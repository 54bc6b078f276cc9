use Rattle.std.proofs.Common.{◌≡◌, ◌++◌, take, drop}
use Rattle.lot_park.specs.Parking.{without_debt}
use Rattle.base_trials.proofs.park.letters.place_of.Given as goal

abbrev pub invariant-loop-place : goal.invariant-loop-place
invariant-loop-place l = without_debt l.at l.token l.owes ≡ take l.place l.owes ++ without_debt l.at l.token (drop l.place l.owes)
