use Rattle.gallery.specs.Rooms.{IsGuest}
use Rattle.gallery.proofs.readers.Door.work.Given as goal

abbrev pub invariant-loop : goal.invariant-loop
invariant-loop g l = IsGuest l.pass
