use Rattle.gallery.specs.Dinner.{IsAtTable}
use Rattle.gallery.proofs.dinner.dine.Given as goal

abbrev pub invariant-loop : goal.invariant-loop
invariant-loop g l = IsAtTable l.lot l.pass
