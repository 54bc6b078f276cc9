use Rattle.gallery.specs.Accounts.{IsSettled}
use Rattle.gallery.proofs.accounts.work.Given as goal

abbrev pub invariant-loop-round : goal.invariant-loop-round
invariant-loop-round g l = IsSettled l.lot l.pass
