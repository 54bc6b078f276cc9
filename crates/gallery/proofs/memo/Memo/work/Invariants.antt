use Rattle.lot_sync.specs.Lot.{OwnsNone}
use Rattle.gallery.proofs.memo.Memo.work.Given as goal

abbrev pub invariant-loop-key : goal.invariant-loop-key
invariant-loop-key g l = OwnsNone l.pass
