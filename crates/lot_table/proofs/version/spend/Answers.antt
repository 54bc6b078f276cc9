use Rattle.std.proofs.Common.{sym, ◌∙◌, ap}
use Rattle.lot_bucket.specs.Contents.{Contents}
use Rattle.lot_table.proofs.Spending.{settled_spent}
use Rattle.lot_table.proofs.version.spend.Goals.{then-is_open, else-is_open}
use Rattle.lot_table.proofs.version.spend.Goals as goal

pub discard-requires : goal.discard-requires
discard-requires g c =
    elim c.if-is_open.branch [
      | then-is_open w ↦ absurd w.wait_without_end.ensures
      | else-is_open w ↦
          settled_spent g.R.Root.view c.args.settled c.into_bucket.result c.into_bucket.ensures.settled c.into_bucket.ensures.same
          (sym (ap (λ (b : Contents g.row.R.Denot). b.opened) c.bucket.ensures) ∙ sym c.is_open.ensures ∙ w.if-is_open.false)
    ]
