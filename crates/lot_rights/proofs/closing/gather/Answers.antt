use Rattle.std.proofs.Common.{◌≡◌, ap, ◌∙◌}
use Rattle.lot_rights.proofs.Gathers.{gathered, all_popped}
use Rattle.lot_rights.proofs.Joining.{joins_seats}
use Rattle.lot_rights.proofs.closing.gather.Goals as goal

pub join_seat-requires : goal.join_seat-requires
join_seat-requires g c =
    let mine = all_popped (λ r. (g.T.AtSeat.single r).0 ≡ c.args.shared.now.table_id) _ _ _ c.in-Some.ensures.items
    c.loop-right.invariant.all in
    joins_seats (g.K.Kind.meaning c.args.shared.now.key) _ _ _ _ _ _ _ _ c.loop-right.invariant.table (c.seat.ensures.there ∙ mine.1)
    c.seat.ensures.alone c.requires.table.1

pub loop-right-preserved : goal.loop-right-preserved
loop-right-preserved g c = record {
  table = c.join_seat.ensures.0 ∙ c.loop-right.invariant.table;
  all =
      (all_popped (λ r. (g.T.AtSeat.single r).0 ≡ c.args.shared.now.table_id) _ _ _ c.in-Some.ensures.items
      c.loop-right.invariant.all).0;
  rights =
      gathered (λ r. (g.T.AtSeat.single r).1) _ _ _ _ _ _ (ap (λ m. m.0) c.join_seat.ensures.2) (ap (λ m. m.0) c.seat.ensures.alone)
      c.in-Some.ensures.items ∙ c.loop-right.invariant.rights;
}
