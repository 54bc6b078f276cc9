use Rattle.std.proofs.Common.{◌≡◌, ◌++◌, map, reverse, vec_len}
use Rattle.std.specs.List.{All}
use Rattle.lot_rights.proofs.closing.gather.Given as goal

abbrev pub invariant-loop-right : goal.invariant-loop-right
invariant-loop-right g l = record {
  table : l.seat.table_id ≡ l.shared.table_id;
  all : All (λ r. (g.T.AtSeat.single r).0 ≡ l.shared.table_id) l.rights.items;
  rights :
      l.seat.me.0 ++ map (λ r. (g.T.AtSeat.single r).1) (reverse l.rights.items)
      ≡ l.initial.seat.me.0 ++ map (λ r. (g.T.AtSeat.single r).1) (reverse l.initial.rights.items);
}

abbrev pub decreases-loop-right : goal.decreases-loop-right
decreases-loop-right g l = vec_len l.rights
