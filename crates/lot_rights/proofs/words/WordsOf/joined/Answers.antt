use Rattle.lot_rights.proofs.Joining.{joins_seats}
use Rattle.lot_rights.proofs.Ready.{of_table}
use Rattle.lot_rights.proofs.words.WordsOf.joined.Goals as goal

pub join_seat-requires : goal.join_seat-requires
join_seat-requires g c =
    joins_seats (g.K.Kind.meaning c.self.inside.table.shared.key) _ _ _ _ _ _ _ _
    (of_table (λ x. x) c.self.view_is c.seat-seat.ensures.there c.requires.table.0)
    (of_table (λ x. x) c.self.view_is c.seat.ensures.there c.requires.table.1) c.seat.ensures.alone c.self.inside.some
