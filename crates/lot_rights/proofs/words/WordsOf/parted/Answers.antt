use Rattle.std.proofs.Common.{sym, ap, ◌∙◌}
use Rattle.lot_rights.specs.Shown.{WordsShown}
use Rattle.lot_rights.proofs.Joining.{parts_two}
use Rattle.lot_rights.proofs.words.WordsOf.parted.Goals as goal

pub split_seat-other-requires : goal.split_seat-other-requires
split_seat-other-requires g c = (
  c.requires.table ∙ sym (ap (λ (x : WordsShown _). x.table) c.self.view_is),
  c.self.inside.some,
  parts_two (g.K.Kind.meaning c.self.inside.table.shared.key) c.args.seat.id c.args.seat.me.0 _ _ (ap (λ m. m.0) c.requires.rights),
)
