use Rattle.std.proofs.Common.{◌≡◌, [], ◌∷◌, ap, ◌∙◌}
use Rattle.lot_rights.specs.declared.views.Right.TheVariants.{Pass}
use Rattle.lot_rights.specs.Shown.{PassShown, right_of_pass}
use Rattle.lot_rights.proofs.Joining.{joins_seats, parts_two}
use Rattle.lot_rights.proofs.Ready.{of_table, ready_two, one_shown, two_joined}
use Rattle.lot_rights.proofs.words.WordsOf.check_two.Given.{Over}
use Rattle.lot_rights.proofs.words.WordsOf.check_two.Goals.{After-join_seat}
use Rattle.lot_rights.proofs.words.WordsOf.check_two.Goals as goal

pub join_seat-requires : goal.join_seat-requires
join_seat-requires g c =
    joins_seats (g.K.Kind.meaning c.self.inside.table.shared.key) _ _ _ _ _ _ _ _
    (of_table (λ (x : PassShown _). x.table) c.self.view_is c.first.view_is c.requires.table.0)
    (of_table (λ (x : PassShown _). x.table) c.self.view_is c.second.view_is c.requires.table.1) c.second.inside.one c.self.inside.some

-- the seat that has both passes
here : (g : Over) (c : After-join_seat g) → c.join_seat.new.seat.table_id ≡ c.self.inside.table.shared.table_id
here g c = c.join_seat.ensures.0 ∙ of_table (λ (x : PassShown _). x.table) c.self.view_is c.first.view_is c.requires.table.0

two : (g : Over) (c : After-join_seat g)
    → c.join_seat.new.seat.me ≡ (Pass (right_of_pass c.args.first) ∷ Pass (right_of_pass c.args.second) ∷ [], [])
two g c =
    let right = λ (p : PassShown _). Pass (right_of_pass p) in
    two_joined _ _ _ _ _ (one_shown right _ _ _ c.first.view_is c.first.inside.one)
    (one_shown right _ _ _ c.second.view_is c.second.inside.one) c.join_seat.ensures.2

pub load-requires : goal.load-requires
load-requires g c =
    let at = (goal.at.load-requires g c).After-join_seat in
    ready_two g.K.Kind.meaning g.K.Kind.no_letter_in_line _ _ c.self.view_is g.K.Kind.no_pass c.args.first c.args.second _ (here g at)
    c.self.inside.some _ _ (two g at) g.N.TellsFact.fact c.requires.tells

pub split_seat-other-requires : goal.split_seat-other-requires
split_seat-other-requires g c =
    let at = (goal.at.split_seat-other-requires g c).After-join_seat in (
      c.load.ensures.0 ∙ here g at,
      c.self.inside.some,
      parts_two (g.K.Kind.meaning c.self.inside.table.shared.key) _ _ _ _ (ap (λ m. m.0) (c.load.ensures.2.0 ∙ two g at)),
    )
