use Rattle.std.proofs.Common.{◌≡◌, [], ◌++◌, reverse, refl, sym, ap, subst, ◌∙◌}
use Rattle.std.specs.List.{All}
use Rattle.std.specs.Slots.{slots_items}
use Rattle.atomic_table.specs.Seated.{TableId}
use Rattle.lot_rights.specs.declared.views.Right.TheVariants.{Pass}
use Rattle.lot_rights.specs.Shown.{PassShown, RootShown, WordsShown, right_of_pass}
use Rattle.lot_rights.specs.Closing.{roots_in, Ended}
use Rattle.lot_rights.proofs.Gathers.{all_popped, gathered}
use Rattle.lot_rights.proofs.Closes.{ends}
use Rattle.lot_rights.proofs.Ready.{of_table}
use Rattle.lot_rights.proofs.words.WordsOf.close.Given.{Over}
use Rattle.lot_rights.proofs.words.WordsOf.close.Goals.{After-take_last}
use Rattle.lot_rights.proofs.words.WordsOf.close.Goals as goal

pub take_last-requires : goal.take_last-requires
take_last-requires g c = c.requires.some

-- the other passes are of the table too, and so is the one that is taken first
passes_here : (g : Over) (c : After-take_last g)
    → All (λ (p : PassShown _). p.table ≡ c.args.self.table) c.take_last.new.self.items × (c.take_last.result.table ≡ c.args.self.table)
passes_here g c =
    all_popped (λ (p : PassShown _). p.table ≡ c.args.self.table) c.args.passes.items c.take_last.new.self.items c.take_last.result
    c.take_last.ensures.items c.requires.table.0

pub gather-seat-requires-clause-table : goal.gather-seat-requires-clause-table
gather-seat-requires-clause-table g c = (
  of_table (λ x. x) c.self.view_is c.seat-seat.ensures.there (passes_here g (goal.at.gather-seat-requires-clause-table g c).After-take_last).1,
  c.self.inside.some,
)

pub gather-seat-requires-clause-all : goal.gather-seat-requires-clause-all
gather-seat-requires-clause-all g c =
    subst (λ (t : TableId). All (λ (p : PassShown _). p.table ≡ t) c.take_last.new.self.items)
    (sym (ap (λ (w : WordsShown _). w.table) c.self.view_is)) (passes_here g (goal.at.gather-seat-requires-clause-all g c).After-take_last).0

pub gather-seat-requires-2-clause-table : goal.gather-seat-requires-2-clause-table
gather-seat-requires-2-clause-table g c = (c.gather-seat.ensures.table, c.self.inside.some)

pub gather-seat-requires-2-clause-all : goal.gather-seat-requires-2-clause-all
gather-seat-requires-2-clause-all g c =
    subst (λ (t : TableId). All (λ (q : RootShown _). q.table ≡ t) c.args.roots.items)
    (sym (ap (λ (w : WordsShown _). w.table) c.self.view_is)) c.requires.table.1

pub close_with-requires : goal.close_with-requires
close_with-requires g c = c.gather-seat-2.ensures.table

pub returns-clause-full : goal.returns-clause-full
returns-clause-full g c = (
  c.close_with.ensures.values.0,
  c.close_with.ensures.values.1,
  c.close_with.ensures.counts.1
      ∙ ap (λ (w : WordsShown _). w.table.slots) c.self.view_is,
)

pub returns-clause-ended : goal.returns-clause-ended
returns-clause-ended g c =
    let passes = c.args.passes.items in
    let roots = c.args.roots.items in
    let own = c.seat-seat.result.me.0 in
    let all = c.gather-seat-2.ensures.rights ∙ ap (λ v. v ++ roots_in (reverse roots))
    (c.gather-seat.ensures.rights ∙ gathered
    (λ (p : PassShown _). Pass (right_of_pass p)) [] own own passes c.take_last.new.self.items c.take_last.result refl
    (ap (λ m. m.0) c.seat-seat.ensures.alone)
    c.take_last.ensures.items) in
    let last = c.close_with.ensures.values.2 in
    subst
    (λ (w : WordsShown _). Ended (g.K.Kind.meaning w.key) passes roots (slots_items c.close_with.result.words)
    (slots_items c.close_with.result.slots)) c.self.view_is
    (ends (g.K.Kind.meaning c.self.inside.table.shared.key) last.0 last.1.0 c.gather-seat-2.result.id c.gather-seat-2.result.me.0
    last.1.1 passes roots all
    (slots_items c.close_with.result.words) (slots_items c.close_with.result.slots) last.2 last.3 last.4)
