use Rattle.std.proofs.Common.{◌≡◌, ◌≢◌, ◌-◌, ◌∷◌, slice_set, slice_index, remove, arith, refl, ◌∙◌, sym, subst}
use Rattle.lot_places.specs.Links.{Row, row_of}
use Rattle.lot_places.specs.Links.{StandsIn}
use Rattle.lot_places.proofs.Rows.{Chained, closed, row_is}
use Rattle.lot_places.proofs.Steps.{room_is, found, take_out, stands_still}
use Rattle.lot_places.proofs.links.Links.remove.Goals.{After-index_mut, then-place-self, else-place-self}
use Rattle.lot_places.proofs.links.Links.remove.Goals as goal

pub index-place-requires : goal.index-place-requires
index-place-requires c =
    let there = found c.self.inside c.args.self.now c.args.cursor (c.self.invariant, c.self.view_is) c.requires.stands c.requires.more in
    omega (arith, there.bound)

pub index-after-requires : goal.index-after-requires
index-after-requires c =
    let done =
    take_out c.self.inside c.args.self.now c.args.cursor c.index-place.result.now
    (c.self.invariant, c.self.view_is) c.requires.stands c.requires.more c.index-place.ensures in
    omega (arith, done.within)

pub index_mut-requires : goal.index_mut-requires
index_mut-requires c =
    let there = found c.self.inside c.args.self.now c.args.cursor (c.self.invariant, c.self.view_is) c.requires.stands c.requires.more in
    omega (arith, there.bound)

pub index_mut-requires-2 : goal.index_mut-requires-2
index_mut-requires-2 c =
    let done =
    take_out c.self.inside c.args.self.now c.args.cursor c.index-place.result.now
    (c.self.invariant, c.self.view_is) c.requires.stands c.requires.more c.index-place.ensures in
    omega (arith, done.within)

left : (c : After-index_mut)
    → Chained
    (slice_set (slice_set c.self.inside.next.items c.args.cursor.before c.index-after.result.now)
    c.index-place.result.now c.self.inside.free)
    c.self.inside.room (c.self.inside.len - 1) c.if-place-self.last c.index-place.result.now
    (remove c.args.self.now.used c.args.cursor.passed) (c.index-place.result.now ∷ c.args.self.now.free)
left c =
    let place = c.index-place.result.now in
    let done =
    take_out c.self.inside c.args.self.now c.args.cursor place
    (c.self.invariant, c.self.view_is) c.requires.stands c.requires.more c.index-place.ensures in
    let was : place ≡ c.self.inside.last → c.if-place-self.last ≡ c.args.cursor.before = λ e.
    elim c.if-place-self.branch [ then-place-self w ↦ w.last-is | else-place-self w ↦ absurd (w.if-place-self.false e) ] in
    let stays : place ≢ c.self.inside.last → c.if-place-self.last ≡ c.self.inside.last = λ e.
    elim c.if-place-self.branch [ then-place-self w ↦ absurd (e w.if-place-self.true) | else-place-self w ↦ w.last-is ] in
    done.after c.index-after.result.now c.if-place-self.last c.index-after.ensures was stays

pub invariant_of-self : goal.invariant_of-self
invariant_of-self c = closed (left (goal.at.invariant_of-self c).After-index_mut)

shown : (c : After-index_mut)
    → row_of
    (slice_set (slice_set c.self.inside.next.items c.args.cursor.before c.index-after.result.now)
    c.index-place.result.now c.self.inside.free)
    c.self.inside.room (c.self.inside.len - 1) c.index-place.result.now
    ≡ record {
      room = c.args.self.now.room;
      used = remove c.args.self.now.used c.args.cursor.passed;
      free = slice_index c.args.self.now.used c.args.cursor.passed ∷ c.args.self.now.free;
    }
shown c =
    let there = found c.self.inside c.args.self.now c.args.cursor (c.self.invariant, c.self.view_is) c.requires.stands c.requires.more in
    let here = there.reads c.index-place.result.now c.index-place.ensures in
    row_is (left c) ∙ rw (here, room_is c.self.inside c.args.self.now (c.self.invariant, c.self.view_is)) refl

pub returns-clause-left : goal.returns-clause-left
returns-clause-left c = shown (goal.at.returns-clause-left c).After-index_mut

pub returns-clause-stands : goal.returns-clause-stands
returns-clause-stands c =
    let P : Row → Type 0 = λ row. StandsIn row c.args.cursor in
    subst P (sym (shown (goal.at.returns-clause-stands c).After-index_mut))
    (stands_still c.args.self.now c.args.cursor _ c.requires.stands c.requires.more)
