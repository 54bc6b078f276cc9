use Rattle.std.proofs.Common.{None, sym, ◌∙◌, arith}
use Rattle.lot_places.proofs.Slots.{rootless, slot_within, slot_read, slot_stored, slot_kept}
use Rattle.lot_places.proofs.places.Places.take.Goals as goal

pub unreachable-requires : goal.unreachable-requires
unreachable-requires g c = absurd (let none = rw (rootless c.args.key c.args.self.now c.in_default.ensures) at c.requires in cc)

pub index_mut-slot-requires : goal.index_mut-slot-requires
index_mut-slot-requires g c =
    omega (
      arith,
      slot_within _ _ _ _ _ c.self.view_is c.self.invariant.0 c.in-Some.ensures,
      c.self.inside.slots.ok,
    )

pub unwrap-requires : goal.unwrap-requires
unwrap-requires g c =
    let read =
    slot_read _ _ _ _ _ c.self.view_is c.self.invariant.0 c.in-Some.ensures
    c.index_mut-slot.result.now c.index_mut-slot.ensures.value in
    rw (c.take.ensures.value ∙ read) c.requires

pub invariant_of-self : goal.invariant_of-self
invariant_of-self g c =
    slot_kept _ _ _ _ _ c.self.view_is c.self.invariant.0 c.in-Some.ensures c.take.new.self c.self.invariant.1

pub returns-clause-root : goal.returns-clause-root
returns-clause-root g c =
    let read =
    slot_read _ _ _ _ _ c.self.view_is c.self.invariant.0 c.in-Some.ensures
    c.index_mut-slot.result.now c.index_mut-slot.ensures.value in
    sym read ∙ sym c.take.ensures.value ∙ c.unwrap.ensures

pub returns-clause-left : goal.returns-clause-left
returns-clause-left g c =
    rw c.take.ensures.after
    (slot_stored _ _ _ _ _ c.self.view_is c.self.invariant.0 c.in-Some.ensures None)
