use Rattle.std.proofs.Common.{Some, ◌∙◌, arith}
use Rattle.lot_places.proofs.Slots.{slot_within, slot_read, slot_stored, slot_kept}
use Rattle.lot_places.proofs.places.Places.put.Goals as goal

pub index_mut-slot-requires : goal.index_mut-slot-requires
index_mut-slot-requires g c =
    omega (
      arith,
      slot_within _ _ _ _ _ c.self.view_is c.self.invariant.0 c.in-Some.ensures,
      c.self.inside.slots.ok,
    )

pub unreachable-requires-in_default-before : goal.unreachable-requires-in_default-before
unreachable-requires-in_default-before g c =
    let read =
    slot_read _ _ _ _ _ c.self.view_is c.self.invariant.0 c.in-Some.ensures
    c.index_mut-slot.result.now c.index_mut-slot.ensures.value in
    c.in_default-before.not-None (c.replace-before.ensures.value ∙ read ∙ c.requires.free)

pub invariant_of-self : goal.invariant_of-self
invariant_of-self g c =
    slot_kept _ _ _ _ _ c.self.view_is c.self.invariant.0 c.in-Some.ensures c.replace-before.new.dest c.self.invariant.1

pub returns : goal.returns
returns g c =
    rw c.replace-before.ensures.after
    (slot_stored _ _ _ _ _ c.self.view_is c.self.invariant.0 c.in-Some.ensures (Some c.args.root))
