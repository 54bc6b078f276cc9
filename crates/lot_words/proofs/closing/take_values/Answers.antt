use Rattle.std.proofs.Common.{rules, ◌≡◌, Some, slice_get, sym, ap, subst, ◌∙◌, ⊎_elim, arith}
use Rattle.std.specs.Slots.{slots_items, slots_len, slots_filled}
use mathlib.Core.Option.{some, some-injective}
use lib.ListN.{get_elem?}
use Rattle.lot_words.proofs.Emptying.{emptied_so_far, full_from_here, get_snoc}
use Rattle.lot_words.proofs.closing.take_values.Goals as goal

pub unreachable-requires : goal.unreachable-requires
unreachable-requires g c =
    let inv = c.loop-i.invariant in
    let lie = c.requires.lie c.loop-i.i (omega (arith, c.loop-i-test.true, c.slot_count.ensures, inv.len)) in
    c.in_default.not-Some lie.0
    (some-injective c.take.result (Some lie.0) (sym c.take.ensures.value ∙ (ap (λ xs. get_elem? xs c.loop-i.i) inv.items ∙ lie.1)))

pub loop-i-preserved : goal.loop-i-preserved
loop-i-preserved g c =
    let inv = c.loop-i.invariant in
    let old = slots_filled c.loop-i.closed.slots in
    let new = slots_filled c.take.new.self.slots in
    let others = c.take.ensures.others in
    let same_len : slots_len c.take.new.self.slots ≡ slots_len c.loop-i.closed.slots = others.2 in
    record {
      left =
          λ k past near. full_from_here old new c.loop-i.i (slots_len c.loop-i.closed.slots) others.1 inv.left k past
          (omega (arith, same_len));
      taken = emptied_so_far old new c.loop-i.i others.1 inv.taken;
      items = others.0 ∙ inv.items;
      len = same_len ∙ inv.len;
      within = omega (arith, same_len, c.loop-i-test.true, c.slot_count.ensures);
      room = omega (arith, c.push_reserved.ensures.len, inv.room);
      fits = omega (arith, same_len, c.push_reserved.ensures.capacity, inv.fits);
      each = λ k y e. ⊎_elim
          (λ before. inv.each k y before)
          (λ last. let at : k ≡ c.loop-i.i = omega (arith, last.0, inv.room, c.loop-i.room.ok) in
          subst (λ j. get_elem? (slots_items c.args.closed.slots) j ≡ some (Some y)) (sym at)
          (ap (λ xs. get_elem? xs c.loop-i.i) (sym inv.items) ∙ (c.in-Some.ensures.value ∙ ap (λ z. some (Some z)) last.1)))
          (get_snoc c.loop-i.room.items c.in-Some.value y k (ap (λ xs. slice_get xs k) (sym c.push_reserved.ensures.items) ∙ e));
    }

pub take-requires : goal.take-requires
take-requires g c = search rules

pub returns-clause-each : goal.returns-clause-each
returns-clause-each g c = search rules
