use Rattle.std.proofs.Common.{◌≡◌, ◌≤◌, List, length, arith, ap, refl, ◌∙◌}
use Rattle.std.proofs.lemmas.List.{take_all, length-take-le}
use Rattle.lot_bucket.specs.Contents.{Contents}
use Rattle.lot_table.specs.Tables.{under}
use Rattle.lot_table.proofs.Guarding.{out_next, rest_next, length-under}
use Rattle.lot_table.proofs.growth.take_out.Goals as goal

pub loop-number-init : goal.loop-number-init
loop-number-init g c = record { out = c.requires.empty; rest = λ i d le. refl; room = c.requires.room }

pub push_reserved-requires : goal.push_reserved-requires
push_reserved-requires g c =
    let within : c.loop-number.number ≤ length (under c.args.guards.now) =
    omega (arith, c.loop-number-test.true, length-under c.args.guards.now) in
    let count : length c.loop-number.old.items ≡ c.loop-number.number =
    ap (λ (bs : List (Contents g.row.R.Denot)). length bs) c.loop-number.invariant.out
    ∙ length-take-le c.loop-number.number (under c.args.guards.now) within in
    omega (arith, count, c.loop-number.old.ok.0, c.loop-number-test.true, c.loop-number.invariant.room)

pub loop-number-preserved : goal.loop-number-preserved
loop-number-preserved g c = record {
  out =
      out_next c.loop-number.number c.loop-number.guards c.args.guards.now c.loop-number.old.items c.push_reserved.new.self.items
      c.index-guards-number.result c.deref_mut-settled.result.now
      c.take_bucket.result (omega arith) c.loop-number.auto.guards
      c.deref_mut-settled.ensures.value c.take_bucket.ensures.taken
      c.loop-number.invariant.rest
      c.loop-number.invariant.out c.push_reserved.ensures.items;
  rest = rest_next c.loop-number.number c.loop-number.guards c.args.guards.now _ c.loop-number.invariant.rest;
  room = omega (arith, c.push_reserved.ensures.capacity, c.loop-number.invariant.room);
}

pub returns : goal.returns
returns g c =
    c.loop-number.invariant.out ∙ take_all c.loop-number.number (under c.args.guards.now)
    (rw (length-under c.args.guards.now) c.loop-number-test.false)
