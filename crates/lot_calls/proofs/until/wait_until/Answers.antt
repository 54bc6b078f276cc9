use Rattle.std.proofs.Common.{◌<◌, subst, sym}
use Rattle.lot_order.specs.Order.{MayWait}
use Rattle.lot_sync.specs.Lot.{Owns, keys_of}
use Rattle.lot_sync.proofs.Below.{same_waits}
use Rattle.lot_calls.proofs.Waiting.{not_yet, once_more}
use Rattle.lot_calls.proofs.until.wait_until.Goals as goal

pub loop-init : goal.loop-init
loop-init g c =
    (tt, tt, not_yet g.V.Keeps _ c.args.pass c.args.held c.args.cond c.args.moment.now c.requires.back, c.requires.owns, c.requires.shape)

pub wait-woken-requires-clause-above : goal.wait-woken-requires-clause-above
wait-woken-requires-clause-above g c κs within =
    let waits = c.loop.invariant.2 in
    subst (λ k. MayWait g.V.Keeps.above (keys_of c.loop.pass) c.args.cond k) (sym waits.key_is)
    (same_waits g.V.Keeps.above c.args.pass c.loop.pass c.args.cond c.args.held.key waits.same_owns waits.same_permits c.requires.above)

pub ready-requires : goal.ready-requires
ready-requires g c =
    c.requires.callable c.value.result (subst (g.V.Keeps.keeps c.args.held.key) (sym c.value.ensures) c.loop.invariant.2.kept)

pub loop-preserved : goal.loop-preserved
loop-preserved g c =
    let inv = c.loop.invariant in
    let gets = c.wait-woken.ensures.gets in
    let near = subst (λ n. c.args.cond < n) (sym c.requires.shape.woken) c.requires.cond.1 in (
      tt,
      tt,
      once_more g.V.Keeps _ c.args.lot.now c.args.pass c.loop.pass c.wait-woken.result.0 c.args.held c.loop.held c.wait-woken.result.1
          c.args.cond c.args.moment.now c.requires.key near inv.4
          inv.3 inv.2 (c.value.result, c.value.ensures, rw c.if-ready.false at c.ready.ensures) gets c.wait-woken.ensures.made,
      subst (λ k. Owns c.wait-woken.result.0 k) inv.2.key_is gets.owns,
      c.wait-woken.ensures.shape,
    )
