use Rattle.std.proofs.Common.{◌∙◌}
use Rattle.lot_sync.specs.Lot.{letting_go, one_wait_more}
use Rattle.lot_sync.proofs.Holdings.{got_holds, left_all}
use Rattle.lot_load.specs.declared.measure.value.Number.{Number}
use Rattle.lot_load.proofs.measure.member.Member.get_when.Goals as goal

pub loop-init : goal.loop-init
loop-init g c =
    let gets = c.lock-pass.ensures.gets in (
      tt,
      tt,
      record { key = gets.key_is; holding = got_holds _ c.args.pass c.lock-pass.result.0 0 c.lock-pass.result.1 c.requires.free gets },
    )

pub loop-preserved : goal.loop-preserved
loop-preserved g c =
    let inv = c.loop.invariant.2 in
    let gets = c.wait-woken.ensures.gets in
    let left = left_all (λ (x y : Number). Unit {0}) c.loop.pass c.loop.held inv.holding in (
      tt,
      tt,
      record {
        key = gets.key_is ∙ inv.key;
        holding =
            got_holds _ (one_wait_more (letting_go c.loop.pass c.loop.held.key c.loop.held.value) _) c.wait-woken.result.0
            c.loop.held.key c.wait-woken.result.1
            (record { no_lock = left.no_lock; no_permit = left.no_permit }) gets;
      },
    )
