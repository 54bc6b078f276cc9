use Rattle.std.proofs.Common.{subst}
use Rattle.lot_bucket.specs.Settled.{IsReadyFor}
use Rattle.lot_park.specs.Lots.{ParkingView}
use denote.Exit.{no}
use denote.Param.Send.{param_send, arg_send}
use Rattle.lot_park.proofs.lot.ParkingLot.unpark_one.Goals as goal

pub with_bucket-y-requires-clause-callable : goal.with_bucket-y-requires-clause-callable
with_bucket-y-requires-clause-callable g c κs within = λ b ready. (
  record { agrees = ready.agrees; is_open = ready.is_open; has = ready.has },
  (c.requires.callable, (c.requires.keeps, param_send 1 _ (arg_send _ no _ c.type_bounds.send-S-Root))),
)

pub returns : goal.returns
returns g c =
    let (bucket, after, ready, post, stays) = c.with_bucket-y.ensures in (
      bucket.now,
      subst (λ (v : ParkingView g.row.S.Denot). IsReadyFor g.S.Root.Root.view c.args.key v.threads v.keys bucket.now) c.self.view_is ready,
      post.1,
    )
