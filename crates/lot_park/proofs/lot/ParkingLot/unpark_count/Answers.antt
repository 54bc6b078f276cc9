use Rattle.std.proofs.Common.{ℕ, sym, ◌∙◌, ap, subst, ◌≤◌}
use Rattle.lot_bucket.specs.Settled.{IsReadyFor}
use Rattle.lot_table.specs.declared.sizes.TheConstants.{MOST_THREADS}
use Rattle.lot_park.specs.Lots.{ParkingView}
use Rattle.lot_park.specs.Parking.{MayUnparkCount, UnparksCount, UnparkedCount}
use denote.Exit.{no}
use denote.Param.Send.{param_send, arg_send}
use Rattle.lot_park.proofs.lot.ParkingLot.unpark_count.Goals as goal

pub with_bucket-y-requires-clause-callable : goal.with_bucket-y-requires-clause-callable
with_bucket-y-requires-clause-callable g c κs within = λ b ready.
    let same = ready.room ∙ ap (λ (v : ParkingView g.row.S.Denot). v.threads) c.self.view_is in (
      record { agrees = ready.agrees; is_open = ready.is_open; has = ready.has },
      (
        subst (λ (n : ℕ). n ≤ MOST_THREADS) (sym ready.room) c.self.invariant.1,
        (
          subst (λ (n : ℕ). MayUnparkCount g.S.Root.Root.view n c.args.key c.args.count (goal.F-pre g c.args.f c.args.x))
              (sym same) c.requires.callable,
          (
            subst (λ (n : ℕ). UnparksCount g.S.Root.Root.view n c.args.key c.args.count (goal.F-post g c.args.f c.args.x))
                (sym same) c.requires.keeps,
            param_send 1 _ (arg_send _ no _ c.type_bounds.send-S-Root),
          ),
        ),
      ),
    )

pub returns : goal.returns
returns g c =
    let (bucket, after, ready, post, stays) = c.with_bucket-y.ensures in (
      bucket.now,
      subst (λ (v : ParkingView g.row.S.Denot). IsReadyFor g.S.Root.Root.view c.args.key v.threads v.keys bucket.now) c.self.view_is ready,
      subst (λ (n : ℕ). UnparkedCount g.S.Root.Root.view n c.args.key c.args.count bucket.now (goal.F-post g c.args.f c.args.x)
          (c.with_bucket-y.result.0, c.with_bucket-y.result.1.count))
          (ready.room ∙ ap (λ (v : ParkingView g.row.S.Denot). v.threads) c.self.view_is) post.1,
    )
