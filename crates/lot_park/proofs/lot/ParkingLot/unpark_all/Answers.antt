use Rattle.lot_park.proofs.All.{may_all, keeps_all, unparked_all}
use Rattle.lot_park.proofs.lot.ParkingLot.unpark_all.Goals as goal

pub unpark_count-requires-clause-callable : goal.unpark_count-requires-clause-callable
unpark_count-requires-clause-callable g c κs within =
    may_all g.S.Root.Root.view c.args.self.now.threads c.args.key c.threads.result (goal.F-pre g c.args.f c.args.x)
    c.threads.ensures c.requires.callable

pub unpark_count-requires-clause-keeps : goal.unpark_count-requires-clause-keeps
unpark_count-requires-clause-keeps g c κs within =
    keeps_all g.S.Root.Root.view c.args.self.now.threads c.args.key c.threads.result (goal.F-post g c.args.f c.args.x)
    c.threads.ensures c.requires.keeps

pub returns : goal.returns
returns g c =
    let (bucket, ready, counted) = c.unpark_count.ensures in (
      bucket,
      ready,
      unparked_all g.S.Root.Root.view c.args.self.now.threads c.args.key c.threads.result bucket (goal.F-post g c.args.f c.args.x)
          c.unpark_count.result c.threads.ensures counted,
    )
