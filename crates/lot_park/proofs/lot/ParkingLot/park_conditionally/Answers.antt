use Rattle.std.proofs.Common.{subst, sym}
use Rattle.lot_park.specs.Parking.{Awaited}
use Rattle.lot_park.proofs.Looks.{ends_on}
use Rattle.lot_park.proofs.lot.ParkingLot.park_conditionally.Goals as goal

pub returns : goal.returns
returns g c =
    let (bucket, ready, place, parked) = c.park_acting.ensures in (
      bucket,
      ready,
      place,
      record {
        answer = parked.answer;
        by = parked.by;
        ends = ends_on _ _ _ c.park_acting.result.2
            (λ token e. (
              e.0,
              subst (λ q. Awaited g.S.Scheme.looked q token c.park_acting.result.0) e.1.1.1.1.1 e.1.2,
              rw (sym e.1.3) at e.1.1.1.1.0,
            ))
            parked.ends;
      },
    )
