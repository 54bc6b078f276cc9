use denote.Exit.{no}
use denote.Param.Send.{param_send, arg_send}
use Rattle.lot_park.proofs.lot.ParkingLot.queue_up.Goals as goal

pub with_place_for-x-requires-clause-callable : goal.with_place_for-x-requires-clause-callable
with_place_for-x-requires-clause-callable g c κs within = λ b ready place. (
  record { agrees = ready.agrees; is_open = ready.is_open; has = ready.has },
  (
    rw (← c.thread_of-thread.ensures) place,
    (c.requires.callable, (c.requires.keeps, param_send 1 _ (arg_send _ no _ c.type_bounds.send-S-Root))),
  ),
)
