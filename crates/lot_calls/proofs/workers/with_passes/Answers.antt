use Rattle.lot_calls.proofs.Working.{seen_grown}
use Rattle.lot_calls.proofs.workers.with_passes.Goals as goal

pub finish_with-requires-clause-leave : goal.finish_with-requires-clause-leave
finish_with-requires-clause-leave g c κs within = λ k d near.
    let ready = c.register_all-passes.ensures.ready k d near in record { free = ready.free; rests = ready.rests }

pub returns-else-registered-clause-back : goal.returns-else-registered-clause-back
returns-else-registered-clause-back g c =
    let ended = c.finish_with.ensures.finished in
    (c.finish_with.ensures.count, seen_grown g.V.Keeps g.N.LotName.values _ ended.passes c.finish_with.result.0.items ended.taken.ready ended.seen)
