use Rattle.std.proofs.Common.{◌≡◌, ◌↔◌, ◌<◌, IsTrue, ap}
use Rattle.lot_places.specs.Links.{times}
use Rattle.lot_places.specs.Counted.{threads_of}
use Rattle.lot_places.specs.Waiting.{Waiting, lying_at}
use Rattle.lot_places.proofs.Counted.{waits_counted, counted_waits}
use Rattle.lot_places.proofs.queue.Queue.has_thread.Goals as goal

pub returns-in-Some : goal.returns-in-Some
returns-in-Some c =
    let queue = c.args.self.now.pairs in
    let lying : lying_at c.self.inside.pairs.items c.self.inside.links.used ≡ queue = ap (λ (w : Waiting). w.pairs) c.self.view_is in
    let has : IsTrue c.in-Some.has ↔ (0 < times c.args.thread (threads_of queue)) =
    rw lying at (c.in-Some.ensures.has (threads_of (lying_at c.self.inside.pairs.items c.self.inside.links.used)) c.self.invariant.1) in
    (λ yes. counted_waits c.args.thread queue (has.0 yes), λ any. has.1 (waits_counted c.args.thread queue any))
