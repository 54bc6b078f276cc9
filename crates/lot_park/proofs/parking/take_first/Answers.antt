use Rattle.std.proofs.Common.{◌≡◌, ◌≤◌, length, ap, arith}
use Rattle.lot_bucket.specs.Queue.{line_of}
use Rattle.lot_bucket.specs.Contents.{Contents}
use Rattle.lot_bucket.proofs.Laws.{line_fits}
use Rattle.lot_park.proofs.Under.{tells_count}
use Rattle.lot_park.proofs.parking.take_first.Given.{Over}
use Rattle.lot_park.proofs.parking.take_first.Goals.{After-take_root-root}
use Rattle.lot_park.proofs.parking.take_first.Goals as goal

queue : (g : Over) (c : After-take_root-root g) → c.take_root-root.new.self.queue ≡ c.args.bucket.now.queue
queue g c = ap (λ (b : Contents g.row.R.Denot). b.queue) c.take_root-root.ensures.left

-- no line is longer than the room
fits : (g : Over) (c : After-take_root-root g) → length (line_of c.args.key c.args.bucket.now.queue) ≤ c.args.bucket.now.room
fits g c = omega (arith, line_fits c.args.key c.args.bucket.now.queue, c.len.ensures.count, c.len.ensures.fits)

pub dequeue_count-taken-requires : goal.dequeue_count-taken-requires
dequeue_count-taken-requires g c =
    let at = (goal.at.dequeue_count-taken-requires g c).After-take_root-root in
    omega (arith, ap (λ q. length (line_of c.args.key q)) (queue g at), fits g at, c.requires.few)

pub returns-clause-told : goal.returns-clause-told
returns-clause-told g c =
    let at = (goal.at.returns-clause-told g c).After-take_root-root in
    tells_count c.args.key c.args.count c.args.bucket.now.room c.args.bucket.now c.take_root-root.new.self c.dequeue_count-taken.new.self _
    c.dequeue_count-taken.result.0
    c.dequeue_count-taken.result.1
    (queue g at) (fits g at) c.dequeue_count-taken.ensures.took

pub returns-clause-within : goal.returns-clause-within
returns-clause-within g c =
    let at = (goal.at.returns-clause-within g c).After-take_root-root in
    omega (arith, c.dequeue_count-taken.ensures.took.number, ap (λ q. length (line_of c.args.key q)) (queue g at), fits g at)

pub returns-clause-others : goal.returns-clause-others
returns-clause-others g c = c.dequeue_count-taken.ensures.took.others
