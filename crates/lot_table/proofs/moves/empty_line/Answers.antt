use Rattle.std.proofs.Common.{◌≡◌, refl, sym, ◌∙◌, None}
use Rattle.lot_bucket.specs.Queue.{line_of, first_of}
use Rattle.lot_table.proofs.Moving.{taken_never, moving_smaller, leaving_more, leaving_ends, no_first}
use Rattle.lot_table.proofs.moves.empty_line.Goals as goal

pub loop-thread-smaller : goal.loop-thread-smaller
loop-thread-smaller g c =
    moving_smaller c.args.key c.in-Some._thread c.loop-thread.bucket c.dequeue_one.new.self
    (sym c.dequeue_one.ensures.thread ∙ c.in-Some.is)
    (taken_never c.args.key _ c.loop-thread.bucket c.dequeue_one.new.self c.dequeue_one.result refl c.dequeue_one.ensures)

pub loop-thread-preserved : goal.loop-thread-preserved
loop-thread-preserved g c =
    leaving_more c.args.key c.args.bucket.now c.loop-thread.bucket c.dequeue_one.new.self c.loop-thread.invariant
    (taken_never c.args.key _ c.loop-thread.bucket c.dequeue_one.new.self c.dequeue_one.result refl c.dequeue_one.ensures)

pub returns : goal.returns
returns g c =
    let none : first_of (line_of c.args.key c.loop-thread.bucket.queue) ≡ None = sym c.dequeue_one.ensures.thread ∙ c.in_default.is in
    leaving_ends c.args.key c.args.bucket.now c.loop-thread.bucket c.dequeue_one.new.self c.loop-thread.invariant
    (no_first (line_of c.args.key c.loop-thread.bucket.queue) none)
    (taken_never c.args.key _ c.loop-thread.bucket c.dequeue_one.new.self c.dequeue_one.result refl c.dequeue_one.ensures)
