use Rattle.std.proofs.Common.{◌≡◌, refl, sym, ◌∙◌, None}
use Rattle.lot_bucket.specs.Queue.{line_of, first_of}
use Rattle.lot_table.proofs.Moving.{taken_never, moving_smaller, moving_more, moving_ends, no_first}
use Rattle.lot_table.proofs.moves.move_line.Goals as goal

pub loop-thread-smaller : goal.loop-thread-smaller
loop-thread-smaller g c =
    moving_smaller c.args.key c.in-Some.thread c.loop-thread.from c.dequeue_one.new.self (sym c.dequeue_one.ensures.thread ∙ c.in-Some.is)
    (taken_never c.args.key _ c.loop-thread.from c.dequeue_one.new.self c.dequeue_one.result refl c.dequeue_one.ensures)

pub loop-thread-preserved : goal.loop-thread-preserved
loop-thread-preserved g c =
    moving_more c.args.key c.in-Some.thread c.args.from.now c.args.to.now c.loop-thread.from c.loop-thread.to c.dequeue_one.new.self
    c.enqueue.new.self c.loop-thread.invariant
    (sym c.dequeue_one.ensures.thread ∙ c.in-Some.is)
    (taken_never c.args.key _ c.loop-thread.from c.dequeue_one.new.self c.dequeue_one.result refl c.dequeue_one.ensures)
    c.enqueue.ensures

pub returns-clause-left : goal.returns-clause-left
returns-clause-left g c =
    let none : first_of (line_of c.args.key c.loop-thread.from.queue) ≡ None = sym c.dequeue_one.ensures.thread ∙ c.in_default.is in
    moving_ends c.args.key c.args.from.now c.args.to.now c.loop-thread.from c.loop-thread.to c.dequeue_one.new.self c.loop-thread.invariant
    (no_first (line_of c.args.key c.loop-thread.from.queue) none)
    (taken_never c.args.key _ c.loop-thread.from c.dequeue_one.new.self c.dequeue_one.result refl c.dequeue_one.ensures)
