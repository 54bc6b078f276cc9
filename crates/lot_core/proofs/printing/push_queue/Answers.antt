use Rattle.std.proofs.Common.{arith, OnOk, Result, Ok, Err}
use Rattle.std.specs.Prelude.{string_bytes}
use Rattle.std.proofs.lemmas.Grind.{common_steps}
use Rattle.lot_core.specs.Lines.{line_of}
use Rattle.lot_core.proofs.Texts.{queue_none, queue_more, queue_done, length_some}
use Rattle.lot_core.proofs.printing.push_queue.Goals as goal

on_ok : {X E : Type 0} (r : Result X E) (P Q : Type 0) → (P → Q) → OnOk r P → OnOk r Q
on_ok (Ok x) P Q f h = f h
on_ok (Err e) P Q f h = tt

pub returns-then-is_empty : goal.returns-then-is_empty
returns-then-is_empty c =
    on_ok c.push_str.result _ _
    (queue_none (line_of c.args.lines.now c.args.key) (string_bytes c.args.out.now) (string_bytes c.push_str.new.self)
    (c.is_empty.ensures.0 c.if-is_empty.true))
    (grind (arith, common_steps))

pub loop-place-preserved : goal.loop-place-preserved
loop-place-preserved c =
    queue_more (line_of c.args.lines.now c.args.key) c.loop-place.place c.at-thread.result (string_bytes c.args.out.now)
    (string_bytes c.loop-place.out) _
    (omega arith) c.at-thread.ensures c.loop-place.invariant ((c.in_ok-write-2.ensures {u = tt}).bytes)

pub returns : goal.returns
returns c =
    queue_done (line_of c.args.lines.now c.args.key) c.loop-place.place (string_bytes c.args.out.now) _
    (length_some (line_of c.args.lines.now c.args.key) (λ e. let b = c.is_empty.ensures.1 e in absurd (cc)))
    (omega arith) c.loop-place.invariant
