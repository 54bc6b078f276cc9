use Rattle.std.proofs.Common.{◌≡◌, ℕ, drop, Some, None, sym, ◌∙◌, ap}
use Rattle.lot_bucket.specs.Queue.{line_of, without_first}
use Rattle.lot_bucket.specs.Places.{has_key, root_at, with_root}
use Rattle.lot_bucket.specs.Contents.{Contents}
use Rattle.lot_bucket.specs.KeyLine.{KeyLine}
use Rattle.lot_bucket.specs.Agrees.{IsRootOf}
use Rattle.lot_bucket.specs.Settled.{IsReadyFor, Stays}
use Rattle.lot_bucket.specs.Taking.{TakesOne}
use Rattle.lot_bucket.specs.declared.taking.Moment.{Moment}
use Rattle.lot_bucket.specs.declared.taking.Dequeued.{Dequeued}
use Rattle.lot_bucket.proofs.Laws.{line_of-without_count_same, line_of-without_count_other, has_key-with, root_at-with_same, root_taken}
use Rattle.base_trials.proofs.Lending.{back_stays}
use Rattle.base_trials.specs.declared.park.rights.Right.{Right}
use Rattle.base_trials.proofs.park.tables.leave_from.Goals as goal

-- with the first thread gone and the root back, the bucket stays what it was
left_stays : {R : Type 0} (view : R → KeyLine) (k threads keys : ℕ) (moment : Moment) (before out taken after : Contents R)
    (told : Dequeued) (root back : R)
    → IsReadyFor view k threads keys before → root_at k before.places ≡ Some root
    → out ≡ record before { places = with_root k None before.places } → TakesOne k moment out taken told
    → after ≡ record taken { places = with_root k (Some back) taken.places }
    → (view back).key ≡ (view root).key → (view back).line ≡ drop 1 (view root).line → (view back).owes ≡ (view root).owes
    → Stays view before after
left_stays {R} view k threads keys moment before out taken after told root back ready at took takes put named shorter paid =
    let places : after.places ≡ with_root k (Some back) (with_root k None before.places) =
    ap (λ (b : Contents R). b.places) put
    ∙ ap (λ ps. with_root k (Some back) ps) (ap (λ (b : Contents R). b.places) takes.left ∙ ap (λ (b : Contents R). b.places) took) in
    let queue : after.queue ≡ without_first k before.queue =
    ap (λ (b : Contents R). b.queue) put ∙ ap (λ (b : Contents R). b.queue) takes.left
    ∙ ap (λ (b : Contents R). without_first k b.queue) took in
    let opened : after.opened ≡ before.opened = ap (λ (b : Contents R). b.opened) put ∙ ap (λ (b : Contents R). b.opened) takes.left
    ∙ ap (λ (b : Contents R). b.opened) took in
    let room : after.room ≡ before.room = ap (λ (b : Contents R). b.room) put ∙ ap (λ (b : Contents R). b.room) takes.left
    ∙ ap (λ (b : Contents R). b.room) took in
    let own = root_taken view before k root ready.agrees ready.is_open ready.has at in
    let fits : IsRootOf view k after.queue back = record {
      named = named ∙ own.named;
      same_line = shorter ∙ ap (λ xs. drop 1 xs) own.same_line ∙ sym (line_of-without_count_same 1 k before.queue)
          ∙ sym (ap (λ q. line_of k q) queue);
      paid = paid ∙ own.paid;
    } in
    back_stays view k threads keys before after back ready places opened room (λ j other. ap (λ q. line_of j q) queue
    ∙ line_of-without_count_other j 1 k before.queue other) fits

pub put_root-requires-clause-has : goal.put_root-requires-clause-has
put_root-requires-clause-has c =
    ap (λ (b : Contents Right). has_key c.args.key b.places) c.dequeue_one-taken.ensures.left
    ∙ ap (λ (b : Contents Right). has_key c.args.key b.places) c.take_root-right.ensures.left
    ∙ has_key-with c.args.key c.args.key None c.args.bucket.now.places ∙ c.requires.2.has

pub put_root-requires-clause-room : goal.put_root-requires-clause-room
put_root-requires-clause-room c =
    ap (λ (b : Contents Right). root_at c.args.key b.places) c.dequeue_one-taken.ensures.left
    ∙ ap (λ (b : Contents Right). root_at c.args.key b.places) c.take_root-right.ensures.left
    ∙ root_at-with_same c.args.key None c.args.bucket.now.places c.requires.2.has

pub returns-clause-stays : goal.returns-clause-stays
returns-clause-stays c =
    left_stays (λ (r : Right). record { key = r.key; line = r.line.items; owes = r.owes.items }) c.args.key c.requires.0 c.requires.1 _
    c.args.bucket.now c.take_root-right.new.self
    c.dequeue_one-taken.new.self c.put_root.new.self
    c.dequeue_one-taken.result c.take_root-right.result c.advanced.result c.requires.2 c.take_root-right.ensures.root
    c.take_root-right.ensures.left c.dequeue_one-taken.ensures c.put_root.ensures
    c.advanced.ensures.key c.advanced.ensures.line c.advanced.ensures.owes
