use Rattle.std.proofs.Common.{◌≡◌, ℕ, [], ◌∷◌, ◌++◌, Some, None, sym, ◌∙◌, ap}
use Rattle.lot_bucket.specs.Queue.{line_of}
use Rattle.lot_bucket.specs.Places.{root_at, with_root}
use Rattle.lot_bucket.specs.Contents.{Contents}
use Rattle.lot_bucket.specs.KeyLine.{KeyLine}
use Rattle.lot_bucket.specs.Agrees.{IsRootOf}
use Rattle.lot_bucket.specs.Settled.{IsReadyFor, Stays}
use Rattle.lot_bucket.proofs.Laws.{line_of-push_same, line_of-push_other, has_key-with, root_at-with_same, root_taken}
use Rattle.base_trials.proofs.Lending.{back_stays}
use Rattle.base_trials.specs.declared.park.rights.Right.{Right}
use Rattle.base_trials.proofs.park.tables.join_in.Given.{Over}
use Rattle.base_trials.proofs.park.tables.join_in.Goals.{After-enqueue}
use Rattle.base_trials.proofs.park.tables.join_in.Goals as goal

-- with the thread queued last and the root back, the bucket stays what it was
joined_stays : {R : Type 0} (view : R → KeyLine) (k t threads keys : ℕ) (before out queued after : Contents R) (root back : R)
    → IsReadyFor view k threads keys before → root_at k before.places ≡ Some root
    → out ≡ record before { places = with_root k None before.places } → queued ≡ record out { queue = out.queue ++ (t, k) ∷ [] }
    → after ≡ record queued { places = with_root k (Some back) queued.places }
    → (view back).key ≡ (view root).key → (view back).line ≡ (view root).line ++ t ∷ [] → (view back).owes ≡ (view root).owes
    → Stays view before after
joined_stays {R} view k t threads keys before out queued after root back ready at took joined put named longer paid =
    let places : after.places ≡ with_root k (Some back) (with_root k None before.places) =
    ap (λ (b : Contents R). b.places) put
    ∙ ap (λ ps. with_root k (Some back) ps) (ap (λ (b : Contents R). b.places) joined ∙ ap (λ (b : Contents R). b.places) took) in
    let queue : after.queue ≡ before.queue ++ (t, k) ∷ [] =
    ap (λ (b : Contents R). b.queue) put ∙ ap (λ (b : Contents R). b.queue) joined ∙ ap (λ (b : Contents R). b.queue ++ (t, k) ∷ []) took in
    let opened : after.opened ≡ before.opened = ap (λ (b : Contents R). b.opened) put ∙ ap (λ (b : Contents R). b.opened) joined
    ∙ ap (λ (b : Contents R). b.opened) took in
    let room : after.room ≡ before.room = ap (λ (b : Contents R). b.room) put ∙ ap (λ (b : Contents R). b.room) joined
    ∙ ap (λ (b : Contents R). b.room) took in
    let own = root_taken view before k root ready.agrees ready.is_open ready.has at in
    let fits : IsRootOf view k after.queue back = record {
      named = named ∙ own.named;
      same_line = longer ∙ ap (λ xs. xs ++ t ∷ []) own.same_line ∙ sym (line_of-push_same k t before.queue)
          ∙ sym (ap (λ q. line_of k q) queue);
      paid = paid ∙ own.paid;
    } in
    back_stays view k threads keys before after back ready places opened room (λ j other. ap (λ q. line_of j q) queue
    ∙ line_of-push_other j k t before.queue other) fits

-- while the root is out
out : (g : Over) (c : After-enqueue g) → c.enqueue.new.self.places ≡ with_root c.args.key None c.args.bucket.now.places
out g c = ap (λ (b : Contents Right). b.places) c.enqueue.ensures ∙ ap (λ (b : Contents Right). b.places) c.take_root-right.ensures.left

pub put_root-requires-clause-has : goal.put_root-requires-clause-has
put_root-requires-clause-has g c =
    rw (out g (goal.at.put_root-requires-clause-has g c).After-enqueue) (has_key-with c.args.key c.args.key None c.args.bucket.now.places
    ∙ c.requires.ready.2.has)

pub put_root-requires-clause-room : goal.put_root-requires-clause-room
put_root-requires-clause-room g c =
    rw (out g (goal.at.put_root-requires-clause-room g c).After-enqueue)
    (root_at-with_same c.args.key None c.args.bucket.now.places c.requires.ready.2.has)

pub returns : goal.returns
returns g c =
    joined_stays (λ (r : Right). record { key = r.key; line = r.line.items; owes = r.owes.items }) c.args.key c.args.thread
    c.requires.ready.0 c.requires.ready.1 c.args.bucket.now
    c.take_root-right.new.self c.enqueue.new.self c.put_root.new.self
    c.take_root-right.result c.joined-right.result c.requires.ready.2 c.take_root-right.ensures.root c.take_root-right.ensures.left
    c.enqueue.ensures c.put_root.ensures
    c.joined-right.ensures.key c.joined-right.ensures.line c.joined-right.ensures.owes
