-- What is known under a bucket's lock while a key's root is out, and after it is back.
use Rattle.std.proofs.Common.{◌≡◌, ◌≢◌, ℕ, zero, suc, ◌<◌, ◌≤◌, true, false, not, ◌&&◌, cond, Bool, List, [], ◌∷◌, ◌++◌, length, drop, min}
use Rattle.std.proofs.Common.{Option, Some, None, refl, sym, ◌∙◌, ap, subst, arith}
use Rattle.std.specs.Prelude.{nat_lt, is_some, ◌==◌, take, if◌then◌else◌}
use Rattle.std.proofs.lemmas.Bool.{ltb-true, lt-ltb}
use Rattle.std.proofs.lemmas.List.{drop_all}
use Rattle.std.proofs.Math.Dec.{eqb-suc-zero}
use Rattle.lot_bucket.specs.Queue.{line_of, without_count, without_first, first_of}
use Rattle.lot_bucket.specs.Places.{has_key, root_at, with_root}
use Rattle.lot_bucket.specs.Contents.{Contents}
use Rattle.lot_bucket.specs.KeyLine.{KeyLine}
use Rattle.lot_bucket.specs.Agrees.{IsRootOf}
use Rattle.lot_bucket.specs.Settled.{Stays}
use Rattle.lot_bucket.specs.Taking.{TakesOne, TakesFirst, fair_after}
use Rattle.lot_bucket.specs.declared.taking.Moment.{Moment}
use Rattle.lot_bucket.specs.declared.taking.Dequeued.{Dequeued}
use Rattle.lot_bucket.proofs.Laws.{line_of-push_same, line_of-push_other, line_of-without_count_same, line_of-without_count_other}
use Rattle.lot_bucket.proofs.Laws.{has_key-with, root_at-with_same, with_root-with, root_taken, agrees_again}
use Rattle.lot_park.specs.Parking.{IsOpenFor, Tells, TellsCount}

empty_of : (xs : List (ℕ × ℕ)) → not (length xs == 0) ≡ false → xs ≡ []
empty_of [] e = refl
empty_of (x ∷ xs) e = absurd (let f = rw (eqb-suc-zero (length xs)) at e in let f' : true ≡ false = f in cc)

-- what an unparking tells, where nobody of the line is left if the queue is empty
tells_of : (line : List ℕ) (left : List (ℕ × ℕ)) (next now : ℕ) (told : Dequeued) → told.thread ≡ first_of line
    → told.more ≡ (is_some (first_of line) && not (length left == 0)) → told.fair ≡ (is_some (first_of line) && nat_lt next now)
    → (left ≡ [] → drop 1 line ≡ []) → Tells line now told
tells_of [] left next now told thread more fair last =
    record {
      thread = thread;
      alone = λ some m. refl;
      more = λ m. absurd (let e : true ≡ false = sym m ∙ more in cc);
      fair = λ f. absurd (let e : true ≡ false = sym f ∙ fair in cc);
    }
tells_of (t ∷ line) left next now told thread more fair last =
    record {
      thread = thread;
      alone = λ some m. last (empty_of left (sym more ∙ m));
      more = λ m. rw thread refl;
      fair = λ f. (rw thread refl, (let past : next < now = ltb-true next now (sym fair ∙ f) in omega arith));
    }

pub tells : {R : Type 0} (view : R → KeyLine) (k : ℕ) (moment : Moment) (before taken after : Contents R) (root : R) (told : Dequeued)
    → (view root).line ≡ line_of k before.queue → taken.queue ≡ before.queue → TakesOne k moment taken after told
    → Tells (view root).line moment.now told
tells view k moment before taken after root told same out takes =
    let own : (view root).line ≡ line_of k taken.queue = same ∙ ap (λ q. line_of k q) (sym out) in
    let left : after.queue ≡ without_first k taken.queue = ap (λ (c : Contents _). c.queue) takes.left in
    rw own (tells_of (line_of k taken.queue) after.queue taken.next_fair moment.now told takes.thread takes.more takes.fair
    (λ e. sym (line_of-without_count_same 1 k taken.queue) ∙ ap (λ q. line_of k q) (sym left ∙ e)))

-- what an unparking of at most n tells, where nobody of the line is left if the queue is empty
tells_first : (threads n : ℕ) (line : List ℕ) (left : List (ℕ × ℕ)) (taken : ℕ) (more : Bool) → length line ≤ threads
    → taken ≡ min n (length line)
    → more ≡ (nat_lt 0 taken && not (length left == 0)) → (left ≡ [] → drop n line ≡ []) → TellsCount threads n line taken more
tells_first threads n line left zero more short number others last =
    record {
      number = number;
      alone = λ some m. drop_all n line (omega (arith, number));
      others = λ m. absurd (let e : true ≡ false = sym m ∙ others in cc);
      short = short;
    }
tells_first threads n line left (suc taken) more short number others last =
    record {
      number = number;
      alone = λ some m. last (empty_of left (rw (lt-ltb 0 (suc taken) (omega arith)) at (sym others ∙ m)));
      others = λ m. omega arith;
      short = short;
    }

pub tells_count : {R : Type 0} (k n threads : ℕ) (before out after : Contents R) (threads_out : List ℕ) (taken : ℕ) (more : Bool)
    → out.queue ≡ before.queue → length (line_of k before.queue) ≤ threads → TakesFirst n k out after threads_out taken more
    → TellsCount threads n (line_of k before.queue) taken more
tells_count k n threads before out after threads_out taken more same short takes =
    let left : after.queue ≡ without_count n k out.queue = ap (λ (c : Contents _). c.queue) takes.left in
    rw (sym same) (tells_first threads n (line_of k out.queue) after.queue taken more (rw same short) takes.number takes.others
    (λ e. sym (line_of-without_count_same n k out.queue) ∙ ap (λ q. line_of k q) (sym left ∙ e)))

-- A thread was taken while the root was out, and the root is back: that was taken from the bucket as it was.
pub took_one : {R : Type 0} (k : ℕ) (moment : Moment) (before out taken after : Contents R) (places : List (ℕ × Option R))
    (told : Dequeued) → out ≡ record before { places = with_root k None before.places } → TakesOne k moment out taken told
    → after ≡ record taken { places = places } → TakesOne k moment before (record after { places = before.places }) told
took_one {R} k moment before out taken after places told took takes put =
    record {
      thread = takes.thread ∙ ap (λ q. first_of (line_of k q)) queue;
      more =
          takes.more ∙ ap (λ q. is_some (first_of (line_of k q)) && not (length taken.queue == 0)) queue
          ∙ ap (λ (q : List (ℕ × ℕ)). is_some (first_of (line_of k before.queue)) && not (length q == 0)) rest;
      fair =
          takes.fair ∙ ap (λ q. is_some (first_of (line_of k q)) && nat_lt out.next_fair moment.now) queue
          ∙ ap (λ (c : Contents R). is_some (first_of (line_of k before.queue)) && nat_lt c.next_fair moment.now) took;
      left =
          ap (λ (c : Contents R). record c { places = before.places }) put
          ∙ ap (λ (c : Contents R). record c { places = before.places }) takes.left
          ∙ ap (λ (c : Contents R). record c {
            places = before.places;
            queue = without_first k c.queue;
            next_fair = (if told.fair then fair_after moment else c.next_fair);
          }) took;
    }
  where
    queue : out.queue ≡ before.queue
    queue = ap (λ (c : Contents R). c.queue) took

    rest : taken.queue ≡ after.queue
    rest = sym (ap (λ (c : Contents R). c.queue) put)

-- the same where at most n were taken, and the bucket was left so
pub took_count : {R : Type 0} (k n : ℕ) (before taken after : Contents R) (places out : List (ℕ × Option R)) (threads : List ℕ) (count : ℕ)
    (more : Bool) → threads ≡ take n (line_of k before.queue) → count ≡ min n (length (line_of k before.queue))
    → more ≡ (nat_lt 0 count && not (length taken.queue == 0))
    → taken ≡ record before { places = out; queue = without_count n k before.queue } → after ≡ record taken { places = places }
    → TakesFirst n k before (record after { places = before.places }) threads count more
took_count {R} k n before taken after places out threads count more line number others left put =
    record {
      threads = line;
      number = number;
      others =
          others ∙ ap (λ (q : List (ℕ × ℕ)). nat_lt 0 count && not (length q == 0)) (sym (ap (λ (c : Contents R). c.queue) put));
      left =
          ap (λ (c : Contents R). record c { places = before.places }) put
          ∙ ap (λ (c : Contents R). record c { places = before.places }) left;
    }

-- the queue after a parking
abbrev pub joined : Bool → ℕ → ℕ → List (ℕ × ℕ) → List (ℕ × ℕ)
joined queued t k queue = cond queued (queue ++ (t, k) ∷ []) queue

pub line_of-joined_other : (j k t : ℕ) (queued : Bool) (queue : List (ℕ × ℕ)) → k ≢ j
    → line_of j (joined queued t k queue) ≡ line_of j queue
line_of-joined_other j k t true queue other = line_of-push_other j k t queue other
line_of-joined_other j k t false queue other = refl

module _ {R : Type 0} (view : R → KeyLine) where
  -- the root that a validation gave back
  pub root_joined : (k t : ℕ) (queued : Bool) (queue : List (ℕ × ℕ)) (root after : R) → IsRootOf view k queue root
      → (view after).key ≡ k → (view after).owes ≡ []
      → (queued ≡ true → (view after).line ≡ (view root).line ++ t ∷ []) → (queued ≡ false → after ≡ root)
      → IsRootOf view k (joined queued t k queue) after
  root_joined k t true queue root after own named paid longer same =
      record {
        named = named;
        same_line = longer refl ∙ ap (λ xs. xs ++ t ∷ []) own.same_line
            ∙ sym (line_of-push_same k t queue);
        paid = paid;
      }
  root_joined k t false queue root after own named paid longer same =
      record { named = named; same_line = ap (λ r. (view r).line) (same refl) ∙ own.same_line; paid = paid }

  -- the root that an unparking of the first n leaves
  pub root_shorter : (k n : ℕ) (queue : List (ℕ × ℕ)) (root after : R) → IsRootOf view k queue root → (view after).key ≡ k
      → (view after).line ≡ drop n (view root).line → (view after).owes ≡ []
      → IsRootOf view k (without_count n k queue) after
  root_shorter k n queue root after own named shorter paid =
      record {
        named = named;
        same_line = shorter ∙ ap (λ xs. drop n xs) own.same_line
            ∙ sym (line_of-without_count_same n k queue);
        paid = paid;
      }

  -- the root that was taken out
  pub own_root : (k : ℕ) (b : Contents R) (root : R) → IsOpenFor view k b → root_at k b.places ≡ Some root → IsRootOf view k b.queue root
  own_root k b root ready at = root_taken view b k root ready.agrees ready.is_open ready.has at

  -- with the root back, the bucket stays what it was
  stays_again : (before after : Contents R) (k : ℕ) (root : R) → IsOpenFor view k before
      → after.opened ≡ before.opened → after.room ≡ before.room → after.places ≡ with_root k (Some root) (with_root k None before.places)
      → ((j : ℕ) → k ≢ j → line_of j after.queue ≡ line_of j before.queue) → IsRootOf view k after.queue root → Stays view before after
  stays_again before after k root ready opened room places lines own =
      record {
        agrees = agrees_again view before after k root ready.agrees ready.is_open ready.has (opened ∙ ready.is_open) places lines own;
        is_open = opened ∙ ready.is_open;
        keys = λ j. ap (λ ps. has_key j ps) places ∙ has_key-with j k (Some root) (with_root k None before.places)
            ∙ has_key-with j k None before.places;
        room = room;
      }

  -- after a parking: the root was out, the thread was queued or not, the root is back
  pub parked_stays : (k t : ℕ) (before out queued after : Contents R) (root back : R) (joins : Bool) → IsOpenFor view k before
      → root_at k before.places ≡ Some root
      → out ≡ record before { places = with_root k None before.places }
      → queued ≡ record out { queue = joined joins t k out.queue }
      → after ≡ record queued { places = with_root k (Some back) queued.places }
      → (view back).key ≡ k → (view back).owes ≡ [] → (joins ≡ true → (view back).line ≡ (view root).line ++ t ∷ [])
      → (joins ≡ false → back ≡ root) → Stays view before after
  parked_stays k t before out queued after root back joins ready at took queues put named paid longer same =
      stays_again before after k back ready
      (ap (λ (c : Contents R). c.opened) put ∙ ap (λ (c : Contents R). c.opened) queues ∙ ap (λ (c : Contents R). c.opened) took)
      (ap (λ (c : Contents R). c.room) put ∙ ap (λ (c : Contents R). c.room) queues ∙ ap (λ (c : Contents R). c.room) took)
      (ap (λ (c : Contents R). c.places) put
      ∙ ap (λ ps. with_root k (Some back) ps) (ap (λ (c : Contents R). c.places) queues ∙ ap (λ (c : Contents R). c.places) took))
      (λ j other. ap (λ q. line_of j q) queue ∙ line_of-joined_other j k t joins before.queue other)
      (subst (λ (q : List (ℕ × ℕ)). IsRootOf view k q back) (sym queue)
      (root_joined k t joins before.queue root back (own_root k before root ready at) named paid longer same))
    where
      queue : after.queue ≡ joined joins t k before.queue
      queue =
          ap (λ (c : Contents R). c.queue) put ∙ ap (λ (c : Contents R). c.queue) queues
          ∙ ap (λ q. joined joins t k q) (ap (λ (c : Contents R). c.queue) took)

  -- after an unparking: the root was out, the first n were taken, the root is back
  pub unparked_stays : (k n : ℕ) (before taken after : Contents R) (root back : R) → IsOpenFor view k before
      → root_at k before.places ≡ Some root
      → taken.opened ≡ before.opened → taken.room ≡ before.room → taken.places ≡ with_root k None before.places
      → taken.queue ≡ without_count n k before.queue
      → after ≡ record taken { places = with_root k (Some back) taken.places }
      → (view back).key ≡ k → (view back).line ≡ drop n (view root).line → (view back).owes ≡ [] → Stays view before after
  unparked_stays k n before taken after root back ready at opened room places left put named shorter paid =
      stays_again before after k back ready
      (ap (λ (c : Contents R). c.opened) put ∙ opened)
      (ap (λ (c : Contents R). c.room) put ∙ room)
      (ap (λ (c : Contents R). c.places) put ∙ ap (λ ps. with_root k (Some back) ps) places)
      (λ j other. ap (λ q. line_of j q) queue ∙ line_of-without_count_other j n k before.queue other)
      (subst (λ (q : List (ℕ × ℕ)). IsRootOf view k q back) (sym queue)
      (root_shorter k n before.queue root back (own_root k before root ready at) named shorter paid))
    where
      queue : after.queue ≡ without_count n k before.queue
      queue = ap (λ (c : Contents R). c.queue) put ∙ left

  -- the same where one was taken at a moment
  pub one_unparked_stays : (k : ℕ) (moment : Moment) (before out taken after : Contents R) (root back : R) (told : Dequeued)
      → IsOpenFor view k before → root_at k before.places ≡ Some root
      → out ≡ record before { places = with_root k None before.places } → TakesOne k moment out taken told
      → after ≡ record taken { places = with_root k (Some back) taken.places }
      → (view back).key ≡ k → (view back).line ≡ drop 1 (view root).line → (view back).owes ≡ [] → Stays view before after
  one_unparked_stays k moment before out taken after root back told ready at took takes =
      unparked_stays k 1 before taken after root back ready at
      (ap (λ (c : Contents R). c.opened) takes.left ∙ ap (λ (c : Contents R). c.opened) took)
      (ap (λ (c : Contents R). c.room) takes.left ∙ ap (λ (c : Contents R). c.room) took)
      (ap (λ (c : Contents R). c.places) takes.left ∙ ap (λ (c : Contents R). c.places) took)
      (ap (λ (c : Contents R). c.queue) takes.left ∙ ap (λ q. without_first k q) (ap (λ (c : Contents R). c.queue) took))

-- the key's place is there, and empty, while its root is out
pub place_has : {R : Type 0} (k : ℕ) (places out : List (ℕ × Option R)) → has_key k places ≡ true
    → out ≡ with_root k None places → has_key k out ≡ true
place_has k places out has same = ap (λ ps. has_key k ps) same ∙ has_key-with k k None places ∙ has

pub place_empty : {R : Type 0} (k : ℕ) (places out : List (ℕ × Option R)) → has_key k places ≡ true
    → out ≡ with_root k None places → root_at k out ≡ None
place_empty k places out has same = ap (λ ps. root_at k ps) same ∙ root_at-with_same k None places has

-- A thread was queued or not while the root was out, and the root that came back was put in.
pub parked_leaves : {R : Type 0} (k t : ℕ) (before out queued after : Contents R) (back : R) (joins : Bool)
    → out ≡ record before { places = with_root k None before.places }
    → queued ≡ record out { queue = joined joins t k out.queue }
    → after ≡ record queued { places = with_root k (Some back) queued.places }
    → after ≡ record before { places = with_root k (Some back) before.places; queue = joined joins t k before.queue }
parked_leaves {R} k t before out queued after back joins took queues put =
    put ∙ ap (λ (c : Contents R). record c { places = with_root k (Some back) c.places }) queues
    ∙ ap (λ (c : Contents R). record c { places = with_root k (Some back) c.places; queue = joined joins t k c.queue }) took
    ∙ ap (λ ps. record before { places = ps; queue = joined joins t k before.queue }) (with_root-with k (Some back) None before.places)
