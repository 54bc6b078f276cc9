use Rattle.std.specs.Prelude.{◌≡◌, ℕ, ◌+◌, ◌-◌, ◌%◌, ◌^◌, ◌==◌, nat_lt, min, not, ◌&&◌, if◌then◌else◌, Bool, List, length, take, is_some}
use Rattle.lot_bucket.specs.Queue.{line_of, without_count, without_first, first_of}
use Rattle.lot_bucket.specs.Contents.{Contents}
use Rattle.lot_bucket.specs.declared.taking.Moment.{Moment}
use Rattle.lot_bucket.specs.declared.taking.Dequeued.{Dequeued}

-- the moment after which it is time to be fair again: less than a millisecond later, at random
abbrev pub fair_after : Moment → ℕ
fair_after moment = min (moment.now + moment.word % 1000000) (2 ^ 64 - 1)

-- Taking one: of the key's line the first thread leaves the queue, if there is one. More says that
-- somebody was taken and somebody, on whatever key, is left; fair, that somebody was taken after the
-- moment until which barging was the rule.
pub record TakesOne {R : Type 0} (k : ℕ) (moment : Moment) (before after : Contents R) (taken : Dequeued) : Type 0 where
  pub thread : taken.thread ≡ first_of (line_of k before.queue)
  pub more : taken.more ≡ (is_some (first_of (line_of k before.queue)) && not (length after.queue == 0))
  pub fair : taken.fair ≡ (is_some (first_of (line_of k before.queue)) && nat_lt before.next_fair moment.now)
  pub left : after ≡ record before {
    queue = without_first k before.queue;
    next_fair = (if taken.fair then fair_after moment else before.next_fair);
  }

-- Taking several: of the key's line the first n leave the queue, or all where it is shorter. More says that
-- somebody was taken and somebody, on whatever key, is left.
pub record TakesFirst {R : Type 0} (n k : ℕ) (before after : Contents R) (taken : List ℕ) (count : ℕ) (more : Bool) : Type 0 where
  pub threads : taken ≡ take n (line_of k before.queue)
  pub number : count ≡ min n (length (line_of k before.queue))
  pub others : more ≡ (nat_lt 0 count && not (length after.queue == 0))
  pub left : after ≡ record before { queue = without_count n k before.queue }
