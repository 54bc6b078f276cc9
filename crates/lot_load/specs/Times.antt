-- What is counted of times, by class.
use Rattle.std.specs.Prelude.{◌≡◌, ◌+◌, ◌-◌, ◌*◌, ◌/◌, ◌<◌, ◌≤◌, ℕ, min, max, sum, take, slice_set, slice_index}
use Rattle.lot_load.specs.declared.measure.times.Times.{Times}
use Rattle.lot_load.specs.declared.measure.times.TheConstants.{CLASSES}
use Rattle.lot_load.specs.Buffers.{most}
use Rattle.lot_load.specs.Classes.{IsClassOf, IsLeastOf}

-- so many more are counted in the class, and of all, up to the greatest number
pub record CountsIn (old : Times) (class more : ℕ) (new : Times) : Type 0 where
  pub counts : new.counts.items ≡ slice_set old.counts.items class (slice_index old.counts.items class + min more (most - old.all))
  pub all : new.all ≡ min (old.all + more) most
  pub longest : new.most ≡ old.most

-- a time is counted so often, in its class
pub record CountsMore (old : Times) (nanos more : ℕ) (new : Times) : Type 0 where
  pub class : ℕ
  pub is_class : IsClassOf nanos class
  pub counts : new.counts.items ≡ slice_set old.counts.items class (slice_index old.counts.items class + min more (most - old.all))
  pub all : new.all ≡ min (old.all + more) most
  pub longest : new.most ≡ max old.most nanos

-- how many of all are so many of a thousand, and one at least
abbrev pub share_of : ℕ → ℕ → ℕ
share_of all of_thousand = max (min (all * of_thousand) most / 1000) 1

-- the class in which the one lies that is so many of a thousand from the shortest on, and the least time of that class
pub record IsPart (times : Times) (of_thousand nanos : ℕ) : Type 0 where
  pub class : ℕ
  pub near : class < CLASSES
  pub is_least : IsLeastOf class nanos
  pub fewer : sum (take class times.counts.items) < share_of times.all of_thousand
  pub enough : share_of times.all of_thousand ≤ sum (take (class + 1) times.counts.items)
