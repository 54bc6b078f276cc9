-- One visit of a lock, or of two: they were got, work was done on their values, and they were let go.
use Rattle.std.specs.Prelude.{◌≡◌, ◌≢◌, ℕ, ◌<◌, List, length, map, slice_set, slice_index_or}
use Rattle.lot_words.specs.CallersRule.{CallersRule}
use Rattle.lot_words.specs.Values.{MayBecome}
use Rattle.lot_sync.specs.Lot.{PassView, ◌≈◌, HasSeen, owning, letting_go}

module _ {V Part : Type 0} (rule : CallersRule V Part) where
  -- the pass's own part of each value, as it has seen them
  abbrev pub own_parts : PassView V → List Part
  own_parts p = map (rule.part p.thread) p.seen

  -- the lock was got with a value that keeps the rule, goes on from all that the pass had seen and has its own part
  -- unchanged; it was let go with the value that was left, which the pass has seen now; what it owns is as before. Of
  -- its own parts only that of this value changed
  pub record Visits (before : PassView V) (key : ℕ) (found left : V) (after : PassView V) : Type 0 where
    pub kept : rule.keeps key found
    pub grown : (u : V) → HasSeen before key u → rule.grows u found
    pub mine : (u : V) → HasSeen before key u → rule.part before.thread u ≡ rule.part before.thread found
    pub may : MayBecome rule key before.thread found left
    pub after_is : after ≈ letting_go (owning before key found) key left
    pub same_owns : after.owns ≡ before.owns
    pub seen : HasSeen after key left
    pub own_near : key < length (own_parts before)
    pub own_was : (d : Part) → slice_index_or (own_parts before) key d ≡ rule.part before.thread found
    pub own_is : own_parts after ≡ slice_set (own_parts before) key (rule.part before.thread left)

  -- a value that was found keeps the rule, goes on from all that the pass had seen of it, and has the pass's own part
  -- unchanged
  pub record Finds (before : PassView V) (key : ℕ) (found : V) : Type 0 where
    pub kept : rule.keeps key found
    pub grown : (u : V) → HasSeen before key u → rule.grows u found
    pub mine : (u : V) → HasSeen before key u → rule.part before.thread u ≡ rule.part before.thread found
    pub own_near : key < length (own_parts before)
    pub own_was : (d : Part) → slice_index_or (own_parts before) key d ≡ rule.part before.thread found

  -- two locks were got with the first two values, and let go with the other two, which the pass has seen now; all else
  -- of it is as before, and of its own parts only those of these values changed
  pub record VisitsBoth (before : PassView V) (first second : ℕ) (v w x y : V) (after : PassView V) : Type 0 where
    pub finds_first : Finds before first v
    pub finds_second : Finds before second w
    pub may_first : MayBecome rule first before.thread v x
    pub may_second : MayBecome rule second before.thread w y
    pub after_is : after ≈ record before { seen = slice_set (slice_set before.seen first x) second y }
    pub seen_first : HasSeen after first x
    pub seen_second : HasSeen after second y
    pub own_is : own_parts after ≡ slice_set (slice_set (own_parts before) first (rule.part before.thread x)) second
        (rule.part before.thread y)
