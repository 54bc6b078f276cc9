-- What a region found in its lock and left there.
use Rattle.std.specs.Prelude.{◌≡◌, ℕ, ◌<◌, ◌≤◌, ◌^◌, slice_set}
use Rattle.lot_words.specs.CallersRule.{CallersRule}
use Rattle.lot_sync.specs.Lot.{LotView, PassView, ◌≈◌, HasSeen, IsCond, owning}
use Rattle.lot_words.specs.Values.{MayBecome}
use Rattle.lot_calls.specs.Visits.{own_parts, Finds}

-- all numbers from `first` on and below `behind` are conditions of the lot
abbrev pub AreConds : LotView → ℕ → ℕ → Type 0
AreConds lot first behind = (first ≤ behind) × (behind < 2 ^ 64) × ((c : ℕ) → first ≤ c → c < behind → IsCond lot c)

module _ {V Part : Type 0} (rule : CallersRule V Part) where
  -- The lock was got with the first value and left with the second, which it may become and which the pass has seen
  -- now. Of its own parts only that of this value changed; and all else of the pass is as before, but for what it
  -- counted and did.
  pub record Region (before : PassView V) (key : ℕ) (found left : V) (after : PassView V) : Type 0 where
    pub finds : Finds rule before key found
    pub may : MayBecome rule key before.thread found left
    pub after_is : after ≈ record before { seen = slice_set before.seen key left; called = after.called; woken = after.woken }
    pub seen : HasSeen after key left
    pub own_is : own_parts rule after ≡ slice_set (own_parts rule before) key (rule.part before.thread left)

  -- the lock was got, after some waits or none, with this value
  pub record HasGot (before : PassView V) (key : ℕ) (found : V) (after : PassView V) : Type 0 where
    pub finds : Finds rule before key found
    pub after_is : after ≈ record (owning before key found) { woken = after.woken }
