-- Waits in a row on one condition, with one lock, until its value is as wanted.
use Rattle.std.specs.Prelude.{◌≡◌, ℕ, zero, suc, ◌+◌, true, slice_set, slice_index}
use Rattle.lot_words.specs.CallersRule.{CallersRule}
use Rattle.lot_sync.specs.Lot.{PassView, ◌≈◌, HeldView, HasSeen, owning}
use Rattle.lot_sync.specs.Traces.{Adds}
use Rattle.lot_sync.specs.Values.{MayGiveBack}
use Rattle.lot_calls.specs.Traces.{WaitsTrace}

module _ {V : Type 0} where
  -- so many waits more on the condition have ended
  abbrev pub woken_from : PassView V → ℕ → ℕ → PassView V
  woken_from p cond zero = p
  woken_from p cond (suc n) = record p { woken = slice_set p.woken cond (slice_index p.woken cond + suc n) }

  -- So many waits in a row, each of which began with a value that was not as wanted: with the first value, and then
  -- with what the wait before had ended with, which goes on from that. The last one ended with the last value.
  abbrev pub WaitsWhile : (grows : V → V → Type 0) (unready : V → Type 0) → ℕ → V → V → Type 0
  WaitsWhile grows unready zero first last = last ≡ first
  WaitsWhile grows unready (suc n) first last = (mid : V) × WaitsWhile grows unready n first mid × unready mid × grows mid last

  -- the pass p after so many waits, of which the last ended with this value in the lock
  abbrev pub AfterWaits : PassView V → ℕ → ℕ → V → ℕ → PassView V → Type 0
  AfterWaits p key cond found zero q = q ≈ p
  AfterWaits p key cond found (suc n) q = (q ≈ woken_from (owning p key found) cond (suc n)) × HasSeen q key found

module _ {V Part : Type 0} (rule : CallersRule V Part) where
  -- the pass waited some times, or not at all, and each time only since the value was not as wanted; the lock is owned
  -- as before, with a value that keeps the rule, goes on from what was held and has the pass's own part unchanged;
  -- without a wait it is what was held. It may be given back
  pub record WaitsOn (unready : V → Type 0) (before : PassView V) (held : HeldView V) (cond now : ℕ) (found : HeldView V)
      (after : PassView V) : Type 0 where
    pub count : ℕ
    pub while : WaitsWhile rule.grows unready count held.value found.value
    pub after_is : AfterWaits before held.key cond found.value count after
    pub made : Adds before.made (WaitsTrace before.thread cond held.key now count) after.made
    pub same : count ≡ 0 → found ≡ held
    pub key_is : found.key ≡ held.key
    pub kept : rule.keeps held.key found.value
    pub grown : rule.grows held.value found.value
    pub mine : rule.part before.thread held.value ≡ rule.part before.thread found.value
    pub thread : after.thread ≡ before.thread
    pub same_owns : after.owns ≡ before.owns
    pub same_permits : after.permits ≡ before.permits
    pub back : MayGiveBack rule after found

  -- the lock was got, after some waits or none: its value keeps the rule, goes on from all that the pass had seen of
  -- it, and has the pass's own part unchanged; it is seen now
  pub record GetsAfter (before : PassView V) (key : ℕ) (found : HeldView V) (after : PassView V) : Type 0 where
    pub key_is : found.key ≡ key
    pub kept : rule.keeps key found.value
    pub grown : (u : V) → HasSeen before key u → rule.grows u found.value
    pub mine : (u : V) → HasSeen before key u → rule.part before.thread u ≡ rule.part before.thread found.value
    pub thread : after.thread ≡ before.thread
    pub same_owns : after.owns ≡ slice_set before.owns key true
    pub same_permits : after.permits ≡ before.permits
    pub seen : HasSeen after key found.value
    pub back : MayGiveBack rule after found
