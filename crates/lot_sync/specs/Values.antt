-- What is said of values: what an owner finds in a lock, and may give back.
use Rattle.std.specs.Prelude.{◌≡◌, ◌≢◌, ℕ, List, Some, slice_get}
use Rattle.std.specs.List.{Any}
use Rattle.lot_words.specs.CallersRule.{CallersRule}
use Rattle.lot_sync.specs.Lot.{PassView, HeldView, ◌≈◌, Owns, HasSeen, owning, letting_go, one_wait_more}

module _ {V Part : Type 0} (rule : CallersRule V Part) where
  -- the lock was got: its value keeps the rule, goes on from all that the pass had seen of it, and has the pass's own
  -- part unchanged; it is seen now, and all else of the pass is as before
  pub record Gets (before : PassView V) (key : ℕ) (held : HeldView V) (after : PassView V) : Type 0 where
    pub key_is : held.key ≡ key
    pub kept : rule.keeps key held.value
    pub grown : (u : V) → HasSeen before key u → rule.grows u held.value
    pub mine : (u : V) → HasSeen before key u → rule.part before.thread u ≡ rule.part before.thread held.value
    pub after_is : after ≈ owning before key held.value
    pub owns : Owns after key
    pub seen : HasSeen after key held.value

  -- a wait on the condition: the lock was let go with the value that was held, one wait more has ended, and the lock
  -- was got again, with the value that lay there then
  abbrev pub WaitsAndGets : PassView V → HeldView V → ℕ → HeldView V → PassView V → Type 0
  WaitsAndGets before held cond found after = Gets (one_wait_more (letting_go before held.key held.value) cond) held.key found after

  -- the value may be given back: it keeps the rule, has grown from the value found, and has the same part for every
  -- other thread
  pub record MayGiveBack (pass : PassView V) (held : HeldView V) : Type 0 where
    pub kept : rule.keeps held.key held.value
    pub grown : (u : V) → HasSeen pass held.key u → rule.grows u held.value
    pub others : (u : V) (t : ℕ) → HasSeen pass held.key u → t ≢ pass.thread → rule.part t u ≡ rule.part t held.value

  -- of each lock the pass knows that the value in the list keeps the rule, goes on from what it had seen, and has its
  -- own part unchanged
  pub record GoesOnTo (values : List V) (p : PassView V) : Type 0 where
    pub kept : (key : ℕ) (v : V) → slice_get values key ≡ Some v → rule.keeps key v
    pub grown : (key : ℕ) (u v : V) → slice_get values key ≡ Some v → HasSeen p key u → rule.grows u v
    pub mine : (key : ℕ) (u v : V) → slice_get values key ≡ Some v → HasSeen p key u → rule.part p.thread u ≡ rule.part p.thread v

  -- the value goes on from what the pass has seen of the key's, and has the pass's own part of it, unless the pass owns
  -- the lock
  pub record GoesOnFrom (pass : PassView V) (key : ℕ) (value : V) : Type 0 where
    pub grown : (u : V) → HasSeen pass key u → rule.grows u value
    pub mine : (¬ Owns pass key) → (u : V) → HasSeen pass key u → rule.part pass.thread u ≡ rule.part pass.thread value

  -- what two passes both know of the key's value: there is one that keeps the rule, and goes on from what each has seen
  pub record KnowBoth (key : ℕ) (one other : PassView V) : Type 0 where
    pub value : V
    pub kept : rule.keeps key value
    pub from_one : GoesOnFrom one key value
    pub from_other : GoesOnFrom other key value

-- each value is one that some pass saw last under its lock
abbrev pub AreSeen : {V : Type 0} → List V → List (PassView V) → Type 0
AreSeen {V} values passes = (key : ℕ) (v : V) → slice_get values key ≡ Some v → Any (λ (p : PassView V). HasSeen p key v) passes
