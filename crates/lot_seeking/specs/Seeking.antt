-- What is so of a thread that seeks something, of how its pass stood before, how far it is, and how its pass stands
-- now.
use Rattle.std.specs.Prelude.{◌≡◌, ℕ, ◌⊎◌, ◌++◌, Bool, true, false, List, []}
use Rattle.std.specs.List.{All}
use Rattle.lot_seeking.specs.declared.seeking.Seeking.{Seeking}
use Rattle.lot_seeking.specs.declared.seeking.Seeking.TheVariants.{Got, Waits, Parks}

-- it has not got it yet
abbrev pub IsUnfinished : Seeking → Type 0
IsUnfinished Got = ⊥
IsUnfinished Waits = Unit {0}
IsUnfinished Parks = Unit {0}

-- What a thread did that lined up, by how far it is then. It goes on awake only where the word had changed under it,
-- and parks only where the word was seen marked, or it marked it.
abbrev pub LinedUp : Seeking → Bool → (changed marked : Type 0) → Type 0
LinedUp Got is_marked changed marked = Unit {0}
LinedUp Waits is_marked changed marked = changed
LinedUp Parks true changed marked = Unit {0}
LinedUp Parks false changed marked = marked

-- it is one thread; it may always look again; and it goes on from where it is as from where it began
pub record SeekingLaws {P : Type 0} (thread : P → ℕ) (seeks : P → ℕ → Seeking → P → Type 0) : Type 0 where
  pub same : (before now : P) (key : ℕ) (far : Seeking) → seeks before key far now → thread now ≡ thread before
  pub waits : (before now : P) (key : ℕ) (far : Seeking) → IsUnfinished far → seeks before key far now → seeks before key Waits now
  pub itself : (before now : P) (key : ℕ) (far : Seeking) → IsUnfinished far → seeks before key far now → seeks now key far now
  pub on : (before now after : P) (key : ℕ) (far next : Seeking) → IsUnfinished far → seeks before key far now → seeks now key next after
      → seeks before key next after

-- ---- who seeks, where each access of a pass is added to those that it made
-- it may seek, has got nothing by these accesses, and stands so after them
pub record IsOnItsWay {A : Type 0} (allowed : Type 0) (is_seek : A → Type 0) (stands : List A → Type 0) : Type 0 where
  pub may : allowed
  pub did : List A
  pub sought : All is_seek did
  pub is : stands did

-- who the pass's thread is; how the pass stands after accesses more, and where it wants what lies under a key; when it
-- may; and which accesses of which thread get nothing
module _ {P A : Type 0} (thread : P → ℕ) (adding : P → List A → P) (wants : P → ℕ → P) (allowed : P → ℕ → Type 0)
    (is_seek : ℕ → ℕ → A → Type 0) where
  -- it is in no line, and stands as before, or wants it by now
  abbrev pub IsAwake : P → ℕ → P → Type 0
  IsAwake before key now = IsOnItsWay (allowed before key) (is_seek (thread before) key)
      (λ did. (now ≡ adding before did) ⊎ (now ≡ adding (wants before key) did))

  -- it is in no line, and wants it
  abbrev pub IsWanting : P → ℕ → P → Type 0
  IsWanting before key now = IsOnItsWay (allowed before key) (is_seek (thread before) key) (λ did. now ≡ adding (wants before key) did)

  -- and how it stands that has got it
  module _ (gets : P → ℕ → P → Type 0) where
    -- by how far it is
    abbrev pub SeeksSo : P → ℕ → Seeking → P → Type 0
    SeeksSo before key Got now = gets before key now
    SeeksSo before key Waits now = IsAwake before key now
    SeeksSo before key Parks now = IsWanting before key now

    -- Accesses add up and change nothing else. Who wants it wants the same and may seek it still; and who has got it from
    -- there, or after accesses that got nothing, has got it.
    pub record AddingLaws : Type 0 where
      pub none : (p : P) → adding p [] ≡ p
      pub both : (p : P) (xs ys : List A) → adding (adding p xs) ys ≡ adding p (xs ++ ys)
      pub same : (p : P) (xs : List A) → thread (adding p xs) ≡ thread p
      pub wants_same : (p : P) (key : ℕ) → thread (wants p key) ≡ thread p
      pub wants_once : (p : P) (key : ℕ) → wants (wants p key) key ≡ wants p key
      pub wants_added : (p : P) (key : ℕ) (xs : List A) → wants (adding p xs) key ≡ adding (wants p key) xs
      pub may_added : (p : P) (key : ℕ) (xs : List A) → allowed p key → allowed (adding p xs) key
      pub may_again : (p : P) (key : ℕ) → allowed p key → allowed (wants p key) key
      pub got_same : (p q : P) (key : ℕ) → gets p key q → thread q ≡ thread p
      pub got_after : (p q : P) (key : ℕ) (xs : List A) → All (is_seek (thread p) key) xs → gets (adding p xs) key q → gets p key q
      pub got_wanting : (p q : P) (key : ℕ) → gets (wants p key) key q → gets p key q
