-- What the words of a table stand for, as far as kinds of tables have it in common: of each thread its pass and where
-- its notice is, of each key what its word says and its root.
use Rattle.std.specs.Prelude.{◌≡◌, ℕ, ◌+◌, ◌<◌, ◌≤◌, ◌&&◌, nat_le, nat_lt, if◌then◌else◌, Bool, List, length, slice_index, Option, Some}
use Rattle.std.specs.Prelude.{None}
use Rattle.lot_rights.specs.Layout.{word_at, letter_at, word_count}

-- Where a thread's notice is: it waits for none, it is in the line of a key, the key's root owes it a letter with a
-- token, or that letter lies
pub data Spot : Type 0 where
  awake : Spot
  queued : ℕ → Spot
  owed : ℕ → ℕ → Spot
  lying : ℕ → ℕ → Spot

-- P is what a pass knows, R what a root knows, and W what a word says
pub record World (P R W : Type 0) : Type 0 where
  pub pass : ℕ → P
  pub spot : ℕ → Spot
  pub word : ℕ → W
  pub root : ℕ → R

-- the number in a thread's letter: 0 for none, else its token and 1
abbrev pub letter_of : Spot → ℕ
letter_of awake = 0
letter_of (queued c) = 0
letter_of (owed c token) = 0
letter_of (lying c token) = token + 1

abbrev pub letters_of : (ℕ → Spot) → (ℕ → ℕ)
letters_of spot = λ t. letter_of (spot t)

-- the letter of t is owed or lies, with the token
abbrev pub IsLetter : Spot → ℕ → ℕ → Type 0
IsLetter awake c token = ⊥
IsLetter (queued d) c token = ⊥
IsLetter (owed d k) c token = (d ≡ c) × (k ≡ token)
IsLetter (lying d k) c token = (d ≡ c) × (k ≡ token)

-- the key on which a thread waits whose notice is there
abbrev pub waits_on : Spot → Option ℕ
waits_on awake = None
waits_on (queued c) = Some c
waits_on (owed c token) = Some c
waits_on (lying c token) = Some c

-- how many threads there are, the number of the first key, and how many keys
pub record Sizes : Type 0 where
  pub threads : ℕ
  pub first : ℕ
  pub keys : ℕ

-- c is the number of a key
abbrev pub IsKeyOf : Sizes → ℕ → Type 0
IsKeyOf z c = (z.first ≤ c) × (c < z.first + z.keys)

abbrev pub is_key_of : Sizes → ℕ → Bool
is_key_of z c = nat_le z.first c && nat_lt c (z.first + z.keys)

-- 1 where there is one, else 0
abbrev pub number_of : {A : Type 0} → Option A → ℕ
number_of None = 0
number_of (Some x) = 1

-- how many letters the root of the key c owes, where `owes` says it of each root
abbrev pub owed_at : {R : Type 0} → Sizes → (R → ℕ) → (ℕ → R) → ℕ → ℕ
owed_at z owes root c = if is_key_of z c then owes (root c) else 0

-- each key's word and each thread's letter is the number that the world says
pub record WordsFit {P R W : Type 0} (number_in : W → ℕ) (z : Sizes) (w : World P R W) (ws : List ℕ) : Type 0 where
  pub wide : length ws ≡ word_count z.threads (z.first + z.keys)
  pub words : (c : ℕ) → IsKeyOf z c → slice_index ws (word_at c) ≡ number_in (w.word c)
  pub letters : (t : ℕ) → t < z.threads → slice_index ws (letter_at t) ≡ letter_of (w.spot t)

module _ {P R W : Type 0} (z : Sizes) (w : World P R W) where
  -- the pass of the thread t is p, the root of the key c is q
  abbrev pub PassIs : ℕ → P → Type 0
  PassIs t p = (t < z.threads) × (w.pass t ≡ p)

  abbrev pub RootIs : ℕ → R → Type 0
  RootIs c q = IsKeyOf z c × (w.root c ≡ q)
