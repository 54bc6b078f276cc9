-- What the words, the passes and the roots of a table of lock words stand for.
use Rattle.std.specs.Prelude.{◌≡◌, ◌≢◌, ℕ, ◌<◌, ◌⊎◌, Bool, true, false, [], length, slice_index_or, Option, Some, None, is_some}
use Rattle.std.specs.List.{Contains}
use Rattle.lot_core.specs.Sound.{IsOnce}
use Rattle.lot_rights.specs.World.{World, Spot, awake, queued, owed, lying, IsLetter}
use Rattle.lot_words.specs.declared.views.Hold.{Hold}
use Rattle.lot_words.specs.declared.views.Hold.TheVariants.{NotHeld, Held, FoundParked}
use Rattle.lot_words.specs.declared.views.LockPassView.{LockPassView}
use Rattle.lot_words.specs.declared.views.LockRootView.{LockRootView}

-- of a lock: its owner, if any, and whether it is parked
pub record LockWord : Type 0 where
  pub owner : Option ℕ
  pub parked : Bool

abbrev pub LockWorld : Type 0 → Type 0
LockWorld V = World (LockPassView V) LockRootView LockWord

-- a word: bit 1 says held, bit 2 parked
abbrev pub bits_of : Bool → Bool → ℕ
bits_of false false = 0
bits_of true false = 1
bits_of false true = 2
bits_of true true = 3

abbrev pub word_of : LockWord → ℕ
word_of x = bits_of (is_some x.owner) x.parked

-- ---- what a pass holds
abbrev pub hold : {V : Type 0} → LockPassView V → ℕ → Hold
hold p l = slice_index_or p.holds l NotHeld

abbrev pub IsHeld : Hold → Type 0
IsHeld NotHeld = ⊥
IsHeld Held = Unit {0}
IsHeld FoundParked = Unit {0}

abbrev pub IsFound : Hold → Type 0
IsFound NotHeld = ⊥
IsFound Held = ⊥
IsFound FoundParked = Unit {0}

-- the pass holds the lock
abbrev pub Holds : {V : Type 0} → LockPassView V → ℕ → Type 0
Holds p l = IsHeld (hold p l)

-- the pass holds the lock, and `free` found it parked
abbrev pub HoldsParked : {V : Type 0} → LockPassView V → ℕ → Type 0
HoldsParked p l = IsFound (hold p l)

-- ---- letters
-- l was handed to the thread, which has not collected its letter: of the letters' tokens, 1 says so
abbrev pub IsHanded : Spot → ℕ → Type 0
IsHanded sp l = IsLetter sp l 1

-- the thread is in no line
abbrev pub IsOutside : Spot → Type 0
IsOutside sp = (l : ℕ) → sp ≢ queued l

-- the token k tells t the truth of the lock with the owner o
abbrev pub TellsTrue : Option ℕ → ℕ → ℕ → Type 0
TellsTrue o t k = (k ≡ 0) ⊎ ((k ≡ 1) × (o ≡ Some t))

module _ {V : Type 0} (n : ℕ) (word : ℕ → LockWord) (root : ℕ → LockRootView) where
  abbrev pub Sleeps : ℕ → LockPassView V → ℕ → Type 0
  Sleeps t p l = (t < n) × (p.asleep ≡ true) × (p.aim ≡ Some l)

  -- letters: a pass that was queued and has not collected is in its lock's line, or has exactly one letter, owed or
  -- lying
  abbrev pub SpotFits : ℕ → LockPassView V → Spot → Type 0
  SpotFits t p awake = p.asleep ≡ false
  SpotFits t p (queued l) = Sleeps t p l × Contains (root l).line t
  SpotFits t p (owed l k) = Sleeps t p l × ((root l).owes ≡ Some (t, k)) × TellsTrue (word l).owner t k
  SpotFits t p (lying l k) = Sleeps t p l × TellsTrue (word l).owner t k

  -- the thread t with the pass p and its notice at sp, among m locks
  pub record ThreadFits (m t : ℕ) (p : LockPassView V) (sp : Spot) : Type 0 where
    pub long : length p.holds ≡ m
    pub aims : (l : ℕ) → p.aim ≡ Some l → l < m
    pub holds : (l : ℕ) → Holds p l → (word l).owner ≡ Some t
    pub found : (l : ℕ) → HoldsParked p l → (word l).parked ≡ true
    pub spot : SpotFits t p sp
    pub in_line : (l : ℕ) → Contains (root l).line t → sp ≡ queued l
    pub is_owed : (l k : ℕ) → (root l).owes ≡ Some (t, k) → sp ≡ owed l k
    pub handed : (l : ℕ) → IsHanded sp l → ¬ Holds p l

-- the lock l with its word x and its root q, among n threads
pub record LockFits {V : Type 0} (n : ℕ) (pass : ℕ → LockPassView V) (spot : ℕ → Spot) (l : ℕ) (x : LockWord)
    (q : LockRootView) : Type 0 where
  pub once : IsOnce q.line
  pub had : (t : ℕ) → x.owner ≡ Some t → (t < n) × (Holds (pass t) l ⊎ IsHanded (spot t) l)
  pub parks : q.line ≢ [] → x.parked ≡ true
  pub tried : x.owner ≡ None → q.line ≢ [] → (t : ℕ) × ((t < n) × ((pass t).aim ≡ Some l) × IsOutside (spot t))

-- the rule of n threads and m locks
pub record Kept {V : Type 0} (n m : ℕ) (w : LockWorld V) : Type 0 where
  pub threads : (t : ℕ) → ThreadFits n w.word w.root m t (w.pass t) (w.spot t)
  pub locks : (l : ℕ) → LockFits n w.pass w.spot l (w.word l) (w.root l)
