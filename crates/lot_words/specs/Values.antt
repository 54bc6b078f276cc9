-- Values under the caller's rule.
use Rattle.std.specs.Prelude.{◌≡◌, ◌≢◌, ℕ, ◌<◌, List, length, Option, Some, None}
use mathlib.Core.Option.{some, none}
use mathlib.Core.Option as maybe
use lib.ListN.{get_elem?}
use Rattle.lot_words.specs.declared.views.LockPassView.{LockPassView}
use Rattle.lot_words.specs.declared.views.Place.{Place}
use Rattle.lot_words.specs.declared.views.Place.TheVariants.{InSlot, Out, Moving}
use Rattle.lot_words.specs.CallersRule.{CallersRule}
use Rattle.lot_words.specs.World.{Holds}

module _ {V : Type 0} where
  -- what a slot holds, by its place
  abbrev pub in_slot : Place V → Option V
  in_slot (InSlot x) = Some x
  in_slot Out = None
  in_slot Moving = None

  abbrev pub place_of : Option V → Place V
  place_of (Some x) = InSlot x
  place_of None = Out

  -- what is at home in the slot, by what the owner knows; nothing is while the value moves
  abbrev pub home_of : Place V → maybe.Option (Option V)
  home_of (InSlot x) = some (Some x)
  home_of Out = some None
  home_of Moving = none

  -- what lies in the slot is known to lie there
  abbrev pub IsAtHome : Place V → Type 0
  IsAtHome (InSlot x) = Unit {0}
  IsAtHome Out = Unit {0}
  IsAtHome Moving = ⊥

  -- ---- what a pass knows of values
  -- the value y lies in the slot of l
  abbrev pub IsIn : LockPassView V → ℕ → V → Type 0
  IsIn p l y = get_elem? p.places l ≡ some (InSlot y)

  -- the pass has the value of l out
  abbrev pub IsOut : LockPassView V → ℕ → Type 0
  IsOut p l = get_elem? p.places l ≡ some Out

  -- x is the value of l that the pass found when it last got l, or left when it last let l go
  abbrev pub HasSeen : LockPassView V → ℕ → V → Type 0
  HasSeen p l x = get_elem? p.seen l ≡ some x

  -- the pass tells of the lock l: whether it holds it, where the value is, and what it has seen
  pub record TellsOf (p : LockPassView V) (l : ℕ) : Type 0 where
    pub holds : l < length p.holds
    pub places : l < length p.places
    pub seen : l < length p.seen

  -- it holds l, whose value x lies in its slot, and has seen that value
  pub record Owns (p : LockPassView V) (l : ℕ) (x : V) : Type 0 where
    pub holds : Holds p l
    pub lies : IsIn p l x
    pub seen : HasSeen p l x

module _ {V Part : Type 0} (rule : CallersRule V Part) where
  -- a thread that found the first value in the lock may leave the second: it keeps the rule, has grown, and has each
  -- other thread's part
  pub record MayBecome (key thread : ℕ) (found left : V) : Type 0 where
    pub kept : rule.keeps key left
    pub grown : rule.grows found left
    pub others : (t : ℕ) → t ≢ thread → rule.part t found ≡ rule.part t left

  abbrev pub MayLie : ℕ → ℕ → V → Place V → Type 0
  MayLie l t x (InSlot y) = MayBecome l t x y
  MayLie l t x Out = Unit {0}
  MayLie l t x Moving = Unit {0}

  -- the value x that t finds in l, of which its pass tells: it keeps the rule, has grown from what t had seen of it,
  -- and has t's part of that
  pub record FoundOk (l t : ℕ) (p : LockPassView V) (x : V) : Type 0 where
    pub tells : TellsOf p l
    pub kept : rule.keeps l x
    pub grown : (s : V) → HasSeen p l s → rule.grows s x
    pub mine : (s : V) → HasSeen p l s → rule.part t s ≡ rule.part t x

  -- t has l, and found the value x when it got it; the slots hold what it knows
  pub record OwnerOk (homes : List (maybe.Option (Option V))) (l t : ℕ) (p : LockPassView V) (x : V) : Type 0 where
    pub place : Place V
    pub place_is : get_elem? p.places l ≡ some place
    pub home : get_elem? homes l ≡ some (home_of place)
    pub found : HasSeen p l x
    pub lawful : MayLie l t x place

  -- what t has seen of l, whose value is x
  pub record SeenOk (l t : ℕ) (p : LockPassView V) (x : V) : Type 0 where
    pub seen : V
    pub seen_is : HasSeen p l seen
    pub grown : rule.grows seen x
    pub mine : (¬ Holds p l) → rule.part t seen ≡ rule.part t x

  -- the lock l, whose value is x: what its owner found, or else what lies in its slot. Some thread has seen it
  pub record ValueOk (n : ℕ) (pass : ℕ → LockPassView V) (homes : List (maybe.Option (Option V))) (l : ℕ) (x : V) : Type 0 where
    pub kept : rule.keeps l x
    pub idle : ((t : ℕ) → ¬ Holds (pass t) l) → get_elem? homes l ≡ some (some (Some x))
    pub owned : (t : ℕ) → Holds (pass t) l → OwnerOk homes l t (pass t) x
    pub seen : (t : ℕ) → t < n → SeenOk l t (pass t) x
    pub witness : (t : ℕ) × ((t < n) × HasSeen (pass t) l x)

  -- the values of m locks, among n threads
  pub record IsLawful (n m : ℕ) (pass : ℕ → LockPassView V) (homes : List (maybe.Option (Option V))) : Type 0 where
    pub value : ℕ → V
    pub deep : length homes ≡ m
    pub each : (l : ℕ) → l < m → ValueOk n pass homes l (value l)
    pub wide : (t : ℕ) → t < n → (length (pass t).places ≡ m) × (length (pass t).seen ≡ m)
