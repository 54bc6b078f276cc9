-- Forks at a round table, and how often each philosopher ate with them.
use Rattle.std.specs.Prelude.{◌≡◌, ℕ, ◌+◌, ◌%◌, ◌^◌, ◌<◌, nat_lt, if◌then◌else◌, List, length, slice_index}
use mathlib.Core.Option.{some}
use lib.ListN.{get_elem?}
use Rattle.lot_sync.specs.Lot.{LotView, PassView, OwnsNone}
use Rattle.gallery.specs.Parts.{OthersKeep}
use Rattle.gallery.specs.declared.dinner.Fork.{Fork}
use Rattle.gallery.specs.declared.dinner.TheConstants.{SEATS}

-- the lower and the higher of the two forks beside a seat: those of its own number and of the next, which after the
-- last seat is 0
abbrev pub low_of : ℕ → ℕ
low_of seat = if nat_lt (seat + 1) SEATS then seat else 0

abbrev pub high_of : ℕ → ℕ
high_of seat = if nat_lt (seat + 1) SEATS then seat + 1 else seat

-- how often the thread ate with the fork
abbrev pub meals_of : ℕ → Fork → ℕ
meals_of thread fork = slice_index fork.meals thread

abbrev pub HasPlaces : Fork → Type 0
HasPlaces fork = length fork.meals ≡ SEATS

-- one meal more of the thread, modulo 2^64, and none of another's
pub record OneMore (thread : ℕ) (before after : Fork) : Type 0 where
  pub places : HasPlaces after
  pub mine : meals_of thread after ≡ (meals_of thread before + 1) % 2 ^ 64
  pub others : OthersKeep meals_of thread before after

-- of these forks both beside the thread's seat count equally many meals of it
abbrev pub AteWithBoth : ℕ → List Fork → Type 0
AteWithBoth seat forks = (u v : Fork) → get_elem? forks (low_of seat) ≡ some u → get_elem? forks (high_of seat) ≡ some v
    → meals_of seat u ≡ meals_of seat v

-- which is so of each thread
abbrev pub AllAteWithBoth : List Fork → Type 0
AllAteWithBoth forks = (seat : ℕ) → seat < SEATS → AteWithBoth seat forks

-- a philosopher's pass between two meals, and the lot of the forks
pub record IsAtTable (lot : LotView) (pass : PassView Fork) : Type 0 where
  pub forks : lot.locks ≡ SEATS
  pub seat : pass.thread < SEATS
  pub free : OwnsNone pass
  pub even : AteWithBoth pass.thread pass.seen
