-- What a table of semaphore words promises: at every moment all of this holds, of one world. Permits are conserved;
-- sleepers are marked; no permit is left lying; each notice is in one place; and one legal history has led here.
use Rattle.std.specs.Prelude.{◌≡◌, ◌≢◌, ℕ, ◌+◌, ◌<◌, ◌≤◌, ◌⊎◌, List, Some}
use Rattle.std.specs.List.{Contains}
use Rattle.atomic_table.specs.Table.{State}
use Rattle.lot_core.specs.Parts.{PartSeeks}
use Rattle.lot_core.specs.Sound.{PermitsConserved, SeekersAreMarked, PermitsAreSought, IsOnce}
use Rattle.lot_rights.specs.declared.views.Right.{Right}
use Rattle.lot_rights.specs.Settled.{OneHistory}
use Rattle.lot_rights.specs.World.{owed, lying}
use Rattle.lot_sems.specs.declared.views.SemPassView.{SemPassView}
use Rattle.lot_sems.specs.declared.views.SemRootView.{SemRootView}
use Rattle.lot_sems.specs.World.{Numbers, permits_of, SemWorld, SemWordsFit, LettersFit}
use Rattle.lot_sems.specs.Rule.{meaning}

pub record Headline (size : Numbers) (s : State (Unit {0}) (List (Right SemPassView SemRootView))) : Type 0 where
  pub world : SemWorld
  -- each word is a semaphore's permits and bit, or a thread's letter
  pub words : SemWordsFit size world s.words
  -- letters fit, and a thread whose letter is owed or lies is trying
  pub letters : LettersFit size.threads world
  pub trying : (t k token : ℕ) → (world.spot t ≡ owed k token) ⊎ (world.spot t ≡ lying k token) → PartSeeks world.part t k
  -- the permits that are left and those that are out are together the opening number
  pub permits_conserved : PermitsConserved size.threads (permits_of size) world.part.sems
  -- what two threads have together is at most that
  pub apart : (t u k : ℕ) → t ≢ u → t < size.threads → u < size.threads
      → world.part.sems.out k t + world.part.sems.out k u ≤ permits_of size k
  -- a thread in a line means that the semaphore is parked
  pub seekers_are_marked : SeekersAreMarked world.part.sems
  -- where somebody is queued, as many threads at least are trying as permits are left
  pub permits_are_sought : PermitsAreSought size.threads world.part
  -- who is in a line is a thread that seeks a permit there, and is in it once
  pub seeks : (k t : ℕ) → Contains (world.part.sems.line k) t → (t < size.threads) × (world.part.seeks t ≡ Some k)
  pub once : (k : ℕ) → IsOnce (world.part.sems.line k)
  pub run : OneHistory (meaning size) s world
