-- What a table of lock words promises: at every moment all of this holds, of one world. Each lock has one owner at
-- most, sleepers are marked, someone is trying, each notice is in one place, the values are lawful, and one legal
-- history has led here.
use Rattle.std.specs.Prelude.{◌≡◌, ◌≢◌, ◌↔◌, ℕ, ◌<◌, ◌⊎◌, true, false, List, [], Option, Some}
use Rattle.std.specs.List.{Contains}
use Rattle.atomic_table.specs.Table.{State}
use Rattle.lot_core.specs.Sound.{OneOwner, SleepersAreMarked, IsOnce}
use Rattle.lot_rights.specs.declared.views.Right.{Right}
use Rattle.lot_rights.specs.Settled.{OneHistory}
use Rattle.lot_rights.specs.World.{awake, queued, owed, waits_on, IsLetter, WordsFit}
use Rattle.lot_words.specs.declared.views.LockPassView.{LockPassView}
use Rattle.lot_words.specs.declared.views.LockRootView.{LockRootView}
use Rattle.lot_words.specs.declared.views.Size.{Size}
use Rattle.lot_words.specs.CallersRule.{CallersRule}
use Rattle.lot_words.specs.World.{LockWorld, word_of, Holds, HoldsParked, IsHanded, TellsTrue}
use Rattle.lot_words.specs.Values.{IsLawful}
use Rattle.lot_words.specs.Rule.{sizes_of, part_of, meaning}

module _ {V : Type 0} (w : LockWorld V) where
  -- Letters fit: a thread that was queued and has not collected is in the line of the lock that it wants, or is owed a
  -- letter by that root alone, or a letter lies for it; the others have none. A letter tells the truth
  pub record LettersFit : Type 0 where
    pub asleep : (t : ℕ) → ((w.pass t).asleep ≡ true) ↔ (w.spot t ≢ awake)
    pub aims : (t l : ℕ) → waits_on (w.spot t) ≡ Some l → (w.pass t).aim ≡ Some l
    pub lines : (t l : ℕ) → Contains (w.root l).line t ↔ (w.spot t ≡ queued l)
    pub owes : (t l token : ℕ) → ((w.root l).owes ≡ Some (t, token)) ↔ (w.spot t ≡ owed l token)
    pub tells : (t l token : ℕ) → IsLetter (w.spot t) l token → TellsTrue (w.word l).owner t token
    -- one line each, and once
    pub once_in_line : (l : ℕ) → IsOnce (w.root l).line

  -- of n threads
  pub record IsSound (n : ℕ) : Type 0 where
    pub one_owner : OneOwner (part_of w).locks.held (part_of w).locks.has
    -- a thread that has a lock, or wants one: its pass says so, unless the lock was handed to it and it has not
    -- collected
    pub has_is : (l t : ℕ) → ((part_of w).locks.has l t ≡ true) ↔ (Holds (w.pass t) l ⊎ IsHanded (w.spot t) l)
    pub wants_is : (l t : ℕ) → ((part_of w).wants t ≡ Some l) ↔ (((w.pass t).aim ≡ Some l) × ¬ IsHanded (w.spot t) l)
    pub sleepers_are_marked : SleepersAreMarked (part_of w).locks.line (part_of w).locks.parked
    -- who is in a line is a thread
    pub are_threads : (l t : ℕ) → Contains ((part_of w).locks.line l) t → t < n
    pub someone_is_trying : (l : ℕ) → (part_of w).locks.held l ≡ false → (part_of w).locks.line l ≢ []
        → (t : ℕ) × ((t < n) × ((part_of w).wants t ≡ Some l) × ¬ Contains (w.root l).line t)
    pub found_parked : (l t : ℕ) → HoldsParked (w.pass t) l → (part_of w).locks.parked l ≡ true

pub record Headline {V Part : Type 0} (rule : CallersRule V Part) (size : Size) (xs : List V)
    (s : State (Option V) (List (Right (LockPassView V) LockRootView))) : Type 0 where
  pub world : LockWorld V
  -- each word is a lock's two bits or a thread's letter
  pub words : WordsFit word_of (sizes_of size) world s.words
  pub letters : LettersFit world
  pub sound : IsSound world size.threads
  -- the values are lawful: those that owners have, and those in the slots where nobody holds the lock
  pub lawful : IsLawful rule size.threads size.locks world.pass s.homes
  pub run : OneHistory (meaning rule size xs) s world
