-- A room in which threads read and write: who has a share of it reads, and who has all shares writes.
use Rattle.std.specs.Prelude.{◌≡◌, ℕ, ◌+◌, ◌≤◌, ◌<◌, ◌==◌, if◌then◌else◌, length, sum, slice_index}
use Rattle.lot_sync.specs.Lot.{PassView, OwnsNone, HasSeen}
use Rattle.gallery.specs.Parts.{OthersKeep}
use Rattle.gallery.specs.declared.readers.Room.{Room}
use Rattle.gallery.specs.declared.readers.TheConstants.{THREADS, ALL, ROOM, MAY_READ}

-- how many shares the thread has
abbrev pub share_of : ℕ → Room → ℕ
share_of thread room = slice_index room.shares thread

-- no more shares are taken than there are
pub record IsFair (room : Room) : Type 0 where
  pub places : length room.shares ≡ THREADS
  pub taken : room.taken ≡ sum room.shares
  pub within : room.taken ≤ ALL

-- the thread took so many shares more
pub record Takes (thread shares : ℕ) (before after : Room) : Type 0 where
  pub fair : IsFair after
  pub own : share_of thread after ≡ share_of thread before + shares
  pub others : OthersKeep share_of thread before after

-- the thread gave all its shares back
pub record GivesBack (thread : ℕ) (before after : Room) : Type 0 where
  pub fair : IsFair after
  pub own : share_of thread after ≡ 0
  pub others : OthersKeep share_of thread before after

-- whoever waits on the condition may go on where fewer shares than so many are taken
abbrev pub limit_of : ℕ → ℕ
limit_of cond = if cond == MAY_READ then ALL else 1

-- as it has seen the room last, the pass's thread has a share of it
abbrev pub Reads : PassView Room → Type 0
Reads pass = (room : Room) × HasSeen pass ROOM room × (0 < share_of pass.thread room)

-- or all shares
abbrev pub Writes : PassView Room → Type 0
Writes pass = (room : Room) × HasSeen pass ROOM room × (share_of pass.thread room ≡ ALL)

-- a pass between two calls
pub record IsGuest (pass : PassView Room) : Type 0 where
  pub is_thread : pass.thread < THREADS
  pub free : OwnsNone pass
