-- What `close` asks for and tells.
use Rattle.std.specs.Prelude.{◌≡◌, ℕ, ◌+◌, false, List, [], length, slice_index, sum_by, None}
use Rattle.std.specs.List.{All}
use Rattle.lot_events.specs.declared.events.Point.TheVariants.{Calm}
use Rattle.lot_core.specs.Model.{StateView}
use Rattle.lot_core.specs.Rows.{row_from}
use Rattle.lot_rights.specs.Closing.{IsRecounted}
use Rattle.lot_rights.specs.History.{events_in, tokens_of, no_letters}
use Rattle.lot_rights.specs.Shown.{PassShown, RootShown}
use Rattle.lot_words.specs.World.{Holds}
use Rattle.lot_whole.specs.declared.views.LotPassView.{LotPassView}
use Rattle.lot_whole.specs.declared.views.LotRootView.{LotRootView}
use Rattle.lot_whole.specs.declared.views.LotRootView.TheVariants.{Lock, Cond, Sem}
use Rattle.lot_whole.specs.Family.{LotSize}
use Rattle.lot_whole.specs.Whole.{WholeStep, word_in, waiting_in, IsQueued, opening_of}
use Rattle.lot_whole.specs.Headline.{IsOneRun}
use Rattle.lot_whole.specs.Lot.{line_of_root, owed_by}
use Rattle.lot_whole.specs.Order.{queued_in}
use Rattle.lot_whole.specs.Standing.{IsIdle}

-- the pass holds no lock, and waits on no condition
abbrev pub HasDone : {V : Type 0} → PassShown (LotPassView V) → Type 0
HasDone p = ((l : ℕ) → ¬ Holds p.own.locks l) × (p.own.conds.out ≡ None)

module _ {V : Type 0} where
  -- the ledger of c: how many sleepers these passes took from its line, and how many of their waits on it found their
  -- letter
  abbrev pub called_in : List (PassShown (LotPassView V)) → ℕ → ℕ
  called_in passes c = sum_by (λ (p : PassShown (LotPassView V)). slice_index p.own.conds.called c) passes

  abbrev pub woken_in : List (PassShown (LotPassView V)) → ℕ → ℕ
  woken_in passes c = sum_by (λ (p : PassShown (LotPassView V)). slice_index p.own.conds.woken c) passes

  -- how many permits of k are out with these passes
  abbrev pub out_with : List (PassShown (LotPassView V)) → ℕ → ℕ
  out_with passes k = sum_by (λ (p : PassShown (LotPassView V)). slice_index p.own.sems.out k) passes

-- how many permits k has at the opening
abbrev pub permits_of : LotSize → ℕ → ℕ
permits_of z = row_from 0 (z.locks + z.conds) z.permits

-- the line that a key's root tells is the one of the state
abbrev pub LineIs : StateView → ℕ → LotRootView → Type 0
LineIs s l (Lock q) = s.locks.line l ≡ q.line
LineIs s c (Cond q) = s.conds.line c ≡ q.line
LineIs s k (Sem q) = s.sems.line k ≡ q.line

-- nobody has a lock, waits, or is about to: all threads are calm, no lock is held, and all lines are empty
pub record IsQuiet (s : StateView) : Type 0 where
  pub calm : (t : ℕ) → s.point t ≡ Calm
  pub unheld : (l : ℕ) → s.locks.held l ≡ false
  pub lock_lines : (l : ℕ) → s.locks.line l ≡ []
  pub cond_lines : (c : ℕ) → s.conds.line c ≡ []
  pub sem_lines : (k : ℕ) → s.sems.line k ≡ []

-- One history was made with these rights, and each shows its own entries of it, in their order. Without its notices it
-- is one run of the whole model, from the opening to a sound state, which has the lines that the roots tell; as many
-- threads were queued at a key as were told that they were taken from its line, are owed that, or are there still; and
-- the permits that the state has left and those that are out with the passes are together all that there were. Where
-- all passes stand idle, the state is quiet
pub record IsToldTo {V : Type 0} (z : LotSize) (passes : List (PassShown (LotPassView V)))
    (roots : List (RootShown LotRootView)) : Type 0 where
  pub recounted : IsRecounted WholeStep (word_in z) (waiting_in z) IsQueued (no_letters (opening_of z)) passes roots
  pub run : IsOneRun z (events_in recounted.log) recounted.part
  pub lines : All (λ (q : RootShown LotRootView). LineIs recounted.part q.key q.own) roots
  pub queued : All (λ (q : RootShown LotRootView). queued_in q.key recounted.log
      ≡ length (tokens_of q.key recounted.log) + owed_by q.own + length (line_of_root q.own)) roots
  pub permits : (k : ℕ) → recounted.part.sems.left k + out_with passes k ≡ permits_of z k
  pub quiet : All (λ (p : PassShown (LotPassView V)). IsIdle p.own) passes → IsQuiet recounted.part
