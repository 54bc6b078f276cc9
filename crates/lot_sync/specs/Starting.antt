-- What a lot starts with: passes that have done nothing yet.
use Rattle.std.specs.Prelude.{◌≡◌, ℕ, ◌+◌, ◌<◌, List, [], replicate, slice_index}
use Rattle.lot_rights.specs.Shown.{PassShown}
use Rattle.lot_words.specs.Rested.{Rested}
use Rattle.lot_whole.specs.declared.views.LotPassView.{LotPassView}
use Rattle.lot_scheme.specs.Standing.{standing}
use Rattle.lot_sync.specs.Lot.{PassView, LotNames, OwnsNone, rested}
use Rattle.lot_sync.specs.Passes.{pass_view_shown, IsAtRest}

-- a pass when its lot starts: it owns no lock and holds no permit, has seen the opening values, and has done nothing
pub record Starts {V : Type 0} (opening : List V) (threads : ℕ) (p : PassView V) : Type 0 where
  pub is_thread : p.thread < threads
  pub free : OwnsNone p
  pub saw : p.seen ≡ opening
  pub called_none : (key : ℕ) → slice_index p.called key ≡ 0
  pub woken_none : (key : ℕ) → slice_index p.woken key ≡ 0
  pub made_none : p.made ≡ []

-- each pass that starts keeps what passes that are in keep
abbrev pub MayStart : {V : Type 0} → (Rested V → Type 0) → LotNames V → Type 0
MayStart {V} rests opened = (p : PassView V) → Starts opened.values opened.threads p → rests (rested p)

-- a pass of the lot that is at rest, holds nothing, has seen the opening values, and was used for nothing yet
pub record IsNewPass {V : Type 0} (grows : V → V → Type 0) (names : LotNames V) (p : PassShown (LotPassView V)) : Type 0 where
  pub is_of : p.table ≡ names.opening.locks
  pub rest : IsAtRest grows names (standing p)
  pub starts : Starts names.values names.threads (pass_view_shown p)
  pub none_called : p.own.conds.called ≡ replicate (names.locks + names.conds) 0
  pub none_woken : p.own.conds.woken ≡ replicate (names.locks + names.conds) 0
