-- Meetings to which so many come.
use Rattle.std.specs.Prelude.{◌≡◌, ℕ, ◌+◌, ◌≤◌, ◌<◌, nat_le, Bool, true, false, refl}
use Rattle.std.proofs.Common.{le_refl, le_trans, ◌∙◌}
use Rattle.lot_sync.specs.Lot.{PassView, HasSeen}
use Rattle.gallery.specs.declared.latch.Meeting.{Meeting}

-- no more came than were to come
abbrev pub IsWithin : Meeting → Type 0
IsWithin m = m.came ≤ m.size

abbrev pub AllCame : Meeting → Type 0
AllCame m = m.came ≡ m.size

abbrev pub have_all_come : Meeting → Bool
have_all_come m = nat_le m.size m.came

-- no arrival is forgotten
pub record GoesOn (old new : Meeting) : Type 0 where
  pub size : old.size ≡ new.size
  pub came : old.came ≤ new.came

pub goes_nowhere : (m : Meeting) → GoesOn m m
goes_nowhere m = record { size = refl; came = le_refl m.came }

pub goes_further : (x y z : Meeting) → GoesOn x y → GoesOn y z → GoesOn x z
goes_further x y z a b = record { size = a.size ∙ b.size; came = le_trans a.came b.came }

-- one more came; or all had come, and nothing changed
abbrev pub Arrives : Meeting → Bool → Meeting → Type 0
Arrives old true new = (new.size ≡ old.size) × (old.came < old.size) × (new.came ≡ old.came + 1)
Arrives old false new = AllCame old × (new ≡ old)

-- the pass has seen a meeting to which all came, of which this holds
abbrev pub SawAll : PassView Meeting → ℕ → (Meeting → Type 0) → Type 0
SawAll pass round Holds = (m : Meeting) × HasSeen pass round m × AllCame m × Holds m
