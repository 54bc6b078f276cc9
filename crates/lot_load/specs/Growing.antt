-- Two counts of a value, of which neither ever falls.
use Rattle.std.specs.Prelude.{◌≤◌, ℕ}
use Rattle.std.proofs.Common.{le_refl, le_trans}

module _ {V : Type 0} (one other : V → ℕ) where
  pub record NeitherFalls (old new : V) : Type 0 where
    pub one_grows : one old ≤ one new
    pub other_grows : other old ≤ other new

  pub neither_falls_itself : (x : V) → NeitherFalls x x
  neither_falls_itself x = record { one_grows = le_refl (one x); other_grows = le_refl (other x) }

  pub neither_falls_on : (x y z : V) → NeitherFalls x y → NeitherFalls y z → NeitherFalls x z
  neither_falls_on x y z a b = record { one_grows = le_trans a.one_grows b.one_grows; other_grows = le_trans a.other_grows b.other_grows }
