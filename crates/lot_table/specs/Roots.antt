-- The roots that a table is given at the start, and gives back at the end.
use Rattle.std.specs.Prelude.{◌≡◌, ℕ, List, [], ◌++◌, length, slice_get, Some}
use Rattle.lot_bucket.specs.KeyLine.{KeyLine}
use Rattle.lot_bucket.specs.Agrees.{IsRootOf}

module _ {R : Type 0} (view : R → KeyLine) where
  -- root i is that of key i, on which nobody waits, and owes nothing
  abbrev pub AreIdle : List R → Type 0
  AreIdle roots = (i : ℕ) (root : R) → slice_get roots i ≡ Some root → IsRootOf view i [] root

  -- after comes each key's root once, in key order
  pub record Appends (keys : ℕ) (before after : List R) : Type 0 where
    pub roots : List R
    pub appended : after ≡ before ++ roots
    pub each : length roots ≡ keys
    pub named : (i : ℕ) (root : R) → slice_get roots i ≡ Some root → (view root).key ≡ i
    pub paid : (i : ℕ) (root : R) → slice_get roots i ≡ Some root → (view root).owes ≡ []
