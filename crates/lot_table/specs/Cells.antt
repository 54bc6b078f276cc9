-- Where a version stands among those of its table: the first, and then one in each cell that is set.
use Rattle.std.specs.Prelude.{◌≡◌, ℕ, ◌-◌, ◌<◌, ◌≤◌, List, length, slice_get, Option, Some, None}
use Rattle.std.specs.declared.sync.OnceToken.{OnceToken}
use Rattle.std.specs.Sync.OnceLock.{Named}
use Rattle.lot_table.specs.Tables.{Extent}

module _ (first : Extent) (cells : List Named) where
  -- version 0 is the first; any other is what the cell before its number has, as a token shows
  abbrev pub StandsAt : ℕ → Extent → Option (OnceToken Extent) → Type 0
  StandsAt number version None = (number ≡ 0) × (version ≡ first)
  StandsAt number version (Some token) =
      (0 < number) × ((cell : Named) × (slice_get cells (number - 1) ≡ Some cell) × (token.of ≡ cell.id)) × (token.value ≡ version)

  -- the cell of the version after this one, where there can be one
  abbrev pub IsNext : ℕ → Option Named → Type 0
  IsNext number None = length cells ≤ number
  IsNext number (Some cell) = slice_get cells number ≡ Some cell

  -- a version of the table, and the next one's cell, which was seen unset
  pub record IsNewest (version : Extent) (token : Option (OnceToken Extent)) (unset : Option Named) : Type 0 where
    pub number : ℕ
    pub stands : StandsAt number version token
    pub next : IsNext number unset
