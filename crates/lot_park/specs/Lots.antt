use Rattle.std.specs.Prelude.{ℕ}
pub use Rattle.lot_table.specs.Roots.{AreIdle, Appends}

-- what a parking lot is seen as
pub record ParkingView (S : Type 0) : Type 0 where
  pub scheme : S
  -- threads and keys have the numbers below these
  pub threads : ℕ
  pub keys : ℕ
