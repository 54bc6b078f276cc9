-- Cases on a bit.
use Rattle.std.proofs.Common.{◌≡◌, Bool, true, false, refl}

-- what holds of a bit where it is set, and where it is clear, holds of it
pub by_bit : (Q : Bool → Type 0) (b : Bool) → (b ≡ true → Q true) → (b ≡ false → Q false) → Q b
by_bit Q true set clear = set refl
by_bit Q false set clear = clear refl
