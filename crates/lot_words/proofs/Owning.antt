-- Who gets a lock owns it.
use Rattle.std.proofs.Common.{ℕ, sym, subst, get_or-set_same}
use Rattle.atomic_table.proofs.Lists.{set_here}
use Rattle.lot_words.specs.declared.views.Hold.TheVariants.{NotHeld, Held}
use Rattle.lot_words.specs.declared.views.LockPassView.{LockPassView}
use Rattle.lot_words.specs.declared.views.Place.TheVariants.{InSlot}
use Rattle.lot_words.specs.World.{IsHeld}
use Rattle.lot_words.specs.Values.{TellsOf, Owns}
use Rattle.lot_words.specs.Calls.{owning}

module _ {V : Type 0} (p : LockPassView V) (l : ℕ) (x : V) where
  pub owns_owning : TellsOf p l → Owns (owning p l x) l x
  owns_owning tells = record {
    holds = subst IsHeld (sym (get_or-set_same p.holds l Held NotHeld tells.holds)) tt;
    lies = set_here p.places l (InSlot x) tells.places;
    seen = set_here p.seen l x tells.seen;
  }
