-- What a pass did last.
use Rattle.std.proofs.Common.{◌≡◌, Bool, true, false, List, [], ◌∷◌, ◌++◌, ap, sym, subst, ◌∙◌, append_assoc}
use Rattle.lot_seeking.specs.declared.seeking.Seeking.{Seeking}
use Rattle.lot_seeking.specs.declared.seeking.Seeking.TheVariants.{Waits, Parks}
use Rattle.lot_seeking.specs.Seeking.{LinedUp}
use Rattle.lot_rights.specs.declared.views.Access.{Access}
use Rattle.lot_scheme.specs.Standing.{LotStanding, EndsWith}

-- some accesses, and then one more
pub ends_with : {V : Type 0} (such : Access → Type 0) (before mid now : LotStanding V) (front : List Access) (last : Access) → such last
    → mid.did ≡ before.did ++ front → now.did ≡ mid.did ++ last ∷ [] → EndsWith such before now
ends_with such before mid now front last was some one = record {
  front = front;
  last = last;
  was = was;
  is = one ∙ (ap (λ (did : List Access). did ++ last ∷ []) some ∙ append_assoc before.did front (last ∷ []));
}

-- whoever marked its word may park, whatever was seen before; and whoever found another word goes on
pub parks_marked : (changed marked : Type 0) (far : Seeking) (is_marked : Bool) → far ≡ Parks → marked
    → LinedUp far is_marked changed marked
parks_marked changed marked far is_marked is did = subst (λ (s : Seeking). LinedUp s is_marked changed marked) (sym is) (parks is_marked)
  where
    parks : (b : Bool) → LinedUp Parks b changed marked
    parks true = tt
    parks false = did

pub waits_changed : (changed marked : Type 0) (far : Seeking) (is_marked : Bool) → far ≡ Waits → changed
    → LinedUp far is_marked changed marked
waits_changed changed marked far is_marked is found =
    subst (λ (s : Seeking). LinedUp s is_marked changed marked) (sym is) found
