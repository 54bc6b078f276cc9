-- A value leaves its slot, and comes back. What two passes tell of each other.
use Rattle.std.proofs.Common.{◌≡◌, ℕ, zero, suc, ◌<◌, List, [], ◌∷◌, set, refl, sym, ap, subst, ◌∙◌, set-set, Option, Some, None}
use mathlib.Core.Option as maybe
use mathlib.Core.Option.{some, none, some-injective, some-ne-none}
use lib.ListN.{get_elem?}
use Rattle.lot_core.specs.Model.{put}
use Rattle.lot_core.proofs.Put.{put_same, put_other}
use Rattle.lot_rights.specs.Shown.{PassShown}
use Rattle.lot_rights.specs.World.{letters_of}
use Rattle.lot_rights.specs.Slots.{SlotTurn, AllowsOut, AllowsBack}
use Rattle.lot_rights.specs.Steps.{TellsOfTwo}
use Rattle.lot_words.specs.declared.views.LockPassView.{LockPassView}
use Rattle.lot_words.specs.declared.views.Place.{Place}
use Rattle.lot_words.specs.declared.views.Place.TheVariants.{InSlot, Out, Moving}
use Rattle.lot_words.specs.declared.views.Size.{Size}
use Rattle.lot_words.specs.CallersRule.{CallersRule}
use Rattle.lot_words.specs.World.{LockWorld, Holds}
use Rattle.lot_words.specs.Values.{in_slot, place_of, home_of, IsAtHome, HasSeen, MayLie, IsLawful}
use Rattle.lot_words.specs.Rule.{Fits, meaning}
use Rattle.lot_words.specs.Calls.{placing}
use Rattle.lot_words.proofs.Machine.{lock_stays, each_thread}
use Rattle.lot_words.proofs.Rows.{same_pass}
use Rattle.lot_words.proofs.Valuing.{owns_value, moves_value}

at_home : {V : Type 0} (pl : Place V) → IsAtHome pl → home_of pl ≡ some (in_slot pl)
at_home (InSlot x) h = refl
at_home Out h = refl
at_home Moving h = absurd h

placed_home : {V : Type 0} (y : Option V) → home_of (place_of y) ≡ some y
placed_home (Some x) = refl
placed_home None = refl

pub same_some : {V : Type 0} (x y : V) → Some x ≡ Some y → x ≡ y
same_some x y e = cc

set_at : {A : Type 0} (xs : List A) (i : ℕ) (a b : A) → get_elem? xs i ≡ some a → get_elem? (set xs i b) i ≡ some b
set_at [] i a b e = absurd (some-ne-none a (sym e))
set_at (x ∷ xs) zero a b e = refl
set_at (x ∷ xs) (suc i) a b e = set_at xs i a b e

-- the value is where it was placed
pub placed_at : {V : Type 0} (p : LockPassView V) (l : ℕ) (old new : Place V) → get_elem? p.places l ≡ some old
    → get_elem? (placing p l new).places l ≡ some new
placed_at p l old new e = set_at p.places l old new e

pub placed_twice : {V : Type 0} (p : LockPassView V) (l : ℕ) (a b : Place V) → placing (placing p l a) l b ≡ placing p l b
placed_twice p l a b = λ i. record p { places = set-set p.places l a b i }

-- what the exchange tells while the value is out
abbrev pub Leaves : {V : Type 0} → PassShown (LockPassView V) → ℕ → LockPassView V → Option V → Type 0
Leaves {V} p l own y = (own ≡ placing p.own l Moving) × ((pl : Place V) → get_elem? p.own.places l ≡ some pl → y ≡ in_slot pl)

module _ {V Part : Type 0} (rule : CallersRule V Part) (size : Size) (xs : List V) where
  module _ (t l : ℕ) (here : l < size.locks) (own : LockPassView V) (holds : Holds own l) (w : LockWorld V) (ws : List ℕ)
      (hs : List (maybe.Option (Option V)))
      (ok : Fits rule size w ws hs) (fit : (t < size.threads) × (w.pass t ≡ own)) where
    has : Holds (w.pass t) l
    has = subst (λ z. Holds z l) (sym fit.1) holds

    -- no other thread has it
    only : (u : ℕ) → Holds (w.pass u) l → u ≡ t
    only u h = let same : Some u ≡ Some t = sym ((ok.kept.threads u).holds l h) ∙ (ok.kept.threads t).holds l has in cc

    -- the value is at the place pl
    moves : (pl : Place V) → MayLie rule l t (ok.lawful.value l) pl → (homes : List (maybe.Option (Option V)))
        → homes ≡ set hs l (home_of pl)
        → SlotTurn (meaning rule size xs) t (placing own l pl) w ws homes
    moves pl may homes is = record {
      world = record w { pass = put w.pass t (placing (w.pass t) l pl) };
      fits = record {
        words = record { wide = ok.words.wide; words = ok.words.words; letters = ok.words.letters };
        kept = record {
          threads = each_thread size.threads size.locks w w.word w.root w.spot t (placing (w.pass t) l pl)
              (let a = ok.kept.threads t in record {
                long = a.long;
                aims = a.aims;
                holds = a.holds;
                found = a.found;
                spot = a.spot;
                in_line = a.in_line;
                is_owed = a.is_owed;
                handed = a.handed;
              }) (λ v _. ok.kept.threads v);
          locks =
              λ k. lock_stays size.threads k (w.word k) (w.root k) w.pass w.spot t (placing (w.pass t) l pl) w.spot (ok.kept.locks k)
              (λ h. h) (λ v h. h) (λ _ a. a) (λ _ v _ h. h);
        };
        lawful = subst (IsLawful rule size.threads size.locks (put w.pass t (placing (w.pass t) l pl))) (sym is)
            (moves_value rule size.threads size.locks w.pass hs ok.lawful t fit.0 l here has only pl may);
      };
      pass = (fit.0, put_same w.pass t (placing (w.pass t) l pl) ∙ ap (λ z. placing z l pl) fit.1);
      passes = λ u y ne h. (h.0, put_other w.pass t (placing (w.pass t) l pl) u ne ∙ h.1);
      roots = λ d y h. h;
      same = λ i. record { part = same_pass w t (placing (w.pass t) l pl) refl i; letters = letters_of w.spot };
      owed = λ c. refl;
    }

  module _ (p : PassShown (LockPassView V)) (l : ℕ) (here : l < size.locks) (holds : Holds p.own l) where
    pub leaves : (pl : Place V) → get_elem? p.own.places l ≡ some pl → IsAtHome pl → AllowsOut (meaning rule size xs) l p (Leaves p l)
    leaves pl there home w ws hs ok fit =
        let x : V = ok.lawful.value l in
        let o =
        owns_value rule size.threads size.locks w.pass hs ok.lawful p.thread fit.0 l here
        (has p.thread l here p.own holds w ws hs ok fit) in
        let is : o.place ≡ pl =
        some-injective o.place pl (sym o.place_is ∙ subst (λ z. get_elem? z.places l ≡ some pl) (sym fit.1) there) in
        record {
          value = in_slot pl;
          own = placing p.own l Moving;
          there = o.home ∙ ap (λ z. some (home_of z)) is ∙ ap some (at_home pl home);
          turn = moves p.thread l here p.own holds w ws hs ok fit Moving tt (set hs l none) refl;
          told = (refl, (λ z at. ap in_slot (some-injective pl z (sym there ∙ at))));
        }

    pub comes_back : (y : Option V) → ((x : V) → HasSeen p.own l x → MayLie rule l p.thread x (place_of y))
        → (own : LockPassView V) (z : Option V) → Leaves p l own z
        → AllowsBack (meaning rule size xs) l p.thread own y (λ q. q ≡ placing own l (place_of y))
    comes_back y may own z out w ws hs ok fit =
        let is : own ≡ placing p.own l Moving = out.0 in
        let holds' : Holds own l = subst (λ v. Holds v l) (sym is) holds in
        let o =
        owns_value rule size.threads size.locks w.pass hs ok.lawful p.thread fit.0 l here (has p.thread l here own holds' w ws hs ok fit) in
        let seen : HasSeen p.own l (ok.lawful.value l) = subst (λ v. HasSeen v l (ok.lawful.value l)) (fit.1 ∙ is) o.found in
        record {
          own = placing own l (place_of y);
          turn =
              moves p.thread l here own holds' w ws hs ok fit (place_of y) (may (ok.lawful.value l) seen) (set hs l (some y))
              (ap (set hs l) (sym (placed_home y)));
          told = refl;
        }

  -- two passes hold no lock both
  pub apart : (p q : PassShown (LockPassView V)) → TellsOfTwo (meaning rule size xs) p q ((l : ℕ) → Holds p.own l → ¬ Holds q.own l)
  apart p q w ws hs ok fit fits ne l a b =
      let x : (w.word l).owner ≡ Some p.thread = (ok.kept.threads p.thread).holds l (subst (λ z. Holds z l) (sym fit.1) a) in
      let y : (w.word l).owner ≡ Some q.thread = (ok.kept.threads q.thread).holds l (subst (λ z. Holds z l) (sym fits.1) b) in
      ne (let same : Some p.thread ≡ Some q.thread = sym x ∙ y in cc)
