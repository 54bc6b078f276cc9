-- A value leaves its slot, and another comes back: the rule is kept.
use Rattle.std.proofs.Common.{◌≡◌, ℕ, ◌+◌, List, [], ◌∷◌, length, set, slice_index, refl, sym, ap, subst, ◌∙◌, arith}
use Rattle.std.proofs.lemmas.List.{set-get_or}
use mathlib.Core.Option.{Option, some, none}
use lib.ListN.{get_elem?}
use Rattle.atomic_table.specs.Table.{State, Me, Allows, takes, gives, rest}
use Rattle.lot_rights.specs.declared.views.PassRight.{PassRight}
use Rattle.lot_rights.specs.declared.views.Right.{Right}
use Rattle.lot_rights.specs.declared.views.Right.TheVariants.{Pass, Root}
use Rattle.lot_rights.specs.Seating.{times}
use Rattle.lot_rights.specs.History.{tokens_of}
use Rattle.lot_rights.specs.Rule.{number, made_with, Meaning, RightFits, LeadsOn, Ruled}
use Rattle.lot_rights.specs.Shown.{PassShown, right_of_pass, the_pass}
use Rattle.lot_rights.specs.Slots.{SlotTurn, AllowsOut, AllowsBack, ToldOut, ToldBack}
use Rattle.lot_rights.proofs.Seats.{reseats, times_set}
use Rattle.lot_rights.proofs.Histories.{records_stay}
use Rattle.lot_rights.proofs.Stepping.{not_mine}

abbrev pub knowing : {P : Type 0} → PassRight P → P → PassRight P
knowing p own = record p { own = own }

module _ {S P R : Type 0} (k : Meaning S P R) where
  moves : (s : State S (List (Right P R))) (ru : Ruled k s) (id : ℕ) (p : PassRight P) → get_elem? s.views id ≡ some (Pass p ∷ [])
      → (own : P) (homes : List (Option S))
      → SlotTurn k p.thread own ru.world s.words homes → (i : ℕ)
      → Ruled k
      (record { words = set s.words i (slice_index s.words i); homes = homes; views = set s.views id (Pass (knowing p own) ∷ []) })
  moves s ru id p at own homes turn i = record {
    world = turn.world;
    fits = subst (λ ws. k.Fits turn.world ws homes) (sym (set-get_or s.words i 0)) turn.fits;
    seats =
        reseats number (RightFits k ru.world) (RightFits k turn.world) s.views id (Pass p ∷ [])
        (Pass (knowing p own) ∷ []) ru.seats at (λ j. omega arith) others (turn.pass, tt);
    present = λ j is. omega (arith, ru.present j is, times_set number j s.views id (Pass p ∷ []) (Pass (knowing p own) ∷ []) at);
    log = ru.log;
    recorded =
        records_stay number made_with (LeadsOn k) k.start ru.log s.views (k.told_by ru.world) ru.recorded id
        (k.told_by turn.world) turn.same (Pass p ∷ []) (Pass (knowing p own) ∷ [])
        at (refl, refl, tt);
    owed = λ c. ru.owed c ∙ ap (λ n. length (tokens_of c ru.log) + n) (sym (turn.owed c));
  }
    where
      others : (r : Right P R) → times {R = Right P R} number (number r) (Pass p ∷ []) ≡ 0 → RightFits k ru.world r
          → RightFits k turn.world r
      others (Pass x) away h = turn.passes x.thread x.own (not_mine k p x [] away) h
      others (Root y) away h = turn.roots y.key y.own h

  module _ (slots id l : ℕ) where
    out_at : (p : PassShown P) (mid : P → S → Type 0) → AllowsOut k l p mid
        → Allows (Ruled k) slots id (Pass (right_of_pass p) ∷ [], []) 0 (λ n. n) (λ _. ToldOut l (right_of_pass p) mid)
    out_at p mid allows s ru deep at small =
        let out = allows ru.world s.words s.homes ru.fits (ru.seats.named id (Pass (right_of_pass p) ∷ []) at).0 in (
          Pass (knowing (right_of_pass p) out.own) ∷ [],
          takes l out.value,
          out.there,
          moves s ru id (right_of_pass p) at out.own (set s.homes l none) out.turn 0,
          (out.own, out.value, refl, out.told),
        )

    back_at : (p : PassRight P) (y : S) (back : P → P → Type 0) → AllowsBack k l p.thread p.own y (back p.own)
        → Allows (Ruled k) slots id (Pass p ∷ [], (l, y) ∷ []) 0 (λ n. n) (λ _. ToldBack p back)
    back_at p y back allows s ru deep at small =
        let turn = allows ru.world s.words s.homes ru.fits (ru.seats.named id (Pass p ∷ []) at).0 in (
          Pass (knowing p turn.own) ∷ [],
          gives,
          tt,
          moves s ru id p at turn.own (set s.homes l (some y)) turn.turn 0,
          (turn.own, refl, turn.told),
        )

    module _ (nobody : P) (me : Me S (List (Right P R))) where
      pub takes_out : (p : PassShown P) → me ≡ (Pass (right_of_pass p) ∷ [], []) → (mid : P → S → Type 0) → AllowsOut k l p mid
          → Allows (Ruled k) slots id me 0 (λ n. n) (λ _ me'. ToldOut l (the_pass nobody me.0) mid me')
      takes_out p is mid allows =
          subst (λ (m : Me S (List (Right P R))). Allows (Ruled k) slots id m 0 (λ n. n) (λ _ me'. ToldOut l (the_pass nobody m.0) mid me'))
          (sym is) (out_at p mid allows)

      pub gives_back : (p : PassRight P) (y : S) → me ≡ (Pass p ∷ [], (l, y) ∷ [])
          → (back : P → P → Type 0) → AllowsBack k l p.thread p.own y (back p.own)
          → Allows (Ruled k) slots id me 0 (λ n. n) (λ _ me'. ToldBack (the_pass nobody me.0) back me')
      gives_back p y is back allows =
          subst (λ (m : Me S (List (Right P R))). Allows (Ruled k) slots id m 0 (λ n. n) (λ _ me'. ToldBack (the_pass nobody m.0) back me'))
          (sym is)
          (back_at p y back allows)

-- ---- what the seat carries between the two loads
-- what the slot taken last holds
abbrev carried_first : {S : Type 0} → S → List (ℕ × S) → S
carried_first y [] = y
carried_first y (x ∷ xs) = x.1

module _ {S P R : Type 0} (me : Me S (List (Right P R))) (v : List (Right P R)) (l : ℕ) (y : S) (is : me ≡ (v, (l, y) ∷ [])) where
  pub carried_here : me.1 ≡ (l, y) ∷ rest me.1
  carried_here = subst (λ (m : Me S (List (Right P R))). m.1 ≡ (l, y) ∷ rest m.1) (sym is) refl

  pub carried_new : (me' : Me S (List (Right P R))) (new : S) → me' ≡ (me.0, (l, new) ∷ rest me.1) → me' ≡ (v, (l, new) ∷ [])
  carried_new me' new e = e ∙ ap (λ (m : Me S (List (Right P R))). (m.0, (l, new) ∷ rest m.1)) is

  pub carried_was : (found : S) → me.1 ≡ (l, found) ∷ rest me.1 → found ≡ y
  carried_was found e = sym (ap (carried_first y) e) ∙ ap (λ (m : Me S (List (Right P R))). carried_first y m.1) is

-- the slot by either of its names
module _ {S P R : Type 0} (me : Me S (List (Right P R))) (v : List (Right P R)) (l slot : ℕ) (y : S) (named : l ≡ slot) where
  pub moved : me ≡ (v, (l, y) ∷ []) → me ≡ (v, (slot, y) ∷ [])
  moved e = e ∙ (λ j. (v, (named j, y) ∷ []))

  pub moved_back : me ≡ (v, (slot, y) ∷ []) → me ≡ (v, (l, y) ∷ [])
  moved_back e = e ∙ (λ j. (v, (sym named j, y) ∷ []))
