-- The rule holds of the table at the opening.
use Rattle.std.proofs.Common.{◌≡◌, ◌≢◌, ℕ, zero, suc, ◌+◌, ◌*◌, ◌%◌, ◌<◌, ◌≤◌, ◌==◌, List, [], ◌∷◌, refl, sym, ap, subst, ◌∙◌, ⊎_elim}
use Rattle.std.proofs.Common.{eq-eqb, ne_eqb, arith}
use mathlib.Core.Option.{some, some-injective, some-ne-none}
use mathlib.Core.Logic.{dite}
use native.Mathlib.Decide.{ℕ_discrete}
use lib.ListN.{get_elem?}
use Rattle.atomic_table.specs.Table.{opening}
use Rattle.lot_rights.specs.declared.views.Right.{Right}
use Rattle.lot_rights.specs.declared.views.Right.TheVariants.{Pass, Root}
use Rattle.lot_rights.specs.Seating.{times, times_in, Each, Seated}
use Rattle.lot_rights.specs.History.{Noted}
use Rattle.lot_rights.specs.Rule.{number, made_with, Meaning, IsThread, IsKey, IsRight, RightFits, Ruled}
use Rattle.lot_rights.specs.Start.{rights_from, new_pass, new_root, passes_from, roots_from, all_rights, OpensWell}
use Rattle.lot_rights.proofs.Seats.{tick, times_append, each_append}

-- rights of which the u-th has the number 2 u + b
module _ {A : Type 0} (num : A → ℕ) (right : ℕ → A) (b : ℕ) (numbered : (u : ℕ) → num (right u) ≡ 2 * u + b) (i : ℕ) where
  times_before : (t n : ℕ) → i < 2 * t + b → times num i (rights_from right t n) ≡ 0
  times_before t zero low = refl
  times_before t (suc n) low =
      let none : tick (num (right t) == i) ≡ 0 = ap tick (ne_eqb (num (right t)) i (λ e. omega (arith, numbered t))) in
      omega (arith, times_before (t + 1) n (omega arith))

  pub times_few : (t n : ℕ) → times num i (rights_from right t n) ≤ 1
  times_few t zero = omega arith
  times_few t (suc n) = dite (ℕ_discrete (num (right t)) i)
      (λ here. let one : tick (num (right t) == i) ≡ 1 = ap tick (eq-eqb (num (right t)) i here) in
      omega (arith, times_before (t + 1) n (omega (arith, numbered t))))
      (λ else. let none : tick (num (right t) == i) ≡ 0 = ap tick (ne_eqb (num (right t)) i else) in omega (arith, times_few (t + 1) n))

  pub times_else : ((u : ℕ) → i ≢ 2 * u + b) → (t n : ℕ) → times num i (rights_from right t n) ≡ 0
  times_else ne t zero = refl
  times_else ne t (suc n) =
      let none : tick (num (right t) == i) ≡ 0 = ap tick (ne_eqb (num (right t)) i (λ e. ne t (sym e ∙ numbered t))) in
      omega (arith, times_else ne (t + 1) n)

  -- the u-th is there
  pub times_there : (u t n : ℕ) → i ≡ 2 * u + b → t ≤ u → u < t + n → 1 ≤ times num i (rights_from right t n)
  times_there u t zero e low high = absurd (omega arith)
  times_there u t (suc n) e low high = dite (ℕ_discrete t u)
      (λ here. let one : tick (num (right t) == i) ≡ 1 =
      ap tick (eq-eqb (num (right t)) i (numbered t ∙ (ap (λ z. 2 * z + b) here ∙ sym e))) in omega arith)
      (λ else. omega (arith, times_there u (t + 1) n e (omega arith) (omega arith)))

module _ {A : Type 0} (num : A → ℕ) (F : A → Type 0) (right : ℕ → A) where
  pub each_from : (t n : ℕ) → ((u : ℕ) → t ≤ u → u < t + n → F (right u)) → Each num F (rights_from right t n)
  each_from t zero f = tt
  each_from t (suc n) f = (f t (omega arith) (omega arith), each_from (t + 1) n (λ u low high. f u (omega arith) (omega arith)))

module _ {S P R : Type 0} (k : Meaning S P R) where
  abbrev pass : ℕ → Right P R
  pass u = Pass (new_pass k.fresh_pass u)

  abbrev root : ℕ → Right P R
  root c = Root (new_root k.fresh_root c)

  even : (u : ℕ) → number (pass u) ≡ 2 * u + 0
  even u = omega arith

  all_once : (i : ℕ) → times_in {R = Right P R} number i (all_rights k ∷ []) ≤ 1
  all_once i =
      let sum = times_append {R = Right P R} number i (passes_from k 0 k.threads) (roots_from k k.first_key k.keys) in
      dite (ℕ_discrete (i % 2) 0)
      (λ e.
      omega (
        arith,
        sum,
        times_few number pass 0 even i 0 k.threads,
        times_else number root 1 (λ c. refl) i (λ u f. omega arith) k.first_key k.keys,
      ))
      (λ ne.
      omega (
        arith,
        sum,
        times_else number pass 0 even i (λ u f. ne (omega arith)) 0 k.threads,
        times_few number root 1 (λ c. refl) i k.first_key k.keys,
      ))

  all_present : (i : ℕ) → IsRight k i → 1 ≤ times_in {R = Right P R} number i (all_rights k ∷ [])
  all_present i is =
      let sum = times_append {R = Right P R} number i (passes_from k 0 k.threads) (roots_from k k.first_key k.keys) in
      ⊎_elim {C = 1 ≤ times_in {R = Right P R} number i (all_rights k ∷ [])}
      (λ t. let near = t.1 in let e = t.2 in
      omega (arith, sum, times_there number pass 0 even i t.0 0 k.threads (omega arith) (omega arith) (omega arith)))
      (λ c. let near = c.1 in
      omega (arith, sum, times_there number root 1 (λ d. refl) i c.0 k.first_key k.keys c.2 (omega arith) (omega arith)))
      is

  all_seated : (F : Right P R → Type 0) → ((t : ℕ) → IsThread k t → F (pass t)) → ((c : ℕ) → IsKey k c → F (root c))
      → Seated {R = Right P R} number F (all_rights k ∷ [])
  all_seated F f g = record { once = all_once; named = the_views }
    where
      the_views : (j : ℕ) (v : List (Right P R)) → get_elem? (all_rights k ∷ []) j ≡ some v → Each {R = Right P R} number F v
      the_views zero v e = subst (Each {R = Right P R} number F) (some-injective (all_rights k) v e)
          (each_append number F (passes_from k 0 k.threads) (roots_from k k.first_key k.keys)
          (each_from number F pass 0 k.threads (λ t low near. f t (omega arith)))
          (each_from number F root k.first_key k.keys (λ c low near. g c (low, near))))
      the_views (suc j) v e = absurd (some-ne-none v (sym e))

  pub opens : (ws : List ℕ) (xs : List S) → OpensWell k ws xs → Ruled k (opening ws xs (all_rights k))
  opens ws xs o = record {
    world = o.world;
    fits = o.fits;
    seats = all_seated (RightFits k o.world) o.passes o.roots;
    present = all_present;
    log = [];
    recorded =
        record {
          run = o.start;
          counted = tt;
          listed = record { told = all_seated (Noted number made_with []) (λ t near. refl) (λ c among. refl); known = λ i away. refl };
        };
    owed = λ c. let none = o.owed c in omega arith;
  }
