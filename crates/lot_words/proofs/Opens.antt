-- The rule holds of the table at the opening.
use Rattle.std.proofs.Common.{◌≡◌, ℕ, zero, suc, ◌+◌, ◌<◌, false, List, [], ◌∷◌, length, map, replicate, get_or, refl, sym, ap, subst}
use Rattle.std.proofs.Common.{◌∙◌, arith, Some, None, slice_get}
use Rattle.std.proofs.lemmas.List.{length-map, length-replicate}
use Rattle.std.proofs.lemmas.Option.{slice_get-get_or}
use mathlib.Core.Option.{some}
use lib.ListN.{get_elem?}
use Rattle.atomic_table.proofs.Lists.{at_map}
use Rattle.lot_core.proofs.Members.{in_none, once_none}
use Rattle.lot_core.proofs.Rows.{get_or_replicate}
use Rattle.lot_rights.specs.Layout.{word_count}
use Rattle.lot_rights.specs.Start.{OpensWell}
use Rattle.lot_rights.specs.World.{awake, number_of}
use Rattle.lot_rights.proofs.Owing.{owed_none}
use Rattle.lot_rights.proofs.Worlds.{fresh_words}
use Rattle.lot_words.specs.declared.views.Hold.TheVariants.{NotHeld}
use Rattle.lot_words.specs.declared.views.Place.TheVariants.{Out}
use Rattle.lot_words.specs.declared.views.Size.{Size}
use Rattle.lot_words.specs.CallersRule.{CallersRule}
use Rattle.lot_words.specs.World.{LockWorld, word_of, IsHeld, IsFound, Holds, HoldsParked, Kept}
use Rattle.lot_words.specs.Values.{IsLawful}
use Rattle.lot_words.specs.Rule.{sizes_of, part_of, opening_part, fresh_pass, fresh_root, meaning}
use Rattle.lot_words.proofs.Machine.{no_aim, no_debt}

-- what the slice's element is, in the table's words
pub get_as : {A : Type 0} (xs : List A) (k : ℕ) (x : A) → slice_get xs k ≡ Some x → get_elem? xs k ≡ some x
get_as [] k x e = absurd (let f : None ≡ Some x = e in cc)
get_as (y ∷ xs) zero x e = ap some (let f : Some y ≡ Some x = e in cc)
get_as (y ∷ xs) (suc k) x e = get_as xs k x e

module _ {V : Type 0} (xs : List V) where
  abbrev fresh_world : LockWorld V
  fresh_world =
      record { pass = λ t. fresh_pass xs; spot = λ t. awake; word = λ l. record { owner = None; parked = false }; root = λ l. fresh_root }

  holds_none : (l : ℕ) → ¬ Holds (fresh_pass xs) l
  holds_none l h = subst IsHeld (get_or_replicate NotHeld (length xs) l) h

  found_none : (l : ℕ) → ¬ HoldsParked (fresh_pass xs) l
  found_none l h = subst IsFound (get_or_replicate NotHeld (length xs) l) h

  fresh_kept : (n : ℕ) → Kept n (length xs) fresh_world
  fresh_kept n = record {
    threads = λ t. record {
      long = length-replicate (length xs) NotHeld;
      aims = λ l e. absurd (no_aim l e);
      holds = λ l h. absurd (holds_none l h);
      found = λ l h. absurd (found_none l h);
      spot = refl;
      in_line = λ l h. absurd (in_none t h);
      is_owed = λ l k e. absurd (no_debt None (t, k) refl e);
      handed = λ l h. absurd h;
    };
    locks =
        λ l. record {
          once = once_none;
          had = λ t e. absurd (let f : None ≡ Some t = e in cc);
          parks = λ some_in. absurd (some_in refl);
          tried = λ e some_in. absurd (some_in refl);
        };
  }

  fresh_part : part_of fresh_world ≡ opening_part
  fresh_part =
      λ i.
      record { locks = record { held = λ l. false; parked = λ l. false; line = λ l. []; has = λ l t. false }; wants = λ t. None }

module _ {V Part : Type 0} (rule : CallersRule V Part) (n : ℕ) (pos : 0 < n) where
  fresh_lawful : (x : V) (xs : List V) → ((k : ℕ) (y : V) → slice_get (x ∷ xs) k ≡ Some y → rule.keeps k y)
      → IsLawful rule n (length (x ∷ xs)) (λ t. fresh_pass (x ∷ xs)) (map some (map (λ (y : V). Some y) (x ∷ xs)))
  fresh_lawful x xs keep =
      let all : List V = x ∷ xs in
      let value : ℕ → V = (λ l. get_or all l x) in
      let seen_is : (l : ℕ) → l < length all → get_elem? all l ≡ some (value l) =
      (λ l near. get_as all l (value l) (slice_get-get_or all l x near)) in
      record {
        value = value;
        deep = length-map (map (λ (y : V). Some y) all) some ∙ length-map all (λ (y : V). Some y);
        each = λ l near. record {
          kept = keep l (value l) (slice_get-get_or all l x near);
          idle =
              λ _. at_map some (map (λ (y : V). Some y) all) l (Some (value l))
              (at_map (λ (y : V). Some y) all l (value l) (seen_is l near));
          owned = λ t h. absurd (holds_none all l h);
          seen = λ t _. record { seen = value l; seen_is = seen_is l near; grown = rule.grows_itself (value l); mine = λ _. refl };
          witness = (0, (pos, seen_is l near));
        };
        wide = λ t _. (length-replicate (length all) Out, refl);
      }

  pub opens_well : (m : ℕ) (xs : List V) → 0 < m → m ≡ length xs → ((k : ℕ) (y : V) → slice_get xs k ≡ Some y → rule.keeps k y)
      → OpensWell (meaning rule (record { threads = n; locks = m }) xs) (replicate (word_count n (0 + m)) 0) (map (λ (y : V). Some y) xs)
  opens_well m [] some_lock is keep = absurd (omega arith)
  opens_well m (x ∷ xs) some_lock is keep =
      let all : List V = x ∷ xs in
      let size : Size = record { threads = n; locks = m } in
      record {
        world = fresh_world all;
        fits = record {
          words = fresh_words word_of (sizes_of size) (fresh_world all) (λ l. refl) (λ t. refl);
          kept = subst (λ z. Kept n z (fresh_world all)) (sym is) (fresh_kept all n);
          lawful =
              subst (λ z. IsLawful rule n z (λ t. fresh_pass all) (map some (map (λ (y : V). Some y) all))) (sym is)
              (fresh_lawful x xs keep);
        };
        passes = λ t near. (near, refl);
        roots = λ l near. (near, refl);
        start = λ i. record { part = fresh_part all i; letters = λ t. 0 };
        owed = λ l. owed_none (sizes_of size) (λ r. number_of r.owes) (fresh_world all).root l refl;
      }
