-- The rule holds of the table at the opening.
use Rattle.std.proofs.Common.{◌≡◌, ℕ, zero, suc, ◌+◌, ◌-◌, ◌*◌, ◌<◌, List, [], length, replicate, get_or, refl, sym, ap, subst, ◌∙◌, ⊎_elim}
use Rattle.std.proofs.Common.{arith, length-set, get_or-set_same, get_or-set_other, None}
use Rattle.std.proofs.lemmas.Bool.{cases_lt}
use Rattle.std.proofs.lemmas.List.{length-replicate, get_or_past}
use mathlib.Core.Logic.{dite}
use native.Mathlib.Decide.{ℕ_discrete}
use Rattle.lot_core.proofs.Permits.{part_sound, part_opening}
use Rattle.lot_core.proofs.Rows.{get_or_replicate, row_from_at, row_from_before}
use Rattle.lot_rights.specs.Layout.{word_at, letter_at, word_count}
use Rattle.lot_rights.specs.Start.{OpensWell}
use Rattle.lot_rights.specs.World.{awake, number_of}
use Rattle.lot_rights.proofs.Distinct.{word_apart, apart_letter, word_within}
use Rattle.lot_rights.proofs.Owing.{owed_none}
use Rattle.lot_sems.specs.World.{Numbers, key_count, sizes_of, permits_of, SemWorld, word_in, SemWordsFit}
use Rattle.lot_sems.specs.Opening.{with_permits, opening_words}
use Rattle.lot_sems.specs.Rule.{opening_part, IsSound, meaning}
use Rattle.lot_sems.proofs.Machine.{no_some}
use Rattle.lot_core.proofs.Members.{in_none}

-- ---- words in which permits are written
module _ (ws : List ℕ) (first_sem : ℕ) (permits : List ℕ) where
  as_wide : (i : ℕ) → length (with_permits ws first_sem permits i) ≡ length ws
  as_wide zero = refl
  as_wide (suc i) = length-set (with_permits ws first_sem permits i) (word_at (first_sem + i)) (2 * get_or permits i 0) ∙ as_wide i

  letters_stay : (i t : ℕ) → get_or (with_permits ws first_sem permits i) (letter_at t) 0 ≡ get_or ws (letter_at t) 0
  letters_stay zero t = refl
  letters_stay (suc i) t =
      get_or-set_other (with_permits ws first_sem permits i) (word_at (first_sem + i)) (letter_at t) (2 * get_or permits i 0) 0
      (λ e. apart_letter (first_sem + i) t (sym e)) ∙ letters_stay i t

  words_are : (i j : ℕ) → j < i → word_at (first_sem + j) < length ws
      → get_or (with_permits ws first_sem permits i) (word_at (first_sem + j)) 0 ≡ 2 * get_or permits j 0
  words_are zero j near room = absurd (omega arith)
  words_are (suc i) j near room =
      let xs : List ℕ = with_permits ws first_sem permits i in
      let x : ℕ = 2 * get_or permits i 0 in
      dite (ℕ_discrete j i)
      (λ e. subst (λ z. get_or (with_permits ws first_sem permits (suc i)) (word_at (first_sem + z)) 0 ≡ 2 * get_or permits z 0) (sym e)
      (get_or-set_same xs (word_at (first_sem + i)) x 0 (omega (arith, as_wide i, ap (λ z. word_at (first_sem + z)) e))))
      (λ ne. get_or-set_other xs (word_at (first_sem + i)) (word_at (first_sem + j)) x 0
      (λ e. let same = word_apart (first_sem + j) (first_sem + i) e in ne (omega arith))
      ∙ words_are i j (omega arith) room)

module _ (size : Numbers) where
  abbrev first_sem : ℕ
  first_sem = size.first_sem

  abbrev permits : List ℕ
  permits = size.permits

  abbrev count : ℕ
  count = word_count size.threads (key_count size)

  abbrev fresh_world : SemWorld
  fresh_world = record { part = opening_part size; spot = λ t. awake; owes = λ k. None }

  abbrev zeros : List ℕ
  zeros = replicate count 0

  wide : length zeros ≡ count
  wide = length-replicate {A = ℕ} count 0

  pub opening_long : length (opening_words size) ≡ count
  opening_long = as_wide zeros first_sem permits (length permits) ∙ wide

  fresh_words : SemWordsFit size fresh_world (opening_words size)
  fresh_words = record {
    wide = opening_long;
    words = λ k is.
        let at : first_sem + (k - first_sem) ≡ k = omega (arith, is.0) in
        let left : permits_of size k ≡ get_or permits (k - first_sem) 0 = row_from_at 0 first_sem permits k is.0 in
        let near : word_at k < length zeros = omega (arith, wide, word_within size.threads (key_count size) k is.1) in
        let here =
        words_are zeros first_sem permits (length permits) (k - first_sem) (omega (arith, is.0, is.1))
        (subst (λ z. word_at z < length zeros) (sym at) near) in
        subst (λ z. get_or (opening_words size) (word_at z) 0 ≡ word_in (opening_part size) k) at (here ∙ omega (arith, left));
    letters = λ t near. letters_stay zeros first_sem permits (length permits) t ∙ get_or_replicate 0 count (letter_at t);
  }

  few : ((i : ℕ) → i < length permits → get_or permits i 0 < 4294967296) → (k : ℕ) → permits_of size k < 4294967296
  few small k = ⊎_elim {C = permits_of size k < 4294967296}
      (λ before. omega (arith, row_from_before 0 first_sem permits k before))
      (λ from. ⊎_elim {C = permits_of size k < 4294967296}
      (λ within. omega (arith, row_from_at 0 first_sem permits k from, small (k - first_sem) within))
      (λ past. omega (arith, row_from_at 0 first_sem permits k from, get_or_past permits (k - first_sem) 0 past))
      (cases_lt (k - first_sem) (length permits)))
      (cases_lt k first_sem)

  pub opening_sound : IsSound size (opening_part size)
  opening_sound = part_sound size.threads (permits_of size) (opening_part size) (part_opening size.threads (permits_of size))

  pub opens_well : ((i : ℕ) → i < length permits → get_or permits i 0 < 4294967296) → OpensWell (meaning size) (opening_words size) []
  opens_well small = record {
    world = fresh_world;
    fits = record {
      few = few small;
      words = fresh_words;
      sound = opening_sound;
      letters = record { fits = λ t. tt; in_line = λ t k h. absurd (in_none t h); is_owed = λ t k e. absurd (no_some t e) };
    };
    passes =
        λ t near. record {
          near = near;
          seeks = refl;
          asleep = refl;
          long = length-replicate (key_count size) 0;
          out = λ k. sym (get_or_replicate 0 (key_count size) k);
        };
    roots = λ k is. (is, refl, refl);
    start = refl;
    owed = λ k. owed_none (sizes_of size) number_of fresh_world.owes k refl;
  }
