-- The rule of a lot holds of its table at the opening.
use Rattle.std.proofs.Common.{◌≡◌, ℕ, zero, suc, ◌+◌, ◌<◌, true, false, List, [], length, map, replicate, get_or, refl, sym}
use Rattle.std.proofs.Common.{subst, ◌∙◌, ⊎_elim, arith, get_or-set_other, Some, slice_get}
use Rattle.std.specs.Prelude.{◌*◌, nat_lt, if◌then◌else◌}
use Rattle.std.proofs.lemmas.Bool.{cases_lt, lt-ltb, le-ltb}
use mathlib.Core.Option as maybe
use mathlib.Core.Path.{fun_ext}
use Rattle.lot_core.proofs.Law.{opening_reached}
use Rattle.lot_core.proofs.Rows.{get_or_replicate}
use Rattle.lot_rights.specs.Layout.{word_at, word_count}
use Rattle.lot_rights.proofs.Distinct.{word_apart}
use Rattle.lot_rights.specs.Start.{OpensWell}
use Rattle.lot_words.specs.CallersRule.{CallersRule}
use Rattle.lot_words.specs.Rule.{fresh_root as lock_fresh}
use Rattle.lot_words.proofs.Opens as locks
use Rattle.lot_conds.specs.Rule.{fresh_root as cond_fresh}
use Rattle.lot_conds.proofs.Opens as conds
use Rattle.lot_sems.specs.Opening.{with_permits, opening_words}
use Rattle.lot_sems.specs.Rule.{fresh_root as sem_fresh}
use Rattle.lot_sems.proofs.Opens as sems
use Rattle.lot_whole.specs.declared.views.LotRootView.TheVariants.{Lock, Cond, Sem}
use Rattle.lot_whole.specs.Family.{Which, lock, cond, sem, LotSize, cond_size, sem_size, key_count, IsKeyIn, SlotOf, away}
use Rattle.lot_whole.specs.Family.{homes_in, meaning_of, part_in}
use Rattle.lot_whole.specs.Whole.{opening_of}
use Rattle.lot_whole.specs.Lot.{own_of, sum_of, fresh_pass, fresh_root, LotWorld, letters_in, LotFits, LotRootIs, lot_meaning}
use Rattle.lot_whole.proofs.Family.{wide_in, letter_in}

-- the permits are written behind the words of locks and conditions
before_permits : (ws : List ℕ) (first_sem : ℕ) (permits : List ℕ) (i c : ℕ) → c < first_sem
    → get_or (with_permits ws first_sem permits i) (word_at c) 0 ≡ get_or ws (word_at c) 0
before_permits ws first_sem permits zero c near = refl
before_permits ws first_sem permits (suc i) c near =
    get_or-set_other (with_permits ws first_sem permits i) (word_at (first_sem + i)) (word_at c)
    (2 * get_or permits i 0) 0 (λ e. let same = word_apart c (first_sem + i) e in omega arith)
    ∙ before_permits ws first_sem permits i c near

nobody_away : (V : Type 0) (z : LotSize) (xs : List V) (j : Which) → away V j (own_of V (fresh_pass z xs) j) ≡ false
nobody_away V z xs lock = refl
nobody_away V z xs cond = refl
nobody_away V z xs sem = refl

module _ {V Part : Type 0} (rule : CallersRule V Part) (z : LotSize) (xs : List V) (pos : 0 < z.threads) (some : 0 < z.locks)
    (long : z.locks ≡ length xs)
    (keep : (k : ℕ) (y : V) → slice_get xs k ≡ Some y → rule.keeps k y)
    (small : (i : ℕ) → i < length z.permits → get_or z.permits i 0 < 4294967296) where
  -- what each kind begins with
  abbrev words : Which → List ℕ
  words lock = replicate (word_count z.threads (0 + z.locks)) 0
  words cond = replicate (word_count z.threads (z.locks + z.conds)) 0
  words sem = opening_words (sem_size z)

  abbrev slots : (j : Which) → List (SlotOf V j)
  slots lock = map (λ (x : V). Some x) xs
  slots cond = []
  slots sem = []

  well : (j : Which) → OpensWell (meaning_of rule z xs j) (words j) (slots j)
  well lock = locks.opens_well rule z.threads pos z.locks xs some long keep
  well cond = conds.opens_well (cond_size z) some
  well sem = sems.opens_well (sem_size z) small

  abbrev fresh : LotWorld rule z xs
  fresh = record { each = λ j. (well j).world; words = words; pass = λ t. fresh_pass z xs; whole = opening_of z }

  fits_alone : (j : Which) → (meaning_of rule z xs j).Fits (well j).world (words j) (homes_in j (map maybe.some (slots lock)))
  fits_alone lock = (well lock).fits
  fits_alone cond = (well cond).fits
  fits_alone sem = (well sem).fits

  -- no letter lies
  no_letter : (j : Which) (t : ℕ) → letters_in rule z xs fresh j t ≡ 0
  no_letter lock t = λ i. ((well lock).start i).letters t
  no_letter cond t = λ i. ((well cond).start i).letters t
  no_letter sem t = λ i. ((well sem).start i).letters t

  none_sums : (t : ℕ) → sum_of (letters_in rule z xs fresh) t ≡ 0
  none_sums t = omega (arith, no_letter lock t, no_letter cond t, no_letter sem t)

  keys_agree : (j : Which) (c : ℕ) → IsKeyIn z j c → get_or (words sem) (word_at c) 0 ≡ get_or (words j) (word_at c) 0
  keys_agree lock c is = before_permits (replicate (word_count z.threads (key_count z)) 0) (z.locks + z.conds) z.permits
      (length z.permits) c (omega (arith, is.1))
      ∙ (get_or_replicate 0 (word_count z.threads (key_count z)) (word_at c)
      ∙ sym (get_or_replicate 0 (word_count z.threads (0 + z.locks)) (word_at c)))
  keys_agree cond c is = before_permits (replicate (word_count z.threads (key_count z)) 0) (z.locks + z.conds) z.permits
      (length z.permits) c (omega (arith, is.1))
      ∙ (get_or_replicate 0 (word_count z.threads (key_count z)) (word_at c)
      ∙ sym (get_or_replicate 0 (word_count z.threads (z.locks + z.conds)) (word_at c)))
  keys_agree sem c is = refl

  fits_pass : (t : ℕ) → t < z.threads → (j : Which) → (meaning_of rule z xs j).PassFits (well j).world t (own_of V (fresh_pass z xs) j)
  fits_pass t near lock = (well lock).passes t near
  fits_pass t near cond = (well cond).passes t near
  fits_pass t near sem = (well sem).passes t near

  parts_agree : (j : Which) → part_in rule z xs j (opening_of z) ≡ ((meaning_of rule z xs j).told_by (well j).world).part
  parts_agree lock = λ i. (sym (well lock).start i).part
  parts_agree cond = λ i. (sym (well cond).start i).part
  parts_agree sem = λ i. (sym (well sem).start i).part

  fresh_fits : LotFits rule z xs fresh (words sem) (map maybe.some (slots lock))
  fresh_fits = record {
    parts = fits_alone;
    wide = wide_in rule z xs sem (well sem).world (words sem) (map maybe.some (slots lock)) (fits_alone sem);
    keys = keys_agree;
    letters = λ t near. letter_in rule z xs sem (well sem).world (words sem) (map maybe.some (slots lock)) (fits_alone sem) t near
        ∙ (no_letter sem t ∙ sym (none_sums t));
    passes = λ t near. record {
      each = fits_pass t near;
      apart = λ j k up there. absurd (let e : false ≡ true = sym (nobody_away V z xs j) ∙ up in cc);
      stand = refl;
    };
    agrees = parts_agree;
    none_in_line = λ t _. none_sums t;
    counts = refl;
    reached = opening_reached z.threads z.locks z.conds z.permits;
    ordered = λ t. tt;
  }

  fresh_roots : (c : ℕ) → c < key_count z → LotRootIs rule z xs fresh c (fresh_root z c)
  fresh_roots c near = ⊎_elim {C = LotRootIs rule z xs fresh c (fresh_root z c)}
      (λ here. let is : IsKeyIn z lock c = (omega arith, omega arith) in
      subst (λ b. LotRootIs rule z xs fresh c
      (if b then Lock lock_fresh else (if nat_lt c (z.locks + z.conds) then Cond cond_fresh else Sem sem_fresh)))
      (sym (lt-ltb c z.locks here))
      (is, (well lock).roots c is))
      (λ past. subst (λ b. LotRootIs rule z xs fresh c
      (if b then Lock lock_fresh else (if nat_lt c (z.locks + z.conds) then Cond cond_fresh else Sem sem_fresh)))
      (sym (le-ltb c z.locks past))
      (⊎_elim {C = LotRootIs rule z xs fresh c (if nat_lt c (z.locks + z.conds) then Cond cond_fresh else Sem sem_fresh)}
      (λ here. let is : IsKeyIn z cond c = (past, here) in
      subst (λ b. LotRootIs rule z xs fresh c (if b then Cond cond_fresh else Sem sem_fresh)) (sym (lt-ltb c (z.locks + z.conds) here))
      (is, (well cond).roots c is))
      (λ behind. let is : IsKeyIn z sem c = (behind, near) in
      subst (λ b. LotRootIs rule z xs fresh c (if b then Cond cond_fresh else Sem sem_fresh)) (sym (le-ltb c (z.locks + z.conds) behind))
      (is, (well sem).roots c is))
      (cases_lt c (z.locks + z.conds))))
      (cases_lt c z.locks)

  pub opens_well : OpensWell (lot_meaning rule z xs) (opening_words (sem_size z)) (map (λ (x : V). Some x) xs)
  opens_well = record {
    world = fresh;
    fits = fresh_fits;
    passes = λ t near. (near, refl);
    roots = λ c is. fresh_roots c (omega (arith, is.1));
    start = λ i. record { part = opening_of z; letters = fun_ext none_sums i };
    owed = λ c. omega (arith, (well lock).owed c, (well cond).owed c, (well sem).owed c);
  }
