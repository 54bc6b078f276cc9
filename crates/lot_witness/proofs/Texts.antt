-- The lines of a witness, one after the other.
use Rattle.std.proofs.Common.{◌≡◌, ◌≢◌, ◌<◌, ◌≤◌, ◌+◌, ◌-◌, ◌++◌, ◌⊎◌, ℕ, true, false, List, [], ◌∷◌, length, length-append, get_or}
use Rattle.std.proofs.Common.{refl, sym, ap, subst, ◌∙◌}
use Rattle.std.proofs.Common.{Bor, arith, append_assoc, inl, inr, Some, None}
use Rattle.std.proofs.lemmas.Str.Pattern.{IsSplitOnceResult, split_after}
use Rattle.std.specs.Prelude.{codes, ◌==◌, not}
use Rattle.std.proofs.lemmas.Bool.{and_parts}
use Rattle.std.proofs.lemmas.List.{append-nil, nil_from_length}
use Rattle.lot_events.specs.declared.events.Event.{Event}
use Rattle.lot_events.specs.declared.events.Seen.{Seen}
use Rattle.lot_events.specs.declared.events.Seen.TheVariants.{Bool as Saw, Done, Sleeper, Count}
use Rattle.lot_events.specs.Reading.{field_at, number_at, end_at, open_at}
use Rattle.lot_events.specs.Spelling.{line, field, Spells}
use Rattle.lot_events.proofs.Figures.{some_is}
use Rattle.lot_events.proofs.Spelled.{one_event}
use Rattle.lot_core.specs.declared.script.TheConstants.{MAX_LINES}
use Rattle.lot_core.specs.Script.{Opening}
use Rattle.lot_core.specs.Reading.{ReadsNumbers}
use Rattle.lot_core.proofs.Openings.{opening_takes, same_numbers, same_opening, SameOpening}
use Rattle.lot_witness.specs.declared.witness.Sighting.{Sighting}
use Rattle.lot_witness.specs.Spelling.{told, TellsTruth, TellsNothing, TellsSleeper, TellsNumber, IsSightOf, SpellsSighting, BeginsWith}
use Rattle.lot_witness.specs.Spelling.{NoSighting, BeginsWithAll, AreAll, Opens, SpellsWitness, IsBadLine}
use Rattle.lot_witness.specs.Spelling.{IsFirstBad, AreGood, WantsMemory}
use Rattle.lot_witness.proofs.Clean.{clean, clean_at, IsOneLine, line_is_one}
use Rattle.lot_witness.proofs.Lines.{by_sight, sighting_is_one, IsCut, IsLastSpace, cut, cut_at, space_at, behind_space, number_read}

-- one more line
pub all_push : (text : List ℕ) (xs : List Sighting) (rest : List ℕ) (x : Sighting) (behind : List ℕ) → BeginsWithAll text xs rest →
    BeginsWith rest x behind → BeginsWithAll text (xs ++ x ∷ []) behind
all_push text [] rest x behind same begins = (behind, subst (λ t. BeginsWith t x behind) (sym same) begins, refl)
all_push text (y ∷ xs) rest x behind (next, first, others) begins = (next, first, all_push next xs rest x behind others begins)

-- what was read of the lines began with one, where another was found behind them
pub all_first : (text : List ℕ) (xs : List Sighting) (rest : List ℕ) (x : Sighting) (behind : List ℕ) → BeginsWithAll text xs rest →
    BeginsWith rest x behind → (y : Sighting) × (after : List ℕ) × BeginsWith text y after
all_first text [] rest x behind same begins = (x, behind, subst (λ t. BeginsWith t x behind) (sym same) begins)
all_first text (y ∷ xs) rest x behind (next, first, others) begins = (y, next, first)

-- the lines from the second on were read up to line `number`, and `rest` is left
pub record IsSoFar (lines rest : List ℕ) (number : ℕ) : Type 0 where
  pub xs : List Sighting
  pub good : BeginsWithAll lines xs rest
  pub count : number ≡ length xs + 2

pub so_first : (lines : List ℕ) → IsSoFar lines lines 2
so_first lines = record { xs = []; good = refl; count = refl }

pub so_more : (lines rest : List ℕ) (number : ℕ) (x : Sighting) (behind : List ℕ) → IsSoFar lines rest number → BeginsWith rest x behind →
    IsSoFar lines behind (number + 1)
so_more lines rest number x behind so begins = record {
  xs = so.xs ++ x ∷ [];
  good = all_push lines so.xs rest x behind so.good begins;
  count = omega (arith, so.count, length-append so.xs (x ∷ []));
}

pub so_done : (lines rest : List ℕ) (number : ℕ) → IsSoFar lines rest number → number ≤ MAX_LINES + 1 → length rest ≡ 0 → AreGood lines
so_done lines rest number so few none =
    (so.xs, (subst (BeginsWithAll lines so.xs) (nil_from_length rest none) so.good, omega (arith, so.count)))

pub not_nil : (rest : List ℕ) → 0 < length rest → rest ≢ []
not_nil rest some e = omega (arith, ap length e)

-- line `number` is not as said, for one reason or the other
so_fails : (lines rest : List ℕ) (number : ℕ) → IsSoFar lines rest number → number ≤ MAX_LINES + 1 → 0 < length rest →
    NoSighting rest ⊎ (number ≡ MAX_LINES + 1) → IsBadLine lines number
so_fails lines rest number so few some why = record {
  xs = so.xs;
  rest = rest;
  good = so.good;
  few = omega (arith, so.count);
  count = so.count;
  some = not_nil rest some;
  why = why;
}

pub so_bad : (lines rest : List ℕ) (number : ℕ) → IsSoFar lines rest number → number ≤ MAX_LINES + 1 → 0 < length rest → NoSighting rest →
    IsBadLine lines number
so_bad lines rest number so few some none = so_fails lines rest number so few some (inl none)

pub so_many : (lines rest : List ℕ) (number : ℕ) → IsSoFar lines rest number → number ≡ MAX_LINES + 1 → 0 < length rest →
    IsBadLine lines (MAX_LINES + 1)
so_many lines rest number so last some =
    subst (IsBadLine lines) last (so_fails lines rest number so (omega arith) some (inr last))

-- a text has one first line
pub same_front : (a a' b b' : List ℕ) → clean 10 a ≡ true → clean 10 a' ≡ true → a ++ (10 ∷ b) ≡ a' ++ (10 ∷ b') → (a ≡ a') × (b ≡ b')
same_front [] [] b b' clean_a clean_a' is = (refl, cc)
same_front [] (x ∷ a') b b' clean_a clean_a' is = absurd (clean_at 10 (x ∷ a') clean_a' 0 (omega arith) (cc))
same_front (x ∷ a) [] b b' clean_a clean_a' is = absurd (clean_at 10 (x ∷ a) clean_a 0 (omega arith) (cc))
same_front (x ∷ a) (y ∷ a') b b' clean_a clean_a' is =
    let head : x ≡ y = cc in
    let tail : a ++ (10 ∷ b) ≡ a' ++ (10 ∷ b') = cc in
    let more = same_front a a' b b' (and_parts (not (x == 10)) (clean 10 a) clean_a).1
    (and_parts (not (y == 10)) (clean 10 a') clean_a').1 tail in
    (ap (λ k. k ∷ a) head ∙ ap (λ bs. y ∷ bs) more.0, more.1)

pub opening_is_one : (first : List ℕ) (n l c : ℕ) (ps : List ℕ) → Opening first n l c ps → IsOneLine first
opening_is_one first n l c ps is = line_is_one (codes "open") (n ∷ l ∷ c ∷ ps) first refl is

-- the lines of a text with one first line, cut behind its first LF
pub opening_splits : (text : List ℕ) (n l c : ℕ) (ps lines : List ℕ) → Opens text n l c ps lines → (front : List ℕ)
    × (text ≡ front ++ (10 ∷ lines)) × ((i : ℕ) → i < length front → get_or front i 0 ≢ 10)
opening_splits text n l c ps lines opens =
    let one = opening_is_one opens.first n l c ps opens.opens in (
      one.front,
      opens.parts ∙ ap (λ f. f ++ lines) one.parts ∙ append_assoc one.front (10 ∷ []) lines,
      clean_at 10 one.front one.clean_is,
    )

pub opens_from : (text : List ℕ) (n l c : ℕ) (behind ps rest more : List ℕ) → open_at text ≡ Some (n, l, c, behind) →
    ReadsNumbers behind ps rest → end_at rest ≡ Some more → Opens text n l c ps more
opens_from text n l c behind ps rest more opens reads ends =
    let first = opening_takes text n l c behind ps rest more opens reads ends in
    record { first = line (codes "open") (n ∷ l ∷ c ∷ ps); opens = first.0; parts = first.1 }

pub opens_split : (text : List ℕ) (n l c : ℕ) (behind ps rest more : List ℕ) (first lines : Bor (List ℕ)) →
    open_at text ≡ Some (n, l, c, behind) → ReadsNumbers behind ps rest → end_at rest ≡ Some more →
    IsSplitOnceResult 10 text (Some (first, lines)) → Opens text n l c ps lines.now
opens_split text n l c behind ps rest more first lines read reads ends split =
    let opens = opens_from text n l c behind ps rest more read reads ends in
    let splits = opening_splits text n l c ps more opens in
    let same : (first.now ≡ splits.0) × (lines.now ≡ more) =
    split_after 10 text splits.0 more (Some (first, lines)) split (omega arith) splits.1 splits.2 in
    subst (Opens text n l c ps) (sym same.1) opens

-- where the last space stands
pub last_of : (line : List ℕ) (x : Sighting) → (is : IsCut line x) → IsLastSpace line (length is.front)
last_of line x is =
    let long = ap length is.parts ∙ length-append is.front (32 ∷ is.word) in (
      omega (arith, long),
      ap (λ bs. get_or bs (length is.front) 0) is.parts ∙ space_at is.front is.word,
      λ i past within. λ e.
          clean_at 32 is.word is.no_space (i - length is.front - 1) (omega (arith, long, past, within))
          (sym (behind_space is.front is.word i past) ∙ sym (ap (λ bs. get_or bs i 0) is.parts) ∙ e),
    )

-- what was seen has one spelling for each event
pub same_number : (n m : ℕ) → n < 10000 → m < 10000 → field n ≡ field m → n ≡ m
same_number n m small small' is =
    ap (λ (y : ℕ × List ℕ). y.0) (some_is (n, []) (m, []) (sym (number_read (field n) n small refl) ∙ number_read (field n) m small' is))

pub no_field : field_at (codes " -") ≡ None
unfolding field_at number_at
no_field = refl

pub no_number : (n : ℕ) → n < 10000 → codes " -" ≡ field n → ⊥
no_number n small is = let read = sym no_field ∙ number_read (codes " -") n small is in absurd (cc)

pub same_truth : (a b : Seen) → TellsTruth a → TellsTruth b → told a ≡ told b → a ≡ b
same_truth (Saw true) (Saw true) p q is = refl
same_truth (Saw false) (Saw false) p q is = refl
same_truth (Saw _) (Saw _) p q is = absurd (cc)
same_truth (Saw _) _ p q is = absurd q
same_truth _ _ p q is = absurd p

pub same_nothing : (a b : Seen) → TellsNothing a → TellsNothing b → told a ≡ told b → a ≡ b
same_nothing Done Done p q is = refl
same_nothing Done _ p q is = absurd q
same_nothing _ _ p q is = absurd p

pub same_sleeper : (a b : Seen) → TellsSleeper a → TellsSleeper b → told a ≡ told b → a ≡ b
same_sleeper (Sleeper None) (Sleeper None) p q is = refl
same_sleeper (Sleeper None) (Sleeper (Some n)) p q is = absurd (no_number n q is)
same_sleeper (Sleeper (Some n)) (Sleeper None) p q is = absurd (no_number n p (sym is))
same_sleeper (Sleeper (Some n)) (Sleeper (Some m)) p q is = ap (λ k. Sleeper (Some k)) (same_number n m p q is)
same_sleeper (Sleeper _) _ p q is = absurd q
same_sleeper _ _ p q is = absurd p

pub same_count : (a b : Seen) → TellsNumber a → TellsNumber b → told a ≡ told b → a ≡ b
same_count (Count n) (Count m) p q is = ap Count (same_number n m p q is)
same_count (Count _) _ p q is = absurd q
same_count _ _ p q is = absurd p

pub same_sight : (e : Event) (a b : Seen) → IsSightOf e a → IsSightOf e b → told a ≡ told b → a ≡ b
same_sight =
    by_sight (λ Tells. (a b : Seen) → Tells a → Tells b → told a ≡ told b → a ≡ b) same_truth same_nothing same_sleeper same_count

-- so a line spells one sighting
pub one_cut : (line : List ℕ) (x y : Sighting) → IsCut line x → IsCut line y → x ≡ y
one_cut line x y is is' =
    let at = cut_at line y (length is.front) is' (last_of line x is) in
    let own = cut_at line x (length is.front) is (last_of line x is) in
    let fronts : is'.front ≡ is.front = sym at.0 ∙ own.0 in
    let events : x.event ≡ y.event =
    one_event (is.front ++ 10 ∷ []) x.event y.event is.spells (subst (λ f. Spells (f ++ 10 ∷ []) y.event) fronts is'.spells) in
    let saws : x.saw ≡ y.saw =
    same_sight x.event x.saw y.saw is.sight (subst (λ e. IsSightOf e y.saw) (sym events) is'.sight) (sym own.1 ∙ at.1) in
    ap (λ e. let z : Sighting = record { event = e; saw = x.saw } in z) events
    ∙ ap (λ s. let z : Sighting = record { event = y.event; saw = s } in z) saws

pub one_sighting : (text : List ℕ) (x y : Sighting) (rest rest' : List ℕ) → BeginsWith text x rest → BeginsWith text y rest'
    → (x ≡ y) × (rest ≡ rest')
one_sighting text x y rest rest' (first, spells, parts) (first', spells', parts') =
    let one = sighting_is_one first x spells in
    let two = sighting_is_one first' y spells' in
    let same = same_front one.front two.front rest rest' one.clean_is two.clean_is
    (sym (parts ∙ ap (λ f. f ++ rest) one.parts ∙ append_assoc one.front (10 ∷ []) rest)
    ∙ parts' ∙ ap (λ f. f ++ rest') two.parts ∙ append_assoc two.front (10 ∷ []) rest') in (
      one_cut one.front x y (cut one.front x (subst (λ t. SpellsSighting t x) one.parts spells))
          (cut one.front y (subst (λ t. SpellsSighting t y) (two.parts ∙ ap (λ f. f ++ 10 ∷ []) (sym same.0)) spells')),
      same.1,
    )

pub begins_not_nil : (x : Sighting) (rest : List ℕ) → BeginsWith [] x rest → ⊥
begins_not_nil x rest (first, spells, parts) =
    let one = sighting_is_one first x spells in
    omega (arith, ap length parts, length-append first rest, ap length one.parts, length-append one.front (10 ∷ []))

-- a line less is left
pub line_shorter : (text : List ℕ) (x : Sighting) (behind : List ℕ) → BeginsWith text x behind → length behind < length text
line_shorter text x behind (first, spells, parts) =
    let one = sighting_is_one first x spells in
    omega (arith, ap length parts, length-append first behind, ap length one.parts, length-append one.front (10 ∷ []))

-- lines that are all read go on where others stop
pub record IsBeyond (xs ys : List Sighting) (rest : List ℕ) : Type 0 where
  pub more : List Sighting
  pub parts : xs ≡ ys ++ more
  pub each : BeginsWithAll rest more []

pub beyond : (lines : List ℕ) (xs ys : List Sighting) (rest : List ℕ) → BeginsWithAll lines xs [] → BeginsWithAll lines ys rest
    → IsBeyond xs ys rest
beyond lines xs [] rest all same = record { more = xs; parts = refl; each = subst (λ t. BeginsWithAll t xs []) same all }
beyond lines [] (y ∷ ys) rest none (behind, first, others) =
    absurd (begins_not_nil y behind (subst (λ t. BeginsWith t y behind) none first))
beyond lines (x ∷ xs) (y ∷ ys) rest (behind, first, others) (behind', first', others') =
    let same = one_sighting lines x y behind behind' first first' in
    let next = beyond behind' xs ys rest (subst (λ t. BeginsWithAll t xs []) same.1 others) others' in
    record { more = next.more; parts = ap (λ z. z ∷ xs) same.0 ∙ ap (λ zs. y ∷ zs) next.parts; each = next.each }

pub same_lines : (text : List ℕ) (n l c n' l' c' : ℕ) (ps ps' lines lines' : List ℕ) → Opens text n l c ps lines
    → Opens text n' l' c' ps' lines' → SameOpening n l c n' l' c' ps ps' lines lines'
same_lines text n l c n' l' c' ps ps' lines lines' opens opens' =
    same_opening n l c n' l' c' ps ps' opens.first opens'.first lines lines' opens.opens opens'.opens (sym opens.parts ∙ opens'.parts)

-- good lines are all that can be read of them
pub all_kept : (lines : List ℕ) (xs : List Sighting) (rest : List ℕ) → AreGood lines → BeginsWithAll lines xs rest → NoSighting rest
    → AreAll lines xs
all_kept lines xs rest (ys, good) read none =
    let left = beyond lines ys xs rest good.0 read in
    subst (AreAll lines) (none_left left.more left.parts left.each) good
  where
    none_left : (more : List Sighting) → ys ≡ xs ++ more → BeginsWithAll rest more [] → ys ≡ xs
    none_left [] parts each = parts ∙ append-nil xs
    none_left (x ∷ more) parts (behind, first, others) = absurd (none x behind first)

-- the text was cut into its first line, of which these are the numbers behind the third, and good lines
pub record IsGood (text : List ℕ) (n l c : ℕ) (behind lines : List ℕ) : Type 0 where
  pub permits : List ℕ
  pub rest : List ℕ
  pub reads : ReadsNumbers behind permits rest
  pub all : field_at rest ≡ None
  pub opens : Opens text n l c permits lines
  pub good : AreGood lines

pub cut_good : (text : List ℕ) (n l c : ℕ) (behind ps rest more : List ℕ) (first lines : Bor (List ℕ)) →
    open_at text ≡ Some (n, l, c, behind) → ReadsNumbers behind ps rest → field_at rest ≡ None → end_at rest ≡ Some more →
    IsSplitOnceResult 10 text (Some (first, lines)) → AreGood lines.now → IsGood text n l c behind lines.now
cut_good text n l c behind ps rest more first lines read reads all ends split good = record {
  permits = ps;
  rest = rest;
  reads = reads;
  all = all;
  opens = opens_split text n l c behind ps rest more first lines read reads ends split;
  good = good;
}

-- what was kept of it is the witness that it spells
pub good_kept : (text : List ℕ) (n l c : ℕ) (behind lines permits after : List ℕ) (xs : List Sighting) (rest : List ℕ) →
    IsGood text n l c behind lines → ReadsNumbers behind permits after → field_at after ≡ None → BeginsWithAll lines xs rest →
    NoSighting rest → SpellsWitness text n l c permits xs
good_kept text n l c behind lines permits after xs rest is reads all read none =
    let same = same_numbers behind is.permits is.rest permits after is.reads is.all reads all in
    record {
      lines = lines;
      opens = subst (λ ps. Opens text n l c ps lines) same is.opens;
      each = all_kept lines xs rest is.good read none;
    }

-- with a permit or a sighting memory is wanted for it
good_wants : (text : List ℕ) (n l c : ℕ) (behind lines : List ℕ) → (is : IsGood text n l c behind lines) →
    0 < length is.permits + length is.good.0 → WantsMemory text
good_wants text n l c behind lines is some = record {
  threads = n;
  locks = l;
  conds = c;
  permits = is.permits;
  xs = is.good.0;
  spells = record { lines = lines; opens = is.opens; each = is.good.1 };
  some = some;
}

-- a semaphore's permits were read, and not kept
pub lacks_permits : (text : List ℕ) (n l c : ℕ) (behind lines : List ℕ) (p : ℕ) (rest : List ℕ) → IsGood text n l c behind lines →
    field_at behind ≡ Some (p, rest) → WantsMemory text
lacks_permits text n l c behind lines p rest is found =
    good_wants text n l c behind lines is (let one = some_number is.permits is.reads in omega (arith, one))
  where
    some_number : (ps : List ℕ) → ReadsNumbers behind ps is.rest → 0 < length ps
    some_number [] same = let both = sym found ∙ ap field_at same ∙ is.all in absurd (cc)
    some_number (q ∷ ps) others = omega arith

-- a sighting was read, and not kept
pub lacks_sightings : (text : List ℕ) (n l c : ℕ) (behind lines : List ℕ) (x : Sighting) (rest : List ℕ) →
    IsGood text n l c behind lines → BeginsWith lines x rest → WantsMemory text
lacks_sightings text n l c behind lines x rest is found =
    good_wants text n l c behind lines is (let one = some_sighting is.good.0 is.good.1.0 in omega (arith, one))
  where
    some_sighting : (xs : List Sighting) → BeginsWithAll lines xs [] → 0 < length xs
    some_sighting [] none = absurd (begins_not_nil x rest (subst (λ t. BeginsWith t x rest) none found))
    some_sighting (y ∷ xs) others = omega arith

pub not_bad : (text : List ℕ) (n l c : ℕ) (ps : List ℕ) (xs : List Sighting) (number : ℕ) → SpellsWitness text n l c ps xs
    → IsFirstBad text number → ⊥
not_bad text n l c ps xs number is (inl bad) = bad.1 n l c ps is.opens.first is.lines is.opens.opens is.opens.parts
not_bad text n l c ps xs number is (inr (n', l', c', ps', lines', opens', bad)) =
    let same = same_lines text n l c n' l' c' ps ps' is.lines lines' is.opens opens' in
    let left = beyond lines' xs bad.xs bad.rest (subst (λ t. BeginsWithAll t xs []) same.rest is.each.0) bad.good in
    none_left left.more left.parts left.each bad.why
  where
    none_left : (more : List Sighting) → xs ≡ bad.xs ++ more → BeginsWithAll bad.rest more []
        → NoSighting bad.rest ⊎ (number ≡ MAX_LINES + 1) → ⊥
    none_left [] parts none why = bad.some none
    none_left (x ∷ more) parts (behind, first, others) (inl none) = none x behind first
    none_left (x ∷ more) parts each (inr last) =
        omega (arith, is.each.1, bad.count, ap length parts, length-append bad.xs (x ∷ more))

pub one_witness : (text : List ℕ) (n l c n' l' c' : ℕ) (ps ps' : List ℕ) (xs xs' : List Sighting) → SpellsWitness text n l c ps xs
    → SpellsWitness text n' l' c' ps' xs' → (n ≡ n') × (l ≡ l') × (c ≡ c') × (ps ≡ ps') × (xs ≡ xs')
one_witness text n l c n' l' c' ps ps' xs xs' is is' =
    let same = same_lines text n l c n' l' c' ps ps' is.lines is'.lines is.opens is'.opens in
    let left = beyond is'.lines xs xs' [] (subst (λ t. BeginsWithAll t xs []) same.rest is.each.0) is'.each.0 in
    (same.threads, same.locks, same.conds, same.permits, same_each left.more left.parts left.each)
  where
    same_each : (more : List Sighting) → xs ≡ xs' ++ more → BeginsWithAll [] more [] → xs ≡ xs'
    same_each [] parts none = parts ∙ append-nil xs'
    same_each (x ∷ more) parts (behind, first, others) = absurd (begins_not_nil x behind first)
