-- The line that opens a script: read, it is spelled so, and spelled so, it is read.
use Rattle.std.proofs.Common.{◌≡◌, ◌<◌, ◌++◌, ℕ, List, [], ◌∷◌, length, length-append, arith, Some, None, refl, sym, ap, ◌∙◌, subst}
use Rattle.std.proofs.Common.{append_assoc}
use Rattle.std.specs.Prelude.{codes, flat_map}
use Rattle.std.specs.List.{AllByRecursion}
use Rattle.lot_core.specs.Script.{field, line, IsSmall, Opening, NoOpening}
use Rattle.lot_core.specs.Reading.{rest_behind, field_at, end_at, open_at, ReadsNumbers}
use Rattle.lot_events.proofs.Figures.{bind_is, bind_some, some_is, Ends, field_takes, field_again, end_takes, end_again}
use Rattle.lot_events.proofs.Spelled.{rest_behind_takes, regroup, its_line, fields_end}

-- numbers that were read are spelled
pub numbers_take : (text numbers rest : List ℕ) → ReadsNumbers text numbers rest → AllByRecursion IsSmall numbers
    × (text ≡ flat_map field numbers ++ rest)
numbers_take text [] rest is = (tt, is)
numbers_take text (n ∷ numbers) rest (behind, is, more) =
    let first = field_takes text n behind is in
    let others = numbers_take behind numbers rest more in
    ((first.0, others.0), first.1 ∙ ap (λ r. field n ++ r) others.1 ∙ sym (append_assoc (field n) (flat_map field numbers) rest))

-- one more number was read
pub numbers_push : (text numbers rest : List ℕ) (n : ℕ) (behind : List ℕ) → ReadsNumbers text numbers rest
    → field_at rest ≡ Some (n, behind) →
    ReadsNumbers text (numbers ++ n ∷ []) behind
numbers_push text [] rest n behind same is = (behind, ap field_at same ∙ is, refl)
numbers_push text (m ∷ numbers) rest n behind (after, reads, others) is = (after, reads, numbers_push after numbers rest n behind others is)

pub number_shorter : (text : List ℕ) (n : ℕ) (rest : List ℕ) → field_at text ≡ Some (n, rest) → length rest < length text
number_shorter text n rest is =
    let parts = (field_takes text n rest is).1 in
    omega (arith, ap length parts, length-append (field n) rest)

-- and numbers that are spelled are read, up to the end of the line
pub number_again : (n : ℕ) (numbers more : List ℕ) → AllByRecursion IsSmall (n ∷ numbers) →
    field_at (flat_map field (n ∷ numbers) ++ (10 ∷ more)) ≡ Some (n, flat_map field numbers ++ (10 ∷ more))
number_again n numbers more small =
    ap field_at (append_assoc (field n) (flat_map field numbers) (10 ∷ more))
    ∙ field_again n (flat_map field numbers ++ (10 ∷ more)) small.0 (fields_end numbers more)

pub numbers_again : (numbers more : List ℕ) → AllByRecursion IsSmall numbers
    → ReadsNumbers (flat_map field numbers ++ (10 ∷ more)) numbers (10 ∷ more)
numbers_again [] more small = refl
numbers_again (n ∷ numbers) more small = (
  flat_map field numbers ++ (10 ∷ more),
  number_again n numbers more small,
  numbers_again numbers more small.1,
)

pub none_at_end : (more : List ℕ) → field_at (10 ∷ more) ≡ None
unfolding field_at
none_at_end more = refl

-- what was read until no number follows is what is spelled up to the end of the line
pub one_reading : (text numbers rest spelled more : List ℕ) → ReadsNumbers text numbers rest → field_at rest ≡ None →
    AllByRecursion IsSmall spelled → text ≡ flat_map field spelled ++ (10 ∷ more) → (numbers ≡ spelled) × (rest ≡ 10 ∷ more)
one_reading text [] rest [] more same none small is = (refl, sym same ∙ is)
one_reading text [] rest (p ∷ spelled) more same none small is =
    let some = sym none ∙ ap field_at (sym same ∙ is) ∙ number_again p spelled more small in absurd (cc)
one_reading text (n ∷ numbers) rest [] more (behind, reads, others) none small is =
    let some = sym reads ∙ ap field_at is ∙ none_at_end more in absurd (cc)
one_reading text (n ∷ numbers) rest (p ∷ spelled) more (behind, reads, others) none small is =
    let both = some_is (n, behind) (p, flat_map field spelled ++ (10 ∷ more)) (sym reads ∙ ap field_at is
    ∙ number_again p spelled more small) in
    let next = one_reading behind numbers rest spelled more others none small.1 (ap (λ (y : ℕ × List ℕ). y.1) both) in
    (ap (λ k. k ∷ numbers) (ap (λ (y : ℕ × List ℕ). y.0) both) ∙ ap (λ ns. p ∷ ns) next.0, next.1)

-- a first line, taken apart
pub opening_parts : (n l c : ℕ) (ps first more : List ℕ) → Opening first n l c ps →
    first ++ more ≡ codes "open" ++ (field n ++ (field l ++ (field c ++ (flat_map field ps ++ (10 ∷ more)))))
opening_parts n l c ps first more is =
    ap (λ front. front ++ more) is.text_is
    ∙ regroup (codes "open") (field n) (field l) (field c ++ flat_map field ps) more
    ∙ ap (λ r. codes "open" ++ (field n ++ (field l ++ r))) (append_assoc (field c) (flat_map field ps) (10 ∷ more))

pub open_takes : (text : List ℕ) (n l c : ℕ) (rest : List ℕ) → open_at text ≡ Some (n, l, c, rest) →
    AllByRecursion IsSmall (n ∷ l ∷ c ∷ []) × (text ≡ codes "open" ++ (field n ++ (field l ++ (field c ++ rest))))
unfolding open_at
open_takes text n l c rest is =
    let behind = bind_some _ (rest_behind (codes "open") text) (n, l, c, rest) is in
    let threads = bind_some _ (field_at behind.0) (n, l, c, rest) behind.2 in
    let locks = bind_some _ (field_at threads.0.1) (n, l, c, rest) threads.2 in
    let conds = bind_some _ (field_at locks.0.1) (n, l, c, rest) locks.2 in
    let t = field_takes behind.0 threads.0.0 threads.0.1 threads.1 in
    let k = field_takes threads.0.1 locks.0.0 locks.0.1 locks.1 in
    let m = field_takes locks.0.1 conds.0.0 conds.0.1 conds.1 in
    let all = some_is (threads.0.0, locks.0.0, conds.0.0, conds.0.1) (n, l, c, rest) conds.2 in
    let parts : text ≡ codes "open" ++ (field threads.0.0 ++ (field locks.0.0 ++ (field conds.0.0 ++ conds.0.1))) =
    rest_behind_takes (codes "open") text behind.0 behind.1
    ∙ ap (λ r. codes "open" ++ r)
    (t.1 ∙ ap (λ r. field threads.0.0 ++ r)
    (k.1 ∙ ap (λ r. field locks.0.0 ++ r) m.1)) in
    subst (λ (y : ℕ × ℕ × ℕ × List ℕ). AllByRecursion IsSmall (y.0 ∷ y.1 ∷ y.2 ∷ [])
    × (text ≡ codes "open" ++ (field y.0 ++ (field y.1 ++ (field y.2 ++ y.3))))) all
    ((t.0, (k.0, (m.0, tt))), parts)

pub open_word : (rest : List ℕ) → rest_behind (codes "open") (codes "open" ++ rest) ≡ Some rest
unfolding rest_behind
open_word rest = refl

pub open_again : (n l c : ℕ) (rest : List ℕ) → AllByRecursion IsSmall (n ∷ l ∷ c ∷ []) → Ends rest →
    open_at (codes "open" ++ (field n ++ (field l ++ (field c ++ rest)))) ≡ Some (n, l, c, rest)
unfolding open_at
open_again n l c rest small ends =
    let text : List ℕ = field n ++ (field l ++ (field c ++ rest)) in
    bind_is _ (rest_behind (codes "open") (codes "open" ++ text)) text _ (open_word text)
    (bind_is _ (field_at text) (n, field l ++ (field c ++ rest)) _ (field_again n (field l ++ (field c ++ rest)) small.0 refl)
    (bind_is _ (field_at (field l ++ (field c ++ rest))) (l, field c ++ rest) _ (field_again l (field c ++ rest) small.1.0 refl)
    (bind_is _ (field_at (field c ++ rest)) (c, rest) _ (field_again c rest small.1.1.0 ends) refl)))

-- the line that opens a script is read up to its permits
pub opening_again : (text : List ℕ) (n l c : ℕ) (ps first more : List ℕ) → Opening first n l c ps → text ≡ first ++ more →
    open_at text ≡ Some (n, l, c, flat_map field ps ++ (10 ∷ more))
opening_again text n l c ps first more is parts =
    ap open_at (parts ∙ opening_parts n l c ps first more is)
    ∙ open_again n l c (flat_map field ps ++ (10 ∷ more)) (is.small.0, (is.small.1.0, (is.small.1.1.0, tt))) (fields_end ps more)

pub no_opening : (text : List ℕ) → open_at text ≡ None → NoOpening text
no_opening text none n l c ps first more is parts =
    let read = sym none ∙ opening_again text n l c ps first more is parts in absurd (cc)

-- what was read of the numbers began with one, where another was found behind them
pub first_number : (text numbers rest : List ℕ) (n : ℕ) (behind : List ℕ) → ReadsNumbers text numbers rest
    → field_at rest ≡ Some (n, behind) →
    (p : ℕ) × (after : List ℕ) × (field_at text ≡ Some (p, after))
first_number text [] rest n behind same is = (n, behind, ap field_at same ∙ is)
first_number text (m ∷ numbers) rest n behind (after, reads, others) is = (m, after, reads)

-- what is read until no number follows is one list
pub same_numbers : (text numbers rest numbers' rest' : List ℕ) → ReadsNumbers text numbers rest → field_at rest ≡ None →
    ReadsNumbers text numbers' rest' → field_at rest' ≡ None → numbers ≡ numbers'
same_numbers text [] rest [] rest' is none is' none' = refl
same_numbers text [] rest (m ∷ numbers') rest' is none (behind, reads, others) none' =
    let some = sym none ∙ ap field_at (sym is) ∙ reads in absurd (cc)
same_numbers text (n ∷ numbers) rest [] rest' (behind, reads, others) none is' none' =
    let some = sym none' ∙ ap field_at (sym is') ∙ reads in absurd (cc)
same_numbers text (n ∷ numbers) rest (m ∷ numbers') rest' (behind, reads, others) none (behind', reads', others') none' =
    let both = some_is (n, behind) (m, behind') (sym reads ∙ reads') in
    ap (λ k. k ∷ numbers) (ap (λ (y : ℕ × List ℕ). y.0) both)
    ∙ ap (λ ns. m ∷ ns)
    (same_numbers behind numbers rest numbers' rest' others none
    (subst (λ t. ReadsNumbers t numbers' rest') (sym (ap (λ (y : ℕ × List ℕ). y.1) both)) others') none')

-- where something else than the end of the line stands behind the numbers
pub no_end : (text : List ℕ) (n l c : ℕ) (behind numbers rest : List ℕ) → open_at text ≡ Some (n, l, c, behind)
    → ReadsNumbers behind numbers rest →
    field_at rest ≡ None → end_at rest ≡ None → NoOpening text
no_end text n l c behind numbers rest opens reads none no_line n' l' c' ps first more is parts =
    let both = some_is (n, l, c, behind) (n', l', c', flat_map field ps ++ (10 ∷ more))
    (sym opens ∙ opening_again text n' l' c' ps first more is parts) in
    let same = one_reading behind numbers rest ps more reads none is.small.1.1.1 (ap (λ (y : ℕ × ℕ × ℕ × List ℕ). y.3) both) in
    let ends = sym no_line ∙ ap end_at same.1 ∙ end_again more in absurd (cc)

-- the whole first line was read
pub opening_takes : (text : List ℕ) (n l c : ℕ) (behind numbers rest more : List ℕ) → open_at text ≡ Some (n, l, c, behind) →
    ReadsNumbers behind numbers rest → end_at rest ≡ Some more →
    Opening (line (codes "open") (n ∷ l ∷ c ∷ numbers)) n l c numbers × (text ≡ line (codes "open") (n ∷ l ∷ c ∷ numbers) ++ more)
opening_takes text n l c behind numbers rest more opens reads ends =
    let first = open_takes text n l c behind opens in
    let others = numbers_take behind numbers rest reads in
    let is : Opening (line (codes "open") (n ∷ l ∷ c ∷ numbers)) n l c numbers =
    its_line (codes "open") (n ∷ l ∷ c ∷ numbers) (first.0.0, (first.0.1.0, (first.0.1.1.0, others.0))) in
    let behind_is : behind ≡ flat_map field numbers ++ (10 ∷ more) =
    others.1 ∙ ap (λ r. flat_map field numbers ++ r) (end_takes rest more ends) in (
      is,
      first.1 ∙ ap (λ r. codes "open" ++ (field n ++ (field l ++ (field c ++ r)))) behind_is
          ∙ sym (opening_parts n l c numbers (line (codes "open") (n ∷ l ∷ c ∷ numbers)) more is),
    )

-- a text has one first line
pub record SameOpening (n l c n' l' c' : ℕ) (ps ps' more more' : List ℕ) : Type 0 where
  pub threads : n ≡ n'
  pub locks : l ≡ l'
  pub conds : c ≡ c'
  pub permits : ps ≡ ps'
  pub rest : more ≡ more'

pub same_opening : (n l c n' l' c' : ℕ) (ps ps' first first' more more' : List ℕ) → Opening first n l c ps → Opening first' n' l' c' ps' →
    first ++ more ≡ first' ++ more' → SameOpening n l c n' l' c' ps ps' more more'
same_opening n l c n' l' c' ps ps' first first' more more' is is' parts =
    let behind : List ℕ = flat_map field ps ++ (10 ∷ more) in
    let both = some_is (n, l, c, behind) (n', l', c', flat_map field ps' ++ (10 ∷ more'))
    (sym (opening_again (first ++ more) n l c ps first more is refl) ∙ opening_again (first ++ more) n' l' c' ps' first' more' is' parts) in
    let same = one_reading behind ps (10 ∷ more) ps' more' (numbers_again ps more is.small.1.1.1) (none_at_end more) is'.small.1.1.1
    (ap (λ (y : ℕ × ℕ × ℕ × List ℕ). y.3) both) in
    record {
      threads = ap (λ (y : ℕ × ℕ × ℕ × List ℕ). y.0) both;
      locks = ap (λ (y : ℕ × ℕ × ℕ × List ℕ). y.1) both;
      conds = ap (λ (y : ℕ × ℕ × ℕ × List ℕ). y.2) both;
      permits = same.0;
      rest = let lines : 10 ∷ more ≡ 10 ∷ more' = same.1 in cc;
    }
