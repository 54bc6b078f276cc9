-- What the steps of a table ask for, from what the calls ask for: the words and the rights are what they are seen as.
use Rattle.std.proofs.Common.{◌≡◌, ℕ, ◌^◌, ◌<◌, ◌⊎◌, List, [], ◌∷◌, ◌++◌, drop, refl, sym, ap, subst, ◌∙◌, ⊎_elim, arith}
use Rattle.atomic_table.specs.Table.{Me, Allows}
use Rattle.atomic_table.specs.Seated.{TableId}
use Rattle.lot_rights.specs.declared.views.PassRight.{PassRight}
use Rattle.lot_rights.specs.declared.views.RootRight.{RootRight}
use Rattle.lot_rights.specs.declared.views.Right.{Right}
use Rattle.lot_rights.specs.declared.views.Right.TheVariants.{Pass, Root}
use Rattle.lot_rights.specs.Layout.{word_at, letter_at}
use Rattle.lot_rights.specs.Rule.{Meaning, Ruled}
use Rattle.lot_rights.specs.Settled.{LinesHaveNoLetter}
use Rattle.lot_rights.specs.Shown.{PassShown, RootShown, WordsShown, right_of_pass, right_of_root, the_pass, the_root}
use Rattle.lot_rights.specs.Steps.{AllowsPass, AllowsBoth, TellsOfTwo, TellsOfRoot, ToldPass, ToldBoth, ToldTwo}
use Rattle.lot_rights.specs.Steps.{ToldFact}
use Rattle.lot_rights.proofs.Stepping.{steps_pass, steps_both, steps_two, steps_fact}

-- a right is of the table whose words are seen with it, and what is allowed with it as it is seen is so with it as it is
pub of_table : {A Key : Type 0} (table : A → TableId) {inside now : WordsShown Key} → inside ≡ now → {mine shown : A} → mine ≡ shown
    → table shown ≡ now.table → table mine ≡ inside.table
of_table table is e here = ap table e ∙ (here ∙ sym (ap (λ (x : WordsShown _). x.table) is))

pub allowed_with : {A Key : Type 0} (Allowed : Key → A → Type 0) {inside now : WordsShown Key} → inside ≡ now → {mine shown : A}
    → mine ≡ shown → Allowed now.key shown → Allowed inside.key mine
allowed_with {A} Allowed {now = now} is {mine} e allows =
    subst (λ (x : WordsShown _). Allowed x.key mine) (sym is) (subst (λ (x : A). Allowed now.key x) (sym e) allows)

module _ {S P R Key : Type 0} (meaning : Key → Meaning S P R) (apart : (key : Key) → LinesHaveNoLetter (meaning key))
    (inside now : WordsShown Key) (is : inside ≡ now) where
  table_is : now.table ≡ inside.table
  table_is = sym (ap (λ (x : WordsShown Key). x.table) is)

  pub word_in_table : (i : ℕ) → i < now.table.words → i < inside.table.words
  word_in_table i near = subst (λ (x : WordsShown Key). i < x.table.words) (sym is) near

  -- a step of one right, which is allowed with it as it is seen
  pub ready_one : {A : Type 0} (table_of : A → TableId) (Allowed : Key → A → Type 0) (mine shown : A) → mine ≡ shown
      → (table : TableId) → table ≡ table_of shown → (id : ℕ) (me : Me S (List (Right P R))) (i : ℕ) (f : ℕ → ℕ)
      (Told : TableId → A → ℕ → Me S (List (Right P R)) → Type 0)
      → (Allowed inside.key mine → Allows (Ruled (meaning inside.key)) inside.table.slots id me i f (Told (table_of mine) mine))
      → table_of shown ≡ now.table → i < now.table.words → Allowed now.key shown
      → (table_of mine ≡ inside.table) × (i < inside.table.words)
      × Allows (Ruled (meaning inside.key)) inside.table.slots id me i f (Told table mine)
  ready_one table_of Allowed mine shown e table named id me i f Told steps here near allows = (
    of_table table_of is e here,
    word_in_table i near,
    subst (λ t. Allows (Ruled (meaning inside.key)) inside.table.slots id me i f (Told t mine)) (ap table_of e ∙ sym named)
        (steps (allowed_with Allowed is e allows)),
  )

  pub ready_pass : (mine shown : PassShown P) → mine ≡ shown → (table : TableId) → table ≡ shown.table
      → (id : ℕ) (me : Me S (List (Right P R))) → me ≡ (Pass (right_of_pass mine) ∷ [], [])
      → (i : ℕ) (f : ℕ → ℕ) (then : ℕ → PassShown P → Type 0)
      → shown.table ≡ now.table → i < now.table.words → AllowsPass (meaning now.key) i f shown then
      → (mine.table ≡ inside.table) × (i < inside.table.words)
      × Allows (Ruled (meaning inside.key)) inside.table.slots id me i f (ToldPass table (right_of_pass mine) then)
  ready_pass mine shown e table named id me one i f then =
      ready_one (λ (x : PassShown P). x.table) (λ key x. AllowsPass (meaning key) i f x then) mine shown e table named id me i f
      (λ t x. ToldPass t (right_of_pass x) then)
      (steps_pass (meaning inside.key) (apart inside.key) inside.table.slots id me mine i f then one)

  -- the pass p and the root q at one seat; `nobody` and `nothing` stand for what no pass and no root knows
  pub ready_both : (nobody : P) (nothing : R) (p : PassShown P) (q : RootShown R) → q.table ≡ p.table
      → (named : TableId) → named ≡ p.table → (table : TableId) → table ≡ now.table
      → (id : ℕ) (me : Me S (List (Right P R))) → me ≡ (Pass (right_of_pass p) ∷ Root (right_of_root q) ∷ [], [])
      → (i : ℕ) (f : ℕ → ℕ) (then : ℕ → PassShown P → RootShown R → Type 0) → i < now.table.words
      → AllowsBoth (meaning now.key) i f p q then
      → (table ≡ inside.table) × (i < inside.table.words)
      × Allows (Ruled (meaning inside.key)) inside.table.slots id me i f
      (ToldBoth named (the_pass nobody me.0) (the_root nothing (drop 1 me.0)) then)
  ready_both nobody nothing p q beside named name table e id me both i f then near allows =
      let allowed : AllowsBoth (meaning inside.key) i f p q then =
      subst (λ (x : WordsShown Key). AllowsBoth (meaning x.key) i f p q then) (sym is) allows in (
        e ∙ table_is,
        word_in_table i near,
        subst
            (λ (m : Me S (List (Right P R))). Allows (Ruled (meaning inside.key)) inside.table.slots id m i f
            (ToldBoth named (the_pass nobody m.0) (the_root nothing (drop 1 m.0)) then)) (sym both)
            (subst (λ t. Allows (Ruled (meaning inside.key)) inside.table.slots id
            (Pass (right_of_pass p) ∷ Root (right_of_root q) ∷ [], []) i f (ToldBoth t (right_of_pass p) (right_of_root q) then)) (sym name)
            (steps_both (meaning inside.key) (apart inside.key) inside.table.slots id
            (Pass (right_of_pass p) ∷ Root (right_of_root q) ∷ [], []) p q beside i f then refl allowed)),
      )

  -- the passes p and q at one seat
  pub ready_two : (nobody : P) (p q : PassShown P) (table : TableId) → table ≡ inside.table → 0 < inside.table.words
      → (id : ℕ) (me : Me S (List (Right P R))) → me ≡ (Pass (right_of_pass p) ∷ Pass (right_of_pass q) ∷ [], [])
      → (fact : Type 0) → TellsOfTwo (meaning now.key) p q fact
      → (table ≡ inside.table) × (0 < inside.table.words)
      × Allows (Ruled (meaning inside.key)) inside.table.slots id me 0 (λ n. n)
      (λ _ me'. ToldTwo (the_pass nobody me.0) (the_pass nobody (drop 1 me.0)) fact me me')
  ready_two nobody p q table e some id me two fact tells =
      let told : TellsOfTwo (meaning inside.key) p q fact =
      subst (λ (x : WordsShown Key). TellsOfTwo (meaning x.key) p q fact) (sym is) tells in (
        e,
        some,
        subst (λ (m : Me S (List (Right P R))). Allows (Ruled (meaning inside.key)) inside.table.slots id m 0 (λ n. n)
            (λ _ me'. ToldTwo (the_pass nobody m.0) (the_pass nobody (drop 1 m.0)) fact m me')) (sym two)
            (steps_two (meaning inside.key) (apart inside.key) inside.table.slots id
            (Pass (right_of_pass p) ∷ Pass (right_of_pass q) ∷ [], []) p q 0 fact refl told),
      )

  pub ready_fact : (mine shown : RootShown R) → mine ≡ shown → shown.table ≡ now.table → 0 < inside.table.words
      → (id : ℕ) (me : Me S (List (Right P R))) → me ≡ (Root (right_of_root mine) ∷ [], [])
      → (fact : Type 0) → TellsOfRoot (meaning now.key) shown fact
      → (mine.table ≡ inside.table) × (0 < inside.table.words)
      × Allows (Ruled (meaning inside.key)) inside.table.slots id me 0 (λ n. n) (λ _ me'. ToldFact fact me me')
  ready_fact mine shown e here some id me one fact tells =
      let own = allowed_with (λ key x. TellsOfRoot (meaning key) x fact) is e tells in (
        of_table (λ (x : RootShown _). x.table) is e here,
        some,
        steps_fact (meaning inside.key) (apart inside.key) inside.table.slots id me mine 0 fact one own,
      )

-- ---- a root after its step
module _ {S P R : Type 0} (nothing : R) (names : R → ℕ → Type 0) (mine shown : RootShown R) (is : mine ≡ shown)
    (told : ℕ → ℕ) (number_is : told mine.key ≡ mine.key)
    (near : word_at mine.key < mine.table.words) (small : mine.table.words < 2 ^ 64)
    (letters : (u : ℕ) → names mine.own u → letter_at u < mine.table.words) (table : TableId) (same : table ≡ mine.table)
    (me : Me S (List (Right P R))) (q : RootRight R) (its : q.key ≡ mine.key) (e : me ≡ (Root q ∷ [], []))
    (few : (u : ℕ) → names q.own u → names shown.own u) where
  root_is : the_root nothing me.0 ≡ q
  root_is = ap (λ (m : Me S (List (Right P R))). the_root nothing m.0) e

  same_key : (the_root nothing me.0).key ≡ mine.key
  same_key = ap (λ (z : RootRight R). z.key) root_is ∙ its

  pub root_stands : (me ≡ (Root (the_root nothing me.0) ∷ [], [])) × ((told (the_root nothing me.0).key ≡ (the_root nothing me.0).key)
      × (word_at (the_root nothing me.0).key < table.words
      × (table.words < 2 ^ 64 × (((u : ℕ) → names (the_root nothing me.0).own u → letter_at u < table.words) × Unit {0}))))
  root_stands =
      let words : table.words ≡ mine.table.words = ap (λ (z : TableId). z.words) same in (
        subst (λ (m : Me S (List (Right P R))). m ≡ (Root (the_root nothing m.0) ∷ [], [])) (sym e) refl,
        (
          subst (λ k. told k ≡ k) (sym same_key) number_is,
          (
            omega (arith, subst (λ k. word_at k < mine.table.words) (sym same_key) near, words),
            (
              omega (arith, small, words),
              (
                (λ u h.
                    omega (
                      arith,
                      words,
                      letters u
                          (subst (λ (z : RootShown R). names z.own u) (sym is)
                          (few u (subst (λ (z : RootRight R). names z.own u) root_is h))),
                    )),
                tt,
              ),
            ),
          ),
        ),
      )

-- ---- a pass and a root at one seat
module _ {S P R : Type 0} (nobody : P) (nothing : R) where
  abbrev First : Me S (List (Right P R)) → PassRight P
  First me = the_pass nobody me.0

  abbrev Second : Me S (List (Right P R)) → RootRight R
  Second me = the_root nothing (drop 1 me.0)

  pub both_at : (me : Me S (List (Right P R))) (p : PassRight P) (q : RootRight R) → me ≡ (Pass p ∷ Root q ∷ [], [])
      → me ≡ (Pass (First me) ∷ Root (Second me) ∷ [], [])
  both_at me p q e = subst (λ (m : Me S (List (Right P R))). m ≡ (Pass (First m) ∷ Root (Second m) ∷ [], [])) (sym e) refl

  pub second_is : (me : Me S (List (Right P R))) (p : PassRight P) (q : RootRight R) → me ≡ (Pass p ∷ Root q ∷ [], []) → Second me ≡ q
  second_is me p q e = ap Second e

  -- whom the root names then, its letter lies in the table too
  pub letters_after : (names : R → ℕ → Type 0) (was : RootShown R) (t words words' : ℕ) → words' ≡ words
      → ((u : ℕ) → names was.own u → letter_at u < words) → letter_at t < words
      → (me : Me S (List (Right P R))) (p : PassRight P) (q : RootRight R) → me ≡ (Pass p ∷ Root q ∷ [], [])
      → ((u : ℕ) → names q.own u → names was.own u ⊎ (u ≡ t))
      → (u : ℕ) → names (Second me).own u → letter_at u < words'
  letters_after names was t words words' same near mine me p q e names_few u h =
      ⊎_elim {C = letter_at u < words'} (λ old. omega (arith, near u old)) (λ new. omega (arith, mine))
      (names_few u (subst (λ (z : RootRight R). names z.own u) (second_is me p q e) h))

-- ---- rights as they are shown, and two passes at one seat
pub one_shown : {S A B : Type 0} (right : A → B) (me : Me S (List B)) (mine shown : A) → mine ≡ shown → me ≡ (right mine ∷ [], [])
    → me ≡ (right shown ∷ [], [])
one_shown {A = A} right me mine shown is e = subst (λ (x : A). me ≡ (right x ∷ [], [])) is e

module _ {S P R : Type 0} where
  pub two_joined : (a b me : Me S (List (Right P R))) (p q : PassRight P) → a ≡ (Pass p ∷ [], []) → b ≡ (Pass q ∷ [], [])
      → me ≡ (a.0 ++ b.0, a.1) → me ≡ (Pass p ∷ Pass q ∷ [], [])
  two_joined a b me p q ea eb e = e ∙ (λ j. ((ea j).0 ++ (eb j).0, (ea j).1))
