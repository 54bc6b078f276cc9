-- The semaphores of a `Semaphores`, one by one.
use Rattle.std.proofs.Common.{zero, suc, inl, inr, ◌≡◌, ◌≢◌, ◌<◌, ◌≤◌, ◌+◌, ◌-◌, ◌++◌, ℕ, Bool, false, List, [], ◌∷◌, length, get_or, map}
use Rattle.std.proofs.Common.{set, take, replicate, refl, sym, ap, ◌∙◌, arith, subst}
use Rattle.std.specs.Prelude.{sum, if◌then◌else◌}
use Rattle.std.specs.List.{All}
use Rattle.std.proofs.lemmas.List.{length-map, length-set, length-replicate, map-append, take_more, take_all}
use Rattle.std.proofs.lemmas.Bool.{cases_lt, ne_eqb}
use Rattle.std.proofs.lemmas.List.Elements.{All-push}
use Rattle.lot_core.specs.declared.semaphores.Semaphore.{Semaphore}
use Rattle.lot_core.specs.declared.semaphores.Semaphores.{Semaphores as Row}
use Rattle.lot_core.specs.Sums.{total}
use Rattle.lot_core.specs.Rows.{row, row_from}
use Rattle.lot_core.specs.Lines.{line_of, no_lines}
use Rattle.lot_core.specs.Model.{Semaphores, put, none_taken}
use Rattle.lot_core.specs.Steps.{with_sem_parked, permit_given, permit_taken}
use Rattle.lot_core.specs.Sound.{PermitsConserved}
use Rattle.lot_core.specs.Semaphores.{semaphores_of, permits_of, HasSemaphore}
use Rattle.lot_core.proofs.Rows.{row_at, row_set, row_none, row_from_before, row_from_past, told_item, told_write, told_rewrite, told_none}
use Rattle.lot_core.proofs.Rows.{none_more}
use Rattle.lot_core.proofs.Sums.{total_row, total_none}

-- what a list of semaphores stands for
abbrev pub rows : ℕ → List Semaphore → (ℕ → List ℕ) → Semaphores
rows first_sem xs line =
    record {
      left = row_from 0 first_sem (map (λ m. m.left) xs);
      parked = row_from false first_sem (map (λ m. m.parked) xs);
      line = line;
      out = row_from (λ t. 0) first_sem (map (λ m. row 0 m.out.items) xs);
    }

-- the permits of one semaphore are written
pub rows_moved : (first_sem : ℕ) (xs : List Semaphore) (line : ℕ → List ℕ) (k t a b : ℕ) (old new : Semaphore) → first_sem ≤ k
    → k - first_sem < length xs →
    old ≡ get_or xs (k - first_sem) old → new.parked ≡ old.parked → new.left ≡ a → new.out.items ≡ set old.out.items t b
    → t < length old.out.items →
    rows first_sem (set xs (k - first_sem) new) line
    ≡ (let z = rows first_sem xs line in record z { left = put z.left k a; out = put z.out k (put (z.out k) t b) })
rows_moved first_sem xs line k t a b old new from within is parked left out near =
    let z = rows first_sem xs line in
    let item : z.out k ≡ row 0 old.out.items = told_item (λ m. row 0 m.out.items) (λ t. 0) first_sem xs k old from within is in
    let outs : row 0 new.out.items ≡ put (z.out k) t b =
    ap (row 0) out ∙ row_set 0 old.out.items t b near ∙ ap (λ (f : ℕ → ℕ). put f t b) (sym item) in
    ap (λ (f : ℕ → ℕ). let y : Semaphores = record (rows first_sem (set xs (k - first_sem) new) line) { left = f } in y)
    (told_write (λ m. m.left) 0 first_sem xs k new from within ∙ ap (put z.left k) left)
    ∙ ap (λ (f : ℕ → Bool). let y : Semaphores =
    record (rows first_sem (set xs (k - first_sem) new) line) { left = put z.left k a; parked = f } in y)
    (told_rewrite (λ m. m.parked) false first_sem xs k old new from within is parked)
    ∙ ap (λ (f : ℕ → ℕ → ℕ). let y : Semaphores = record z { left = put z.left k a; out = f } in y)
    (told_write (λ m. row 0 m.out.items) (λ t. 0) first_sem xs k new from within ∙ ap (put z.out k) outs)

-- its parked bit is written
pub rows_parked : (first_sem : ℕ) (xs : List Semaphore) (line : ℕ → List ℕ) (k : ℕ) (old new : Semaphore) → first_sem ≤ k
    → k - first_sem < length xs →
    old ≡ get_or xs (k - first_sem) old → new.left ≡ old.left → new.out.items ≡ old.out.items →
    rows first_sem (set xs (k - first_sem) new) line ≡ with_sem_parked (rows first_sem xs line) k new.parked
rows_parked first_sem xs line k old new from within is left out =
    let z = rows first_sem xs line in
    ap (λ (f : ℕ → ℕ). let y : Semaphores = record (rows first_sem (set xs (k - first_sem) new) line) { left = f } in y)
    (told_rewrite (λ m. m.left) 0 first_sem xs k old new from within is left)
    ∙ ap (λ (f : ℕ → Bool). let y : Semaphores =
    record (rows first_sem (set xs (k - first_sem) new) line) { left = z.left; parked = f } in y)
    (told_write (λ m. m.parked) false first_sem xs k new from within)
    ∙ ap (λ (f : ℕ → ℕ → ℕ). let y : Semaphores = record z { parked = put z.parked k new.parked; out = f } in y)
    (told_rewrite (λ m. row 0 m.out.items) (λ t. 0) first_sem xs k old new from within is (ap (row 0) out))

-- what is told of the semaphore that was found
pub item_left : (s : Row) (k : ℕ) (m : Semaphore) → HasSemaphore s k → m ≡ get_or s.items.items (k - s.first_sem) m
    → (semaphores_of s).left k ≡ m.left
item_left s k m has is = told_item (λ m. m.left) 0 s.first_sem s.items.items k m has.0 has.1 is

pub item_out : (s : Row) (k t : ℕ) (m : Semaphore) → HasSemaphore s k → m ≡ get_or s.items.items (k - s.first_sem) m
    → (semaphores_of s).out k t ≡ get_or m.out.items t 0
item_out s k t m has is =
    ap (λ (f : ℕ → ℕ). f t) (told_item (λ m. row 0 m.out.items) (λ t. 0) s.first_sem s.items.items k m has.0 has.1 is)
    ∙ row_at 0 m.out.items t

pub item_wide : (s : Row) (k : ℕ) (m : Semaphore) → HasSemaphore s k → m ≡ get_or s.items.items (k - s.first_sem) m
    → length m.out.items ≡ s.threads
item_wide s k m has is = subst (λ x. length x.out.items ≡ s.threads) (sym is) (s.out_each (k - s.first_sem) m has.1)

-- a permit that was given back, and one that was taken
pub give_write : (s : Row) (k t : ℕ) (m new : Semaphore) → HasSemaphore s k → t < s.threads → m ≡ get_or s.items.items (k - s.first_sem) m →
    new.parked ≡ m.parked → new.left ≡ m.left + 1 → new.out.items ≡ set m.out.items t (get_or m.out.items t 0 - 1) →
    rows s.first_sem (set s.items.items (k - s.first_sem) new) (line_of s.lines) ≡ permit_given (semaphores_of s) t k
give_write s k t m new has near is parked left out =
    rows_moved s.first_sem s.items.items (line_of s.lines) k t _ _ m new has.0 has.1 is parked
    (left ∙ ap (λ n. n + 1) (sym (item_left s k m has is)))
    (out ∙ ap (λ n. set m.out.items t (n - 1)) (sym (item_out s k t m has is)))
    (omega (arith, item_wide s k m has is))

pub take_write : (s : Row) (k t : ℕ) (m new : Semaphore) → HasSemaphore s k → t < s.threads → m ≡ get_or s.items.items (k - s.first_sem) m →
    (semaphores_of s).left k ≢ 0 →
    new.parked ≡ m.parked → new.left ≡ m.left - 1 → new.out.items ≡ set m.out.items t (get_or m.out.items t 0 + 1) →
    rows s.first_sem (set s.items.items (k - s.first_sem) new) (line_of s.lines) ≡ permit_taken (semaphores_of s) t k
take_write s k t m new has near is some parked left out =
    let z = semaphores_of s in
    rows_moved s.first_sem s.items.items (line_of s.lines) k t _ _ m new has.0 has.1 is parked
    (left ∙ ap (λ n. n - 1) (sym (item_left s k m has is)))
    (out ∙ ap (λ n. set m.out.items t (n + 1)) (sym (item_out s k t m has is)))
    (omega (arith, item_wide s k m has is))
    ∙ ap (λ b. if b then z else record z { left = put z.left k (z.left k - 1); out = put z.out k (put (z.out k) t (z.out k t + 1)) })
    (sym (ne_eqb (z.left k) 0 some))

-- what no event changes
pub numbers_kept : (first_sem : ℕ) (xs : List Semaphore) (k : ℕ) (old new : Semaphore) → first_sem ≤ k → k - first_sem < length xs →
    old ≡ get_or xs (k - first_sem) old → new.permits ≡ old.permits →
    (length (set xs (k - first_sem) new) ≡ length xs)
    × (row_from 0 first_sem (map (λ m. m.permits) (set xs (k - first_sem) new)) ≡ row_from 0 first_sem (map (λ m. m.permits) xs))
numbers_kept first_sem xs k old new from within is same =
    (length-set xs (k - first_sem) new, told_rewrite (λ m. m.permits) 0 first_sem xs k old new from within is same)

-- the permits that are out are those that are not left
pub all_out_is : (s : Row) (k : ℕ) (m : Semaphore) → HasSemaphore s k → m ≡ get_or s.items.items (k - s.first_sem) m →
    m.permits - m.left ≡ total s.threads ((semaphores_of s).out k)
all_out_is s k m has is =
    let item : (semaphores_of s).out k ≡ row 0 m.out.items =
    told_item (λ m. row 0 m.out.items) (λ t. 0) s.first_sem s.items.items k m has.0 has.1 is in
    let left : m.permits - m.left ≡ sum m.out.items = omega (arith, m.conserved) in
    left ∙ sym (total_row m.out.items s.threads (item_wide s k m has is)) ∙ ap (total s.threads) (sym item)

-- an element that there is
pub element : {X : Type 0} (xs : List X) (i : ℕ) → i < length xs → (x : X) × (x ≡ get_or xs i x)
element [] i within = absurd (omega arith)
element (x ∷ xs) zero within = (x, refl)
element (x ∷ xs) (suc i) within = element xs i (omega arith)

-- permits are conserved by the shape of a semaphore
pub conserved : (s : Row) → PermitsConserved s.threads (permits_of s) (semaphores_of s)
conserved s k = elim (cases_lt k s.first_sem) [
  | inl before ↦ none (row_from_before 0 s.first_sem _ k before) (row_from_before (λ t. 0) s.first_sem _ k before)
      (row_from_before 0 s.first_sem _ k before)
  | inr from ↦ elim (cases_lt (k - s.first_sem) (length s.items.items)) [
    | inl within ↦ of (element s.items.items (k - s.first_sem) within) from within
    | inr past ↦
        none (row_from_past 0 s.first_sem _ k (rw length-map (omega arith)))
        (row_from_past (λ t. 0) s.first_sem _ k (rw length-map (omega arith)))
        (row_from_past 0 s.first_sem _ k (rw length-map (omega arith)))
  ]
]
  where
    none : (semaphores_of s).left k ≡ 0 → (semaphores_of s).out k ≡ (λ t. 0) → permits_of s k ≡ 0 →
        (semaphores_of s).left k + total s.threads ((semaphores_of s).out k) ≡ permits_of s k
    none left out permits = omega (arith, ap (total s.threads) out, total_none s.threads)

    of : (m : Semaphore) × (m ≡ get_or s.items.items (k - s.first_sem) m) → s.first_sem ≤ k → k - s.first_sem < length s.items.items →
        (semaphores_of s).left k + total s.threads ((semaphores_of s).out k) ≡ permits_of s k
    of (m, is) from within =
        let out : (semaphores_of s).out k ≡ row 0 m.out.items =
        told_item (λ m. row 0 m.out.items) (λ t. 0) s.first_sem s.items.items k m from within is in
        let permits : permits_of s k ≡ m.permits = told_item (λ m. m.permits) 0 s.first_sem s.items.items k m from within is in
        omega (
          arith,
          item_left s k m (from, within) is,
          ap (total s.threads) out,
          total_row m.out.items s.threads (item_wide s k m (from, within) is),
          m.conserved,
        )

-- semaphores that were made with these numbers of permits, and not used
pub record AreNew (threads : ℕ) (permits : List ℕ) (xs : List Semaphore) : Type 0 where
  pub permits_are : map (λ m. m.permits) xs ≡ permits
  pub left_are : map (λ m. m.left) xs ≡ permits
  pub unparked : (i : ℕ) → get_or (map (λ m. m.parked) xs) i false ≡ false
  pub unused : (i : ℕ) → get_or (map (λ m. row 0 m.out.items) xs) i (λ t. 0) ≡ (λ t. 0)
  pub wide : All (λ m. length m.out.items ≡ threads) xs

pub none_new : (threads : ℕ) → AreNew threads [] []
none_new threads = record {
  permits_are = refl;
  left_are = refl;
  unparked = λ i. refl;
  unused = λ i. refl;
  wide = λ i d within. absurd (omega arith);
}

pub one_new : (threads : ℕ) (permits : List ℕ) (xs : List Semaphore) (i : ℕ) (m : Semaphore)
    → AreNew threads (take i permits) xs → i < length permits →
    m.permits ≡ get_or permits i 0 → m.left ≡ get_or permits i 0 → m.parked ≡ false → m.out.items ≡ replicate threads 0 →
    AreNew threads (take (i + 1) permits) (xs ++ m ∷ [])
one_new threads permits xs i m so within permits_are left unparked unused = record {
  permits_are = map-append (λ m. m.permits) xs (m ∷ []) ∙ ap (λ ps. ps ++ m.permits ∷ []) so.permits_are
      ∙ ap (λ p. take i permits ++ p ∷ []) permits_are ∙ sym (take_more permits i 0 within);
  left_are = map-append (λ m. m.left) xs (m ∷ []) ∙ ap (λ ps. ps ++ m.left ∷ []) so.left_are
      ∙ ap (λ p. take i permits ++ p ∷ []) left ∙ sym (take_more permits i 0 within);
  unparked = none_more (λ m. m.parked) false xs m unparked so.unparked;
  unused = none_more (λ m. row 0 m.out.items) (λ t. 0) xs m (ap (row 0) unused ∙ row_none 0 threads) so.unused;
  wide = All-push (λ m. length m.out.items ≡ threads) xs m so.wide (ap length unused ∙ length-replicate threads 0);
}

-- all of them, and how many they are
pub all_new : (threads : ℕ) (permits : List ℕ) (xs : List Semaphore) (i : ℕ) → AreNew threads (take i permits) xs → length permits ≤ i
    → AreNew threads permits xs
all_new threads permits xs i so past = subst (λ ps. AreNew threads ps xs) (take_all i permits past) so

pub new_count : (threads : ℕ) (permits : List ℕ) (xs : List Semaphore) → AreNew threads permits xs → length xs ≡ length permits
new_count threads permits xs new = sym (length-map xs (λ m. m.permits)) ∙ ap length new.permits_are

-- such semaphores stand for those of an opening state
pub new_rows : (threads first_sem : ℕ) (permits : List ℕ) (xs : List Semaphore) (line : ℕ → List ℕ)
    → AreNew threads permits xs → line ≡ no_lines →
    rows first_sem xs line ≡ none_taken (row_from 0 first_sem permits)
new_rows threads first_sem permits xs line new empty =
    ap (λ (f : ℕ → ℕ). let y : Semaphores = record (rows first_sem xs line) { left = f } in y) (ap (row_from 0 first_sem) new.left_are)
    ∙ ap (λ (f : ℕ → Bool). let y : Semaphores = record (rows first_sem xs line) { left = row_from 0 first_sem permits; parked = f } in y)
    (told_none (λ m. m.parked) false first_sem xs new.unparked)
    ∙ ap (λ (l : ℕ → List ℕ). let y : Semaphores =
    record (rows first_sem xs l) { left = row_from 0 first_sem permits; parked = λ k. false } in y) empty
    ∙ ap (λ (f : ℕ → ℕ → ℕ). let y : Semaphores = record (none_taken (row_from 0 first_sem permits)) { out = f } in y)
    (told_none (λ m. row 0 m.out.items) (λ t. 0) first_sem xs new.unused)
