-- What a walk along a queue does to the line of a key.
use Rattle.std.proofs.Common.{◌≡◌, ◌≢◌, ℕ, zero, suc, ◌+◌, ◌-◌, ◌<◌, ◌≤◌, min, inl, inr, List, [], ◌∷◌, ◌++◌, length, get_or, set, take}
use Rattle.std.proofs.Common.{drop, remove, refl, sym, ◌∙◌, ap, arith, eq-eqb, add-one}
use Rattle.std.proofs.lemmas.Bool.{ne_eqb}
use Rattle.std.proofs.lemmas.Bool.Decides.{eqb_tells}
use Rattle.std.proofs.lemmas.List.{append_assoc, append-nil, take-append-drop, take_all, take_more, take_at, drop_at, drop_all}
use Rattle.std.proofs.lemmas.List.{length-take-le, nil_from_length, drop-set-lt}
use Rattle.std.proofs.Math.Seq.{drop-cons, take-nil, take-suc-set}
use Rattle.lot_places.proofs.Laws.{without_key_none}
use Rattle.lot_places.specs.Queue.{line_of, without_count, without_key}

pub line_of-drop_same : (k : ℕ) (queue : List (ℕ × ℕ)) (i : ℕ) (d : ℕ × ℕ) → i < length queue → (get_or queue i d).1 ≡ k
    → line_of k (drop i queue) ≡ (get_or queue i d).0 ∷ line_of k (drop (suc i) queue)
line_of-drop_same k queue i d lt here = rw (drop-cons queue i d lt) (rw (eq-eqb (get_or queue i d).1 k here) refl)

pub line_of-drop_other : (k : ℕ) (queue : List (ℕ × ℕ)) (i : ℕ) (d : ℕ × ℕ) → i < length queue → (get_or queue i d).1 ≢ k
    → line_of k (drop i queue) ≡ line_of k (drop (suc i) queue)
line_of-drop_other k queue i d lt other = rw (drop-cons queue i d lt) (rw (ne_eqb (get_or queue i d).1 k other) refl)

without_count-drop_same : (n k : ℕ) (queue : List (ℕ × ℕ)) (i : ℕ) (d : ℕ × ℕ) → i < length queue → (get_or queue i d).1 ≡ k
    → without_count (suc n) k (drop i queue) ≡ without_count n k (drop (suc i) queue)
without_count-drop_same n k queue i d lt here = rw (drop-cons queue i d lt) (rw (eq-eqb (get_or queue i d).1 k here) refl)

without_count-drop_other : (n k : ℕ) (queue : List (ℕ × ℕ)) (i : ℕ) (d : ℕ × ℕ) → i < length queue → (get_or queue i d).1 ≢ k
    → without_count (suc n) k (drop i queue) ≡ get_or queue i d ∷ without_count (suc n) k (drop (suc i) queue)
without_count-drop_other n k queue i d lt other = rw (drop-cons queue i d lt) (rw (ne_eqb (get_or queue i d).1 k other) refl)

without_count_nothing : (n k : ℕ) → without_count n k [] ≡ []
without_count_nothing zero k = refl
without_count_nothing (suc n) k = refl

-- A queue from which the first count threads of key k are taken: so many were taken and are written to out, and rest
-- are still to be taken, all of them from i on. Before is the queue as it was.
pub record IsTakenTo (k count : ℕ) (before queue : List (ℕ × ℕ)) (out : List ℕ) (i taken : ℕ) : Type 0 where
  pub rest : ℕ
  pub all : taken + rest ≡ count
  pub number : taken + min rest (length (line_of k (drop i queue))) ≡ min count (length (line_of k before))
  pub line : take taken out ++ take rest (line_of k (drop i queue)) ≡ take count (line_of k before)
  pub left : take i queue ++ without_count rest k (drop i queue) ≡ without_count count k before

module _ (k count : ℕ) (before queue : List (ℕ × ℕ)) (out : List ℕ) (i taken : ℕ) where
  pub passed_on : (d : ℕ × ℕ) → taken < count → i < length queue → (get_or queue i d).1 ≢ k → IsTakenTo k count before queue out i taken
      → IsTakenTo k count before queue out (i + 1) taken
  passed_on d more lt other w =
      let n = w.rest - 1 in
      let some : w.rest ≡ suc n = omega (arith, w.all) in
      let lines = line_of-drop_other k queue i d lt other in
      record {
        rest = w.rest;
        all = w.all;
        number = rw (add-one i, ← lines) w.number;
        line = rw (add-one i, ← lines) w.line;
        left =
            rw (take_more queue i d lt, add-one i, append_assoc)
            (rw some (ap (λ xs. take i queue ++ xs) (sym (without_count-drop_other n k queue i d lt other)) ∙ (rw some at w.left)));
      }

  pub room_for_one : (d : ℕ × ℕ) → taken < count → i < length queue → (get_or queue i d).1 ≡ k → IsTakenTo k count before queue out i taken
      → min count (length (line_of k before)) ≤ length out → taken < length out
  room_for_one d more lt here w room = omega (arith, w.all, w.number, ap length (line_of-drop_same k queue i d lt here))

  pub one_taken : (d : ℕ × ℕ) → taken < count → i < length queue → (get_or queue i d).1 ≡ k → taken < length out
      → IsTakenTo k count before queue out i taken
      → IsTakenTo k count before (remove queue i) (set out taken (get_or queue i d).0) i (taken + 1)
  one_taken d more lt here bound w =
      let n = w.rest - 1 in
      let some : w.rest ≡ suc n = omega (arith, w.all) in
      let thread = (get_or queue i d).0 in
      let front : length (take i queue) ≡ i = length-take-le i queue (omega arith) in
      let to : take i (remove queue i) ≡ take i queue = take_at (take i queue) (drop (suc i) queue) i front in
      let from : drop i (remove queue i) ≡ drop (suc i) queue = drop_at (take i queue) (drop (suc i) queue) i front in
      let lines = line_of-drop_same k queue i d lt here in
      record {
        rest = n;
        all = omega (arith, w.all);
        number = rw from (omega (arith, w.number, ap length lines));
        line = rw (from, add-one taken, take-suc-set out taken thread bound, append_assoc) (rw (some, lines) at w.line);
        left = rw (to, from) (ap (λ xs. take i queue ++ xs) (sym (without_count-drop_same n k queue i d lt here)) ∙ (rw some at w.left));
      }

  -- what stands once all are taken, or the walk is at its end
  pub record IsTaken : Type 0 where
    pub number : taken ≡ min count (length (line_of k before))
    pub line : take taken out ≡ take count (line_of k before)
    pub left : queue ≡ without_count count k before

  pub none_to_take : count ≤ taken → IsTakenTo k count before queue out i taken → IsTaken
  none_to_take enough w =
      let none : w.rest ≡ 0 = omega (arith, w.all) in
      record {
        number = omega (arith, none, w.number);
        line = sym (append-nil (take taken out)) ∙ rw none at w.line;
        left = sym (take-append-drop i queue) ∙ rw none at w.left;
      }

  pub none_to_pass : length queue ≤ i → IsTakenTo k count before queue out i taken → IsTaken
  none_to_pass over w =
      let none : drop i queue ≡ [] = drop_all i queue over in
      record {
        number = omega (arith, ap (λ q. length (line_of k q)) none, w.number);
        line = sym (append-nil (take taken out)) ∙ rw (none, take-nil w.rest) at w.line;
        left = sym (take_all i queue over) ∙ sym (append-nil (take i queue)) ∙ rw (none, without_count_nothing w.rest k) at w.left;
      }

drop_next : (n : ℕ) (xs : List ℕ) → drop (suc n) xs ≡ drop 1 (drop n xs)
drop_next zero xs = refl
drop_next (suc n) [] = refl
drop_next (suc n) (x ∷ xs) = drop_next n xs

-- one more was written to out, and beyond it out is as before
pub beyond_one : (n : ℕ) (out before : List ℕ) (thread : ℕ) → drop n out ≡ drop n before
    → drop (n + 1) (set out n thread) ≡ drop (n + 1) before
beyond_one n out before thread same =
    drop-set-lt (n + 1) out n thread (omega arith)
    ∙ rw (add-one n) (drop_next n out ∙ ap (λ xs. drop 1 xs) same ∙ sym (drop_next n before))

-- to take all is to take no fewer than there are
pub without_count-all : (n k : ℕ) (queue : List (ℕ × ℕ)) → length (line_of k queue) ≤ n → without_count n k queue ≡ without_key k queue
without_count-all zero k queue few = sym (without_key_none k queue (nil_from_length (line_of k queue) (omega arith)))
without_count-all (suc n) k [] few = refl
without_count-all (suc n) k (p ∷ queue) few =
    elim (eqb_tells p.1 k) [
      | inl e ↦ rw e.0 (without_count-all n k queue (let h : suc (length (line_of k queue)) ≤ suc n = rw e.0 at few in omega arith))
      | inr e ↦ rw e.0 (ap (λ q. p ∷ q) (without_count-all (suc n) k queue (rw e.0 at few)))
    ]
