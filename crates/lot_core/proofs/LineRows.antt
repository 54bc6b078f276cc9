-- The lines of a `Lines`, one by one.
use Rattle.std.proofs.Common.{◌≡◌, ◌<◌, ◌+◌, ◌-◌, ◌++◌, ℕ, List, [], ◌∷◌, length, drop, get_or, map, refl, sym, ap, ◌∙◌, arith, subst}
use Rattle.std.proofs.Common.{Global, inl, inr, option_to_list, deque_len, IsSome, IfSome}
use Rattle.std.proofs.Common.{Bor, Option, Some, None, Decides, length-append}
use Rattle.std.proofs.lemmas.List.{length-map, drop-drop}
use Rattle.std.specs.declared.collections.VecDeque.{VecDeque}
use Rattle.std.specs.Vec.{with_item}
use Rattle.std.proofs.lemmas.Bool.{cases_lt}
use Rattle.std.specs.Prelude.{Bool, false, ◌↔◌, IsTrue}
use Rattle.std.specs.List.{Contains}
use Rattle.std.specs.Option.{option_copied}
use Rattle.lot_core.proofs.Members.{in_none}
use Rattle.lot_core.specs.declared.lines.Lines.{Lines}
use Rattle.lot_core.specs.Model.{put}
use Rattle.lot_core.specs.Steps.{first}
use Rattle.lot_core.specs.Rows.{row_from}
use Rattle.lot_core.proofs.Put.{put_again, put_put, put_same}
use Rattle.lot_core.specs.Lines.{line_of, HasKey, no_lines}
use Rattle.lot_core.proofs.Rows.{row_from_before, row_from_past, told_item, told_write, told_none, none_more}

-- the queue of a key is its line
pub line_item : (s : Lines) (k : ℕ) (q : VecDeque ℕ Global) → HasKey s k → q ≡ get_or s.lines.items (k - s.low) q → line_of s k ≡ q.items
unfolding line_of
line_item s k q has is =
    told_item (λ q. q.items) [] s.low s.lines.items k q has.0 has.1 is

-- a queue written is one line changed
pub line_write : (s : Lines) (k : ℕ) (q : VecDeque ℕ Global) (xs : List ℕ) → HasKey s k → q.items ≡ xs →
    line_of (record s { lines = with_item s.lines (k - s.low) q }) ≡ put (line_of s) k xs
unfolding line_of
line_write s k q xs has is =
    told_write (λ q. q.items) [] s.low s.lines.items k q has.0 has.1
    ∙ ap (put (row_from [] s.low (map (λ q. q.items) s.lines.items)) k) is

-- and none, where the queue is what it was
pub line_rewrite : (s : Lines) (k : ℕ) (q old : VecDeque ℕ Global) → HasKey s k
    → old ≡ get_or s.lines.items (k - s.low) old → q.items ≡ old.items →
    line_of (record s { lines = with_item s.lines (k - s.low) q }) ≡ line_of s
line_rewrite s k q old has was is =
    line_write s k q (line_of s k) has (is ∙ sym (line_item s k old has was)) ∙ put_again (line_of s) k

-- nobody is in a line of another kind
pub line_outside : (s : Lines) (k : ℕ) → (HasKey s k → ⊥) → line_of s k ≡ []
unfolding line_of
line_outside s k other =
    elim (cases_lt k s.low) [
      | inl before ↦ row_from_before [] s.low (map (λ q. q.items) s.lines.items) k before
      | inr from ↦ elim (cases_lt (k - s.low) (length s.lines.items)) [
        | inl within ↦ absurd (other (from, within))
        | inr past ↦ row_from_past [] s.low (map (λ q. q.items) s.lines.items) k (rw length-map (omega arith))
      ]
    ]

-- lines of which each is empty
pub lines_empty : (s : Lines) → ((i : ℕ) → get_or (map (λ q. q.items) s.lines.items) i [] ≡ []) → line_of s ≡ no_lines
unfolding line_of
lines_empty s each = told_none (λ q. q.items) [] s.low s.lines.items each

-- no queue yet, and one empty queue more
pub none_begun : (qs : List (VecDeque ℕ Global)) → qs ≡ [] → (length qs ≡ 0) × ((i : ℕ) → get_or (map (λ q. q.items) qs) i [] ≡ [])
none_begun qs is = (ap length is, (λ i. ap (λ (ps : List (VecDeque ℕ Global)). get_or (map (λ q. q.items) ps) i []) is))

pub one_begun : (qs more : List (VecDeque ℕ Global)) (q : VecDeque ℕ Global) (n : ℕ) → more ≡ qs ++ q ∷ [] → q.items ≡ [] →
    (length qs ≡ n) × ((i : ℕ) → get_or (map (λ q. q.items) qs) i [] ≡ []) → (length more ≡ n + 1)
    × ((i : ℕ) → get_or (map (λ q. q.items) more) i [] ≡ [])
one_begun qs more q n is empty so = (
  omega (arith, ap length is, length-append qs (q ∷ []), so.0),
  (λ i. ap (λ (ps : List (VecDeque ℕ Global)). get_or (map (λ q. q.items) ps) i []) is ∙ none_more (λ q. q.items) [] qs q empty so.1 i),
)

-- the front of a queue is its first
pub front_first : (q : VecDeque ℕ Global) (o : Option (Bor ℕ)) → (IsSome o ↔ (0 < deque_len q)) →
    IfSome o (λ x. x.now ≡ get_or q.items 0 x.now) → option_copied o ≡ first q.items
front_first q o some is = front_of q.items o (λ e. omega (arith, some.0 e)) (λ e. some.1 (omega arith)) is
  where
    front_of : (xs : List ℕ) (o : Option (Bor ℕ)) → (IsSome o → 0 < length xs) → (0 < length xs → IsSome o) →
        IfSome o (λ x. x.now ≡ get_or xs 0 x.now) → option_copied o ≡ first xs
    front_of [] None from to is = refl
    front_of [] (Some x) from to is = absurd (omega (arith, from refl))
    front_of (u ∷ rest) None from to is = let e = to (omega arith) in absurd (cc)
    front_of (u ∷ rest) (Some x) from to is = ap Some is

-- what was popped is the first
pub popped_first : (q : VecDeque ℕ Global) (rest : List ℕ) (o : Option ℕ) → (IsSome o ↔ (0 < deque_len q)) →
    q.items ≡ option_to_list o ++ rest → o ≡ first q.items
popped_first q rest o some is = popped_of q.items rest o (λ e. some.1 (omega arith)) is
  where
    popped_of : (xs rest : List ℕ) (o : Option ℕ) → (0 < length xs → IsSome o) → xs ≡ option_to_list o ++ rest → o ≡ first xs
    popped_of xs rest (Some u) to is = sym (ap first is)
    popped_of [] rest None to is = refl
    popped_of (u ∷ xs) rest None to is = let e = to (omega arith) in absurd (cc)

-- one more left the line of k
pub one_left : (line now next : ℕ → List ℕ) (k i : ℕ) → now ≡ put line k (drop i (line k)) → next ≡ put now k (drop 1 (now k)) →
    next ≡ put line k (drop (i + 1) (line k))
one_left line now next k i so left =
    left ∙ ap (λ (l : ℕ → List ℕ). put l k (drop 1 (l k))) so
    ∙ put_put line k (drop i (line k)) _
    ∙ ap (put line k) (ap (drop 1) (put_same line k (drop i (line k))) ∙ drop-drop 1 i (line k))

-- a queue that has a thread is a line that has it
pub line_contains : (s : Lines) (k t : ℕ) (q : VecDeque ℕ Global) (found : Bool) → HasKey s k → q ≡ get_or s.lines.items (k - s.low) q →
    Decides found (Contains q.items t) → (IsTrue found ↔ Contains (line_of s k) t)
line_contains s k t q found has is tells =
    subst (λ xs. IsTrue found ↔ Contains xs t) (sym (line_item s k q has is)) tells

pub outside_contains : (s : Lines) (k t : ℕ) → (HasKey s k → ⊥) → (IsTrue false ↔ Contains (line_of s k) t)
outside_contains s k t other =
    subst (λ xs. IsTrue false ↔ Contains xs t) (sym (line_outside s k other)) ((λ e. absurd (cc)), (λ inside. absurd (in_none t inside)))
