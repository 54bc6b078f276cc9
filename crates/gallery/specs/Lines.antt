-- A line of items with numbers: an item's number is how many were put before it.
use Rattle.std.specs.Prelude.{◌≡◌, ℕ, zero, suc, ◌+◌, ◌-◌, ◌≤◌, ◌<◌, ◌^◌, ◌==◌, ◌&&◌, nat_lt, Bool, if◌then◌else◌, List, [], ◌∷◌}
use Rattle.std.specs.Prelude.{◌++◌, length, slice_get, refl}
use Rattle.std.proofs.Common.{le_refl, le_trans, ◌∙◌, ap, sym, subst, arith}
use Rattle.std.proofs.Common.{length-append}
use Rattle.gallery.specs.declared.queue.TheConstants.{NOT_FULL}

module _ {T : Type 0} where
  -- from one line, whose oldest item has the number n, to a later one: an item that lies in both has its number still
  pub record LiesOn (n : ℕ) (xs : List T) (m : ℕ) (ys : List T) : Type 0 where
    pub taken : n ≤ m
    pub put : n + length xs ≤ m + length ys
    pub same : (k : ℕ) → m ≤ k → k < n + length xs → slice_get xs (k - n) ≡ slice_get ys (k - m)

  -- the same, and each item that lies in the later line has a number of 64 bits
  pub record Follows (n : ℕ) (xs : List T) (m : ℕ) (ys : List T) : Type 0 where
    pub kept : m + length ys < 2 ^ 64
    pub grown : LiesOn n xs m ys

  pub lies_on_itself : (n : ℕ) (xs : List T) → LiesOn n xs n xs
  lies_on_itself n xs = record { taken = le_refl n; put = le_refl (n + length xs); same = λ k low high. refl }

  pub lies_on_twice : (n m p : ℕ) (xs ys zs : List T) → LiesOn n xs m ys → LiesOn m ys p zs → LiesOn n xs p zs
  lies_on_twice n m p xs ys zs a b =
      record {
        taken = le_trans a.taken b.taken;
        put = le_trans a.put b.put;
        same = λ k low high. a.same k (le_trans b.taken low) high ∙ b.same k low (omega (arith, high, a.put));
      }

  get-before : (xs : List T) (x : T) (i : ℕ) → i < length xs → slice_get xs i ≡ slice_get (xs ++ x ∷ []) i
  get-before [] x i h = absurd (omega (arith, h))
  get-before (y ∷ ys) x zero h = refl
  get-before (y ∷ ys) x (suc i) h = get-before ys x i (omega (arith, h))

  -- one item more was put behind all
  pub lies_before : (n m : ℕ) (xs ys : List T) (x : T) → m ≡ n → ys ≡ xs ++ x ∷ [] → LiesOn n xs m ys
  lies_before n m xs ys x e f =
      let long = length-append xs (x ∷ []) in
      let base : LiesOn n xs n (xs ++ x ∷ []) =
      record { taken = le_refl n; put = omega (arith, long); same = λ k low high. get-before xs x (k - n) (omega (arith, low, high)) } in
      subst (λ k. LiesOn n xs k ys) (sym e) (subst (λ l. LiesOn n xs n l) (sym f) base)

  -- the first item was taken
  pub lies_behind : (n m : ℕ) (x : T) (xs ys : List T) → m ≡ n + 1 → xs ≡ x ∷ ys → LiesOn n xs m ys
  lies_behind n m x xs ys e f =
      let base : LiesOn n (x ∷ ys) (n + 1) ys =
      record {
        taken = omega arith;
        put = omega arith;
        same = λ k low high. let e : k - n ≡ suc (k - (n + 1)) = omega (arith, low) in ap (slice_get (x ∷ ys)) e;
      } in
      subst (λ k. LiesOn n xs k ys) (sym e) (subst (λ l. LiesOn n l (n + 1) ys) (sym f) base)

-- where so many items lie, of so many places, and the next has this number: whether there is a place and a number for
-- one more
abbrev pub has_room_for : ℕ → ℕ → ℕ → Bool
has_room_for lie places next = nat_lt lie places && nat_lt (next + 1) (2 ^ 64)

-- and whether whoever waits on the condition may go on
abbrev pub is_ready_for : ℕ → ℕ → ℕ → ℕ → Bool
is_ready_for cond lie places next = if cond == NOT_FULL then has_room_for lie places next else nat_lt 0 lie
