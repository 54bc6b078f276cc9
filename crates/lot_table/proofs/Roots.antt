-- How the buckets of a new table get their roots, and how those of the last version give them back.
use Rattle.std.proofs.Common.{◌≡◌, ◌≢◌, ℕ, zero, suc, ◌+◌, ◌<◌, ◌≤◌, ◌%◌, ◌&&◌, true, inl, inr, List, [], ◌∷◌, ◌++◌, length, get_or, set}
use Rattle.std.proofs.Common.{Some, None, refl, sym, ◌∙◌, ap, subst, arith}
use Rattle.std.proofs.Common.{append_assoc, append-nil, length-append, get_or-set_same, get_or-set_other, ◌⊎◌}
use Rattle.std.specs.Prelude.{nat_lt, slice_get, ◌==◌}
use Rattle.std.proofs.lemmas.Bool.Decides.{eqb_tells}
use Rattle.std.proofs.lemmas.List.{get_or_default, length-set}
use Rattle.std.proofs.lemmas.Option.{slice_get_cases}
use Rattle.lot_bucket.specs.Queue.{line_of, without_key}
use Rattle.lot_bucket.specs.Places.{has_key, root_at, with_root}
use Rattle.lot_bucket.specs.Contents.{Contents}
use Rattle.lot_bucket.specs.KeyLine.{KeyLine}
use Rattle.lot_bucket.specs.Agrees.{IsRootOf}
use Rattle.lot_bucket.proofs.Laws.{root_at-with_same, root_at-with_other, has_key-with}
use Rattle.lot_table.specs.Buckets.{AreFresh, AreWhole, AreFilled, AreEmpty, AreElseAs, AreRooted}
use Rattle.lot_table.specs.Roots.{AreIdle, Appends}
use Rattle.lot_table.proofs.Moving.{IsLeft, AreLeft, has_own, own_of_has, left_begins, left_here, some_left, nobody_else, no_root_else}
use Rattle.lot_table.proofs.Moving.{emptied, some_else}

module _ {R : Type 0} where
  slice_get_front : (xs : List R) (x : R) (k : ℕ) → k < length xs → slice_get (xs ++ x ∷ []) k ≡ slice_get xs k
  slice_get_front [] x k lt = absurd (omega arith)
  slice_get_front (y ∷ xs) x zero lt = refl
  slice_get_front (y ∷ xs) x (suc k) lt = slice_get_front xs x k (omega arith)

  slice_get_end : (xs : List R) (x : R) → slice_get (xs ++ x ∷ []) (length xs) ≡ Some x
  slice_get_end [] x = refl
  slice_get_end (y ∷ xs) x = slice_get_end xs x

  -- the keys of the roots that are left have none in their buckets, and the others have theirs
  pub record AreFilling (roots left : List R) (before buckets : List (Contents R)) : Type 0 where
    pub len : length buckets ≡ length before
    pub within : length left ≤ length roots
    pub same : (k : ℕ) → k < length left → slice_get left k ≡ slice_get roots k
    pub has : (i k : ℕ) (d : Contents R) → has_key k (get_or buckets i d).places ≡ has_key k (get_or before i d).places
    pub queue : (i : ℕ) (d : Contents R) → (get_or buckets i d).queue ≡ (get_or before i d).queue
    pub empty : (i k : ℕ) (d : Contents R) → i < length before → k < length left → root_at k (get_or buckets i d).places ≡ None
    pub full : (k : ℕ) (d : Contents R) → length left ≤ k → k < length roots
        → root_at k (get_or buckets (k % length before) d).places ≡ slice_get roots k
    pub else_as : AreElseAs before buckets

  pub filling_begins : (keys threads : ℕ) (roots : List R) (before : List (Contents R)) → AreFresh keys threads before
      → AreFilling roots roots before before
  filling_begins keys threads roots before fresh =
      record {
        len = refl;
        within = omega arith;
        same = λ k lt. refl;
        has = λ i k d. refl;
        queue = λ i d. refl;
        empty = λ i k d lt l. (fresh i d lt).rootless k;
        full = λ k d le lt. absurd (omega arith);
        else_as = λ i d lt. record { room = refl; opened = refl; next_fair = refl };
      }

  -- once no root is left, each lies in the bucket of its key
  pub filling_roots : (roots left : List R) (before buckets : List (Contents R)) → AreFilling roots left before buckets → length left ≡ 0
      → AreRooted roots buckets
  filling_roots roots left before buckets f none k b lt = rw (f.len) (f.full k b (omega (arith, none)) lt)

  module _ (threads : ℕ) (roots left rest : List R) (root : R) (before buckets : List (Contents R)) (r : Contents R)
      (fresh : AreFresh (length roots) threads before) (some : 0 < length before)
      (f : AreFilling roots left before buckets) (popped : left ≡ rest ++ root ∷ []) where
    count : length left ≡ length rest + 1
    count = ap (λ (xs : List R). length xs) popped ∙ length-append rest (root ∷ [])

    -- the bucket of the popped root's key
    abbrev home : ℕ
    home = length rest % length before

    bound : home < length before
    bound = omega (arith, some)

    filling_has : has_key (length rest) (get_or buckets (length rest % length before) r).places ≡ true
    filling_has =
        f.has home (length rest) r
        ∙ has_own (length rest) (length before) home (length roots) _ ((fresh home r bound).laid_out (length rest)) refl
        (omega (arith, count, f.within))

    -- that has the key, and no root of it yet
    pub filling_home : (has_key (length rest) (get_or buckets (length rest % length before) r).places ≡ true)
        × (root_at (length rest) (get_or buckets (length rest % length before) r).places ≡ None)
    filling_home = (filling_has, f.empty home (length rest) r bound (omega (arith, count)))

    -- c is what its key's bucket holds once it has the popped root
    module _ (c : Contents R) (put : c ≡ record (get_or buckets (length rest % length before) r)
        { places = with_root (length rest) (Some root) (get_or buckets (length rest % length before) r).places }) where
      abbrev filled : List (Contents R)
      filled = set buckets home c

      -- the bucket of the root is c, and the others are as before
      filled_here : (d : Contents R) → get_or filled home d ≡ c
      filled_here d = get_or-set_same buckets home c d (omega (arith, f.len, bound))

      filled_there : (i : ℕ) (d : Contents R) → i ≢ home → get_or filled i d ≡ get_or buckets i d
      filled_there i d other = get_or-set_other buckets home i c d other

      -- where there is a bucket, it is the same whatever stands for none
      was_here : (d : Contents R) → get_or buckets home r ≡ get_or buckets home d
      was_here d = get_or_default buckets home r d (omega (arith, f.len, bound))

      -- the places of c are those that were there, with the root
      places : (d : Contents R) → c.places ≡ with_root (length rest) (Some root) (get_or buckets home d).places
      places d = ap (λ (x : Contents R). x.places) put ∙ ap (λ (x : Contents R). with_root (length rest) (Some root) x.places) (was_here d)

      -- each bucket has the keys that it had
      same_keys : (i k : ℕ) (d : Contents R) → has_key k (get_or filled i d).places ≡ has_key k (get_or before i d).places
      same_keys i k d =
          elim (eqb_tells i home) [
            | inl e ↦ rw (e.1, filled_here d, places d)
                (has_key-with k (length rest) (Some root) (get_or buckets home d).places ∙ f.has home k d)
            | inr e ↦ rw (filled_there i d e.1) (f.has i k d)
          ]

      -- and the queue
      same_queues : (i : ℕ) (d : Contents R) → (get_or filled i d).queue ≡ (get_or before i d).queue
      same_queues i d =
          elim (eqb_tells i home) [
            | inl e ↦ rw (e.1, filled_here d)
                (ap (λ (x : Contents R). x.queue) put ∙ ap (λ (x : Contents R). x.queue) (was_here d) ∙ f.queue home d)
            | inr e ↦ rw (filled_there i d e.1) (f.queue i d)
          ]

      -- the keys below the popped root's still have none
      still_empty : (i k : ℕ) (d : Contents R) → i < length before → k < length rest → root_at k (get_or filled i d).places ≡ None
      still_empty i k d lt l =
          elim (eqb_tells i home) [
            | inl e ↦ rw (e.1, filled_here d, places d)
                (root_at-with_other k (length rest) (Some root) (get_or buckets home d).places (λ x. omega arith)
                ∙ f.empty home k d bound (omega (arith, count)))
            | inr e ↦ rw (filled_there i d e.1) (f.empty i k d lt (omega (arith, count)))
          ]

      -- the popped root's key has it
      own_full : (d : Contents R) → root_at (length rest) (get_or filled home d).places ≡ slice_get roots (length rest)
      own_full d = rw (filled_here d, places d)
          (root_at-with_same (length rest) (Some root) (get_or buckets home d).places
          (ap (λ (x : Contents R). has_key (length rest) x.places) (sym (was_here d)) ∙ filling_has)
          ∙ (sym (slice_get_end rest root) ∙ ap (λ xs. slice_get xs (length rest)) (sym popped)
          ∙ f.same (length rest) (omega (arith, count))))

      -- and the keys above have theirs
      others_full : (k : ℕ) (d : Contents R) → length left ≤ k → k < length roots
          → root_at k (get_or filled (k % length before) d).places ≡ slice_get roots k
      others_full k d le lt =
          elim (eqb_tells (k % length before) home) [
            | inl a ↦ rw (a.1, filled_here d, places d)
                (root_at-with_other k (length rest) (Some root) (get_or buckets home d).places (λ x. omega (arith, count))
                ∙ ap (λ (i : ℕ). root_at k (get_or buckets i d).places) (sym a.1) ∙ f.full k d le lt)
            | inr a ↦ rw (filled_there (k % length before) d a.1) (f.full k d le lt)
          ]

      -- so one root more is in its bucket
      pub filling_more : AreFilling roots rest before (set buckets (length rest % length before) c)
      filling_more =
          record {
            len = length-set buckets home c ∙ f.len;
            within = omega (arith, count, f.within);
            same = λ k lt. sym (slice_get_front rest root k lt) ∙ ap (λ xs. slice_get xs k) (sym popped) ∙ f.same k (omega (arith, count));
            has = same_keys;
            queue = same_queues;
            empty = still_empty;
            full = λ k d le lt. elim (eqb_tells (length rest) k) [
              | inl e ↦ rw (← e.1) (own_full d)
              | inr e ↦ others_full k d (omega (arith, count, e.1)) lt
            ];
            else_as =
                some_else before buckets home r c f.len bound
                (record {
                  room = ap (λ (x : Contents R). x.room) put;
                  opened = ap (λ (x : Contents R). x.opened) put;
                  next_fair = ap (λ (x : Contents R). x.next_fair) put;
                })
                f.else_as;
          }

  some_at : (k : ℕ) (xs : List R) → k < length xs → (x : R) × (slice_get xs k ≡ Some x)
  some_at k xs lt = elim (slice_get_cases xs k).1 [ inl e ↦ (e.0, e.2) | inr e ↦ absurd (omega arith) ]

  slice_get-push : (k : ℕ) (xs : List R) (x y : R) → slice_get (xs ++ x ∷ []) k ≡ Some y
      → (slice_get xs k ≡ Some y) ⊎ ((k ≡ length xs) × (x ≡ y))
  slice_get-push zero [] x y at = inr (refl, cc)
  slice_get-push (suc k) [] x y at = absurd cc
  slice_get-push zero (z ∷ xs) x y at = inl at
  slice_get-push (suc k) (z ∷ xs) x y at =
      elim (slice_get-push k xs x y at) [ inl e ↦ inl e | inr e ↦ inr (ap (λ n. suc n) e.0, e.1) ]

module _ {R : Type 0} (view : R → KeyLine) where
  pub filling_ends : (threads : ℕ) (roots left : List R) (before buckets : List (Contents R))
      → AreFresh (length roots) threads before → AreIdle view roots
      → AreFilling roots left before buckets
      → length left ≡ 0 → AreFilled view (length roots) buckets
  filling_ends threads roots left before buckets fresh idle f none i d lt =
      rw (f.len) (record { agrees = record { roots = in_place; pairs = λ k none. ap (λ q. line_of k q) nobody }; laid_out = laid })
    where
      bound : i < length before
      bound = omega (arith, f.len, lt)

      nobody : (get_or buckets i d).queue ≡ []
      nobody = f.queue i d ∙ (fresh i d bound).empty

      laid : (k : ℕ) → has_key k (get_or buckets i d).places ≡ (k % length before == i && nat_lt k (length roots))
      laid k = f.has i k d ∙ (fresh i d bound).laid_out k

      in_place : (k : ℕ) → has_key k (get_or buckets i d).places ≡ true
          → (root : R) × (root_at k (get_or buckets i d).places ≡ Some root) × IsRootOf view k (get_or buckets i d).queue root
      in_place k own =
          let is = own_of_has k (length before) i (length roots) _ (laid k) own in
          let at = some_at k roots is.1 in (
            at.0,
            ap (λ (n : ℕ). root_at k (get_or buckets n d).places) (sym is.0) ∙ f.full k d (omega (arith, none)) is.1 ∙ at.1,
            subst (λ (q : List (ℕ × ℕ)). IsRootOf view k q at.0) (sym nobody) (idle k at.0 at.1),
          )

  -- the roots of the keys below m were appended, and the others are in their buckets
  pub record AreTaking (m : ℕ) (opening buckets : List (Contents R)) (before out : List R) : Type 0 where
    pub len : length buckets ≡ length opening
    pub taken : Appends view m before out
    pub left : AreLeft m opening buckets

  pub taking_begins : (buckets : List (Contents R)) (out : List R) → AreTaking 0 buckets buckets out out
  taking_begins buckets out =
      record {
        len = refl;
        taken =
            record {
              roots = [];
              appended = sym (append-nil out);
              each = refl;
              named = λ i root at. absurd cc;
              paid = λ i root at. absurd cc;
            };
        left = left_begins buckets;
      }

  module _ (keys m : ℕ) (opening buckets : List (Contents R)) (before out : List R) (r : Contents R) (whole : AreWhole view keys opening)
      (some : 0 < length opening) (lt : m < keys)
      (t : AreTaking m opening buckets before out) where
    place : m % length opening < length opening
    place = omega (arith, some)

    found : (x : R) × (root_at m (get_or opening (m % length opening) r).places ≡ Some x)
        × IsRootOf view m (get_or opening (m % length opening) r).queue x
    found =
        (whole (m % length opening) r place).agrees.roots m
        (has_own m (length opening) (m % length opening) keys _ ((whole (m % length opening) r place).laid_out m) refl lt)

    -- the root of the next key is there
    pub taking_root : (x : R) × (root_at m (get_or buckets (m % length opening) r).places ≡ Some x)
    taking_root = (found.0, (t.left (m % length opening) r place).kept_root m (omega arith) ∙ found.1)

    pub taking_more : (c : Contents R) (after : List R) (root : R) → root_at m (get_or buckets (m % length opening) r).places ≡ Some root
        → c ≡ record (get_or buckets (m % length opening) r) {
          places = with_root m None (get_or buckets (m % length opening) r).places;
          queue = without_key m (get_or buckets (m % length opening) r).queue;
        } → after ≡ out ++ root ∷ []
        → AreTaking (m + 1) opening (set buckets (m % length opening) c) before after
    unfolding found taking_root
    taking_more c after root at took pushed =
        record {
          len = length-set buckets (m % length opening) c ∙ t.len;
          taken = record {
            roots = t.taken.roots ++ root ∷ [];
            appended = pushed ∙ ap (λ xs. xs ++ root ∷ []) t.taken.appended ∙ append_assoc before t.taken.roots (root ∷ []);
            each = length-append t.taken.roots (root ∷ []) ∙ ap (λ (n : ℕ). n + 1) t.taken.each;
            named =
                λ j x e. elim (slice_get-push j t.taken.roots root x e) [
                  | inl f ↦ t.taken.named j x f
                  | inr f ↦ rw (← f.1, f.0, t.taken.each) own.named
                ];
            paid = λ j x e. elim (slice_get-push j t.taken.roots root x e) [ inl f ↦ t.taken.paid j x f | inr f ↦ rw (← f.1) own.paid ];
          };
          left =
              some_left m opening buckets (m % length opening) c t.len (nobody_else view keys opening whole m)
              (no_root_else view keys opening whole m) here t.left;
        }
      where
        own : IsRootOf view m (get_or opening (m % length opening) r).queue root
        own =
            let same : found.0 ≡ root = let e : Some found.0 ≡ Some root = sym taking_root.1 ∙ at in cc in
            subst (λ (x : R). IsRootOf view m (get_or opening (m % length opening) r).queue x) same found.2

        here : (d : Contents R) → IsLeft (m + 1) (get_or opening (m % length opening) d) c
        here d =
            left_here m (get_or opening (m % length opening) d) (get_or buckets (m % length opening) r) c
            (has_own m (length opening) (m % length opening) keys _ ((whole (m % length opening) d place).laid_out m) refl lt)
            (rw (get_or_default buckets (m % length opening) r d (omega (arith, t.len, place))) (t.left (m % length opening) d place)) took

  -- once all keys' roots are out, nothing is left
  pub taking_ends : (keys m : ℕ) (opening buckets : List (Contents R)) (before out : List R) → AreWhole view keys opening → m ≡ keys
      → AreTaking m opening buckets before out → AreEmpty view buckets
  taking_ends keys m opening buckets before out whole all t =
      emptied view keys opening whole buckets t.len (rw all at t.left)
