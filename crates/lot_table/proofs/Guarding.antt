-- What is known of buckets while their locks are held.
use Rattle.std.proofs.Common.{◌≡◌, ℕ, ◌+◌, ◌<◌, ◌≤◌, List, [], ◌∷◌, ◌++◌, length, get_or, set, take, refl, sym, ◌∙◌, ap, arith, below_more}
use Rattle.std.proofs.Common.{get_or-set_other}
use Rattle.std.proofs.lemmas.List.{get_or-map, map-set, length-map, take_more}
use Rattle.std.proofs.lemmas.List.Sums.{sum_by_more}
use Rattle.std.specs.declared.sync.MutexGuard.{MutexGuard}
use Rattle.std.specs.Sync.Mutex.{mutex_guard_value}
use Rattle.lot_bucket.specs.Contents.{Contents}
use Rattle.lot_bucket.specs.KeyLine.{KeyLine}
use Rattle.lot_bucket.specs.Settled.{Lying, IsWhole}
use Rattle.lot_table.specs.Buckets.{queued}
use Rattle.lot_table.specs.Tables.{under}

-- what a slice that was lent as a whole leaves in its vector
pub lent_whole : {A : Type 0} (n : ℕ) (xs ys : List A) → length xs ≡ n → take n (xs ++ ys) ≡ xs
lent_whole n xs ys is = rw (← is) (take-append xs ys)
  where
    take-append : {A : Type 0} (xs ys : List A) → take (length xs) (xs ++ ys) ≡ xs
    take-append [] ys = refl
    take-append (x ∷ xs) ys = ap (λ zs. x ∷ zs) (take-append xs ys)

module _ {R : Type 0} where
  get_under : (gs : List (MutexGuard (Lying R))) (i : ℕ) (g : MutexGuard (Lying R)) (d : Contents R) → i < length gs
      → get_or (under gs) i d ≡ (mutex_guard_value (get_or gs i g)).bucket
  get_under gs i g d lt = get_or-map (λ (x : MutexGuard (Lying R)). (mutex_guard_value x).bucket) gs i g d lt

  pub length-under : (gs : List (MutexGuard (Lying R))) → length (under gs) ≡ length gs
  length-under gs = length-map gs (λ (x : MutexGuard (Lying R)). (mutex_guard_value x).bucket)

  pub whole_next : (view : R → KeyLine) (keys n : ℕ) (gs : List (MutexGuard (Lying R))) (g : MutexGuard (Lying R))
      (s : Lying R) → n < length gs
      → g ≡ get_or gs n g → s ≡ mutex_guard_value g → IsWhole view (length gs) n keys s.bucket
      → ((i : ℕ) (d : Contents R) → i < n → IsWhole view (length gs) i keys (get_or (under gs) i d))
      → (i : ℕ) (d : Contents R) → i < n + 1 → IsWhole view (length gs) i keys (get_or (under gs) i d)
  whole_next view keys n gs g s lt at is here before i d bound =
      let own : (e : Contents R) → get_or (under gs) n e ≡ s.bucket =
      λ e. get_under gs n g e lt ∙ ap (λ (x : MutexGuard (Lying R)). (mutex_guard_value x).bucket) (sym at)
      ∙ ap (λ (x : Lying R). x.bucket) (sym is) in
      below_more (λ (j : ℕ). (e : Contents R) → IsWhole view (length gs) j keys (get_or (under gs) j e)) n (λ j l e. before j e l)
      (λ e. rw (own e) here) i bound d

  pub sum_next : (n sum len : ℕ) (gs : List (MutexGuard (Lying R))) (g : MutexGuard (Lying R)) (s : Lying R)
      (b : Contents R) → n < length gs
      → g ≡ get_or gs n g → s ≡ mutex_guard_value g → b ≡ s.bucket → sum ≡ queued (take n (under gs)) → len ≡ length b.queue
      → sum + len ≡ queued (take (n + 1) (under gs))
  sum_next n sum len gs g s b lt at is own so_far count =
      let here : get_or (under gs) n b ≡ b =
      get_under gs n g b lt ∙ ap (λ (x : MutexGuard (Lying R)). (mutex_guard_value x).bucket) (sym at)
      ∙ ap (λ (x : Lying R). x.bucket) (sym is) ∙ sym own in
      let more = sum_by_more (λ (x : Contents R). length x.queue) (under gs) n b (rw (length-under gs) lt) in
      rw (so_far, count) (sym (more ∙ ap (λ (x : Contents R). queued (take n (under gs)) + length x.queue) here))

  pub out_next : (n : ℕ) (gs gs0 : List (MutexGuard (Lying R))) (old pushed : List (Contents R)) (g : MutexGuard (Lying R)) (s : Lying R)
      (b : Contents R) → n < length gs → length gs ≡ length gs0
      → s ≡ mutex_guard_value (get_or gs n g) → b ≡ s.bucket
      → ((i : ℕ) (d : Contents R) → n ≤ i → get_or (under gs) i d ≡ get_or (under gs0) i d) → old ≡ take n (under gs0)
      → pushed ≡ old ++ b ∷ [] → pushed ≡ take (n + 1) (under gs0)
  out_next n gs gs0 old pushed g s b lt same is own rest so_far push =
      let here : b ≡ get_or (under gs0) n b =
      own ∙ ap (λ (x : Lying R). x.bucket) is ∙ sym (get_under gs n g b lt) ∙ rest n b (omega arith) in
      let bound : n < length (under gs0) = omega (arith, length-under gs0) in
      push ∙ ap (λ xs. xs ++ b ∷ []) so_far ∙ ap (λ (x : Contents R). take n (under gs0) ++ x ∷ []) here
      ∙ sym (take_more (under gs0) n b bound)

  pub rest_next : (n : ℕ) (gs gs0 : List (MutexGuard (Lying R))) (g : MutexGuard (Lying R))
      → ((i : ℕ) (d : Contents R) → n ≤ i → get_or (under gs) i d ≡ get_or (under gs0) i d)
      → (i : ℕ) (d : Contents R) → n + 1 ≤ i → get_or (under (set gs n g)) i d ≡ get_or (under gs0) i d
  rest_next n gs gs0 g rest i d le =
      rw (map-set (λ (x : MutexGuard (Lying R)). (mutex_guard_value x).bucket) gs n g)
      (get_or-set_other (under gs) n i (mutex_guard_value g).bucket d (λ e. omega arith) ∙ rest i d (omega arith))
