-- How often threads stand in a list that gets one more at its end, and that loses one; and the counts of it.
use Rattle.std.proofs.Common.{◌≡◌, ◌≢◌, ℕ, suc, ◌+◌, ◌-◌, ◌<◌, inl, inr, List, [], ◌∷◌, ◌++◌, length, get_or, set, take, drop, remove}
use Rattle.std.proofs.Common.{refl, sym, ◌∙◌, ap, arith, zero-add}
use Rattle.std.proofs.lemmas.Bool.{ne_eqb}
use Rattle.std.proofs.lemmas.Bool.Decides.{eqb_tells}
use Rattle.std.proofs.lemmas.List.{length-set, length-map, get_or-map, get_or-set_same, get_or-set_other, take-append-drop, get_or_default}
use Rattle.std.proofs.lemmas.List.{map-append, take-map, drop-map}
use Rattle.std.proofs.Math.Seq.{drop-cons}
use Rattle.std.specs.List.{Any}
use Rattle.lot_places.specs.Links.{times}
use Rattle.lot_places.specs.Counted.{AreCounted, threads_of}
use Rattle.lot_places.proofs.Ways.{times-append, times_here}

times_other : (t u : ℕ) → u ≢ t → times t (u ∷ []) ≡ 0
times_other t u other = rw (ne_eqb u t other) refl

-- the one at i, and the others
times-remove : (t : ℕ) (xs : List ℕ) (i : ℕ) → i < length xs → times t (get_or xs i 0 ∷ []) + times t (remove xs i) ≡ times t xs
times-remove t xs i lt =
    let here = get_or xs i 0 in
    let split : times t xs ≡ times t (take i xs) + times t (here ∷ drop (suc i) xs) =
    ap (times t) (sym (take-append-drop i xs)) ∙ (times-append t (take i xs) (drop i xs)
    ∙ ap (λ ys. times t (take i xs) + times t ys) (drop-cons xs i 0 lt)) in
    omega (arith, split, times-append t (take i xs) (drop (suc i) xs), times-append t (here ∷ []) (drop (suc i) xs))

-- one more of u, and one of u less, are no change for another
others_in : (threads : List ℕ) (u t : ℕ) → u ≢ t → times t (threads ++ u ∷ []) ≡ times t threads
others_in threads u t other = omega (arith, times-append t threads (u ∷ []), times_other t u other)

others_out : (threads : List ℕ) (u i t : ℕ) → i < length threads → get_or threads i 0 ≡ u → u ≢ t
    → times t (remove threads i) ≡ times t threads
others_out threads u i t lt here other =
    let left : times t (u ∷ []) + times t (remove threads i) ≡ times t threads = rw here at (times-remove t threads i lt) in
    omega (arith, left, times_other t u other)

-- the count of u becomes n, and those of others stay
one_changed : (counts threads threads' : List ℕ) (u n : ℕ) → AreCounted counts threads → u < length counts
    → (n < 255 → n ≡ times u threads') → ((t : ℕ) → u ≢ t → times t threads' ≡ times t threads) → AreCounted (set counts u n) threads'
one_changed counts threads threads' u n counted within here there t near small =
    elim (eqb_tells u t) [
      | inl e ↦
          let now : get_or (set counts u n) t 0 ≡ n = rw (sym e.1) (get_or-set_same counts u n 0 within) in
          now ∙ rw (sym e.1) (here (omega (arith, now, small)))
      | inr e ↦
          let now : get_or (set counts u n) t 0 ≡ get_or counts t 0 = get_or-set_other counts u t n 0 (λ same. e.1 (sym same)) in
          now ∙ (counted t (rw (length-set counts u n) at near) (rw now at small) ∙ sym (there t e.1))
    ]

-- nothing is known of u, and those of others stay
not_changed : (counts threads threads' : List ℕ) (u : ℕ) → AreCounted counts threads → (u < length counts → get_or counts u 0 < 255 → ⊥)
    → ((t : ℕ) → u ≢ t → times t threads' ≡ times t threads) → AreCounted counts threads'
not_changed counts threads threads' u counted cannot there t near small =
    elim (eqb_tells u t) [
      | inl e ↦ absurd (cannot (rw e.1 near) (rw e.1 small))
      | inr e ↦ counted t near small ∙ sym (there t e.1)
    ]

-- n is what was read of the count
pub counted_in : (counts threads : List ℕ) (u n : ℕ) → AreCounted counts threads → u < length counts → n ≡ get_or counts u n
    → AreCounted (set counts u (n + 1)) (threads ++ u ∷ [])
counted_in counts threads u n counted within read =
    let is : n ≡ get_or counts u 0 = read ∙ get_or_default counts u n 0 within in
    one_changed counts threads (threads ++ u ∷ []) u (n + 1) counted within
    (λ few. omega (arith, is, counted u within (omega (arith, is)), times-append u threads (u ∷ []), times_here u []))
    (others_in threads u)

pub not_counted_in : (counts threads : List ℕ) (u : ℕ) → AreCounted counts threads → (u < length counts → get_or counts u 0 < 255 → ⊥)
    → AreCounted counts (threads ++ u ∷ [])
not_counted_in counts threads u counted cannot = not_changed counts threads (threads ++ u ∷ []) u counted cannot (others_in threads u)

pub counted_out : (counts threads : List ℕ) (u i n : ℕ) → AreCounted counts threads → i < length threads → get_or threads i 0 ≡ u
    → u < length counts → n ≡ get_or counts u n → n < 255 → AreCounted (set counts u (n - 1)) (remove threads i)
counted_out counts threads u i n counted lt here within read few =
    let is : n ≡ get_or counts u 0 = read ∙ get_or_default counts u n 0 within in
    let gone : times u (u ∷ []) + times u (remove threads i) ≡ times u threads = rw here at (times-remove u threads i lt) in
    one_changed counts threads (remove threads i) u (n - 1) counted within
    (λ _. omega (arith, is, counted u within (omega (arith, is)), gone, times_here u [])) (λ t. others_out threads u i t lt here)

pub not_counted_out : (counts threads : List ℕ) (u i : ℕ) → AreCounted counts threads → i < length threads → get_or threads i 0 ≡ u
    → (u < length counts → get_or counts u 0 < 255 → ⊥) → AreCounted counts (remove threads i)
not_counted_out counts threads u i counted lt here cannot =
    not_changed counts threads (remove threads i) u counted cannot (λ t. others_out threads u i t lt here)

pub threads_of-push : (queue : List (ℕ × ℕ)) (p : ℕ × ℕ) → threads_of (queue ++ p ∷ []) ≡ threads_of queue ++ p.0 ∷ []
threads_of-push queue p = map-append (λ (q : ℕ × ℕ). q.0) queue (p ∷ [])

pub threads_of-remove : (queue : List (ℕ × ℕ)) (i : ℕ) → threads_of (remove queue i) ≡ remove (threads_of queue) i
threads_of-remove queue i =
    let f : ℕ × ℕ → ℕ = λ p. p.0 in
    map-append f (take i queue) (drop (suc i) queue) ∙ rw (take-map f i queue, drop-map f (suc i) queue) refl

-- the thread at i
pub threads_of-at : (queue : List (ℕ × ℕ)) (i : ℕ) → i < length queue → get_or (threads_of queue) i 0 ≡ (get_or queue i (0, 0)).0
threads_of-at queue i lt = get_or-map (λ (p : ℕ × ℕ). p.0) queue i (0, 0) 0 lt

pub length-threads_of : (queue : List (ℕ × ℕ)) → length (threads_of queue) ≡ length queue
length-threads_of queue = length-map queue (λ (p : ℕ × ℕ). p.0)

-- who waits in a queue stands among its threads
pub waits_counted : (t : ℕ) (queue : List (ℕ × ℕ)) → Any (λ (p : ℕ × ℕ). p.0 ≡ t) queue → 0 < times t (threads_of queue)
waits_counted t queue any =
    let lt : any.0 < length (threads_of queue) = rw (length-map queue (λ (p : ℕ × ℕ). p.0)) any.2 in
    let at : get_or (threads_of queue) any.0 0 ≡ t =
    get_or-map (λ (p : ℕ × ℕ). p.0) queue any.0 any.1 0 any.2 ∙ (ap (λ (p : ℕ × ℕ). p.0) any.3 ∙ any.4) in
    let one : times t (t ∷ []) + times t (remove (threads_of queue) any.0) ≡ times t (threads_of queue) =
    rw at at (times-remove t (threads_of queue) any.0 lt) in
    omega (arith, one, times_here t [])

pub counted_waits : (t : ℕ) (queue : List (ℕ × ℕ)) → 0 < times t (threads_of queue) → Any (λ (p : ℕ × ℕ). p.0 ≡ t) queue
counted_waits t [] some = absurd (omega (arith, some))
counted_waits t (p ∷ queue) some =
    elim (eqb_tells p.0 t) [
      | inl e ↦ (0, p, omega arith, refl, e.1)
      | inr e ↦
          let rest = counted_waits t queue (rw (e.0, zero-add) at some) in
          (suc rest.0, rest.1, omega (arith, rest.2), rest.3, rest.4)
    ]
