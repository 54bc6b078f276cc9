-- Two locks that were got one after the other, worked on, and let go in the other order.
use Rattle.std.proofs.Common.{◌≡◌, ◌≢◌, ℕ, ◌<◌, Bool, true, false, List, ◌++◌, length, get_or, set, refl, sym, ap, subst, ◌∙◌, append_assoc}
use Rattle.std.proofs.Common.{arith}
use Rattle.std.proofs.lemmas.List.{get_or-set_other, set-set, set_comm, map-set, length-set}
use Rattle.atomic_table.proofs.Lists.{set_else}
use mathlib.Core.Option.{some-injective}
use lib.ListN.{get_elem?}
use Rattle.lot_words.specs.CallersRule.{CallersRule}
use Rattle.lot_locks.specs.declared.released.Released.{Released}
use Rattle.lot_scheme.specs.Traces.{GetTrace}
use Rattle.lot_locks.specs.Released.{IsFitting, FreeTrace}
use Rattle.lot_sync.specs.Lot.{LotView, PassView, ◌≈◌, HeldView, Owns, OwnsNone, HasSeen, HasShape, owning, letting_go}
use Rattle.lot_sync.specs.Traces.{Adds}
use Rattle.lot_sync.specs.Values.{Gets, MayGiveBack}
use Rattle.lot_sync.proofs.Holdings.{may_go_back}
use Rattle.lot_calls.specs.Traces.{VisitTrace, NestedTrace}
use Rattle.lot_words.specs.Values.{MayBecome}
use Rattle.lot_calls.specs.Visits.{own_parts, Finds, VisitsBoth}
use Rattle.lot_calls.proofs.Visiting.{set_back, finds, finds_got}

-- the second lock is not owned when the first was got
pub second_free : {V Part : Type 0} (rule : CallersRule V Part) (p q : PassView V) (a : HeldView V) (k l : ℕ) → l ≢ k → ¬ Owns p l
    → Gets rule p k a q → ¬ Owns q l
second_free rule p q a k l two free got owns =
    free (sym (get_or-set_other p.owns k l true false two) ∙ subst (λ (z : PassView _). Owns z l) got.after_is owns)

module _ {V Part : Type 0} (rule : CallersRule V Part) (p q r : PassView V) (a b : HeldView V) (k l : ℕ) (two : l ≢ k)
    (free_first : ¬ Owns p k) (free_second : ¬ Owns p l) (got : Gets rule p k a q) (got' : Gets rule q l b r) where
  -- the second was found by a pass that has seen of it what it had seen before
  finds_second : (lot : LotView) → l < lot.locks → HasShape lot q → Finds rule p l b.value
  finds_second lot is_lock shape = finds rule p l b.value got'.kept (λ u seen. got'.grown u (before u seen))
      (λ u seen. subst (λ t. rule.part t u ≡ rule.part t b.value) (ap (λ (z : PassView V). z.thread) got.after_is)
      (got'.mine u (before u seen)))
      (omega (arith, is_lock, shape.seen, ap (λ (z : PassView V). length z.seen) got.after_is, length-set p.seen k a.value))
    where
      before : (u : V) → HasSeen p l u → HasSeen q l u
      before u seen = ap (λ (z : PassView V). get_elem? z.seen l) got.after_is ∙ (set_else p.seen k l a.value two ∙ seen)

  -- what the work on both is told of the values that it finds
  pub finds_both : (v w : V) → v ≡ a.value → w ≡ b.value → (lot : LotView) → k < lot.locks → l < lot.locks → HasShape lot q
      → rule.keeps k v × rule.keeps l w × Finds rule p k v × Finds rule p l w
  finds_both v w here there lot is_lock is_lock' shape = (
    subst (rule.keeps k) (sym here) got.kept,
    subst (rule.keeps l) (sym there) got'.kept,
    subst (Finds rule p k) (sym here) (finds_got rule p q k a got lot is_lock shape),
    subst (Finds rule p l) (sym there) (finds_second lot is_lock' shape),
  )

  module _ (y : V) (may' : MayBecome rule l p.thread b.value y) where
    -- the second value may be given back
    pub back_second : MayGiveBack rule r (record { key = b.key; value = y })
    back_second = may_go_back rule q r l b y got' (subst (λ j. rule.keeps j y) (sym got'.key_is) may'.kept) may'.grown
        (λ t else. may'.others t (λ e. else (e ∙ sym (ap (λ (z : PassView V). z.thread) got.after_is))))

    module _ (s : PassView V) (left' : s ≈ letting_go r b.key y) where
      went : s ≈ letting_go r l y
      went = subst (λ j. s ≈ letting_go r j y) got'.key_is left'

      -- the first is owned still
      pub owns_first : Owns s a.key
      owns_first = subst (Owns s) (sym got.key_is)
          (ap (λ (z : PassView V). get_or z.owns k false) went ∙ (get_or-set_other r.owns l k false false (λ e. two (sym e))
          ∙ (ap (λ (z : PassView V). get_or z.owns k false) got'.after_is
          ∙ (get_or-set_other q.owns l k true false (λ e. two (sym e)) ∙ got.owns))))

      -- with what was found there
      found_first : (u : V) → HasSeen s a.key u → a.value ≡ u
      found_first u seen = some-injective a.value u (sym got.seen ∙ (sym at ∙ subst (λ j. HasSeen s j u) got.key_is seen))
        where
          at : get_elem? s.seen k ≡ get_elem? q.seen k
          at = ap (λ (z : PassView V). get_elem? z.seen k) went ∙ (set_else r.seen l k y (λ e. two (sym e))
              ∙ (ap (λ (z : PassView V). get_elem? z.seen k) got'.after_is ∙ set_else q.seen l k b.value (λ e. two (sym e))))

      pub thread_then : s.thread ≡ p.thread
      thread_then =
          ap (λ (z : PassView V). z.thread) went
          ∙ (ap (λ (z : PassView V). z.thread) got'.after_is ∙ ap (λ (z : PassView V). z.thread) got.after_is)

      module _ (x : V) (may : MayBecome rule k p.thread a.value x) where
        -- the first value may be given back
        pub back_first : MayGiveBack rule s (record { key = a.key; value = x })
        back_first = record {
          kept = subst (λ j. rule.keeps j x) (sym got.key_is) may.kept;
          grown = λ u seen. subst (λ z. rule.grows z x) (found_first u seen) may.grown;
          others =
              λ u t seen else. subst (λ z. rule.part t z ≡ rule.part t x) (found_first u seen)
              (may.others t (λ e. else (e ∙ sym thread_then)));
        }

        module _ (after : PassView V) (left : after ≈ letting_go s a.key x) where
          same_owns : set (set (set (set p.owns k true) l true) l false) k false ≡ p.owns
          same_owns = ap (λ (bs : List Bool). set bs k false) (set_back (set p.owns k true) l
              (λ owned. free_second (sym (get_or-set_other p.owns k l true false two) ∙ owned))) ∙ set_back p.owns k free_first

          seen_then : set (set (set (set p.seen k a.value) l b.value) l y) k x ≡ set (set p.seen k x) l y
          seen_then = ap (λ (vs : List V). set vs k x) (set-set (set p.seen k a.value) l b.value y)
              ∙ (set_comm (set p.seen k a.value) l k y x two ∙ ap (λ (vs : List V). set vs l y) (set-set p.seen k a.value x))

          pub after_both : after ≈ record p { seen = set (set p.seen k x) l y }
          after_both = subst (λ j. after ≈ letting_go s j x) got.key_is left
              ∙ (ap (λ (z : PassView V). record (letting_go z k x) { made = after.made }) went
              ∙ (ap (λ (z : PassView V). record (letting_go (letting_go z l y) k x) { made = after.made }) got'.after_is
              ∙ (ap (λ (z : PassView V). record (letting_go (letting_go (owning z l b.value) l y) k x) { made = after.made }) got.after_is
              ∙ (λ i. record {
                thread = p.thread;
                owns = same_owns i;
                seen = seen_then i;
                called = p.called;
                woken = p.woken;
                permits = p.permits;
                made = after.made;
              }))))

          pub visits_both : HasSeen s b.key y → HasSeen after a.key x → (lot : LotView) → k < lot.locks → l < lot.locks → HasShape lot after
              → VisitsBoth rule p k l a.value b.value x y after
          visits_both saw' saw lot is_lock is_lock' shape = record {
            finds_first = finds rule p k a.value got.kept got.grown got.mine (omega (arith, is_lock, long));
            finds_second = finds rule p l b.value got'.kept (λ u seen. got'.grown u (before u seen))
                (λ u seen. subst (λ t. rule.part t u ≡ rule.part t b.value) (ap (λ (z : PassView V). z.thread) got.after_is)
                (got'.mine u (before u seen)))
                (omega (arith, is_lock', long));
            may_first = may;
            may_second = may';
            after_is = after_both;
            seen_first = subst (λ j. HasSeen after j x) got.key_is saw;
            seen_second = ap (λ (z : PassView V). get_elem? z.seen l) (subst (λ j. after ≈ letting_go s j x) got.key_is left)
                ∙ (set_else s.seen k l x two ∙ subst (λ j. HasSeen s j y) got'.key_is saw');
            own_is = ap (λ (z : PassView V). own_parts rule z) after_both ∙ (map-set (rule.part p.thread) (set p.seen k x) l y
                ∙ ap (λ (ms : List Part). set ms l (rule.part p.thread y)) (map-set (rule.part p.thread) p.seen k x));
          }
            where
              long : length p.seen ≡ lot.locks
              long = omega (
                arith,
                shape.seen,
                ap (λ (z : PassView V). length z.seen) after_both,
                length-set (set p.seen k x) l y,
                length-set p.seen k x,
              )

              before : (u : V) → HasSeen p l u → HasSeen q l u
              before u seen = ap (λ (z : PassView V). get_elem? z.seen l) got.after_is ∙ (set_else p.seen k l a.value two ∙ seen)

-- whoever owned nothing owns nothing
pub free_after_both : {V : Type 0} (p after : PassView V) (seen : List V) → after ≈ record p { seen = seen } → OwnsNone p → OwnsNone after
free_after_both p after seen is none = subst OwnsNone (sym is) (record { no_lock = none.no_lock; no_permit = none.no_permit })

-- which accesses were made
pub nested_made : {V : Type 0} (p q s after : PassView V) (k j l now : ℕ) (became : Released) → j ≡ k → q.thread ≡ p.thread
    → s.thread ≡ p.thread → Adds p.made (GetTrace p.thread k) q.made
    → Adds q.made (VisitTrace q.thread l now) s.made → IsFitting became false now → Adds s.made (FreeTrace s.thread j became) after.made
    → Adds p.made (NestedTrace p.thread k l now) after.made
nested_made p q s after k j l now became same q_thread s_thread (get, got_is, trace) (inner, inner_is, visited) fits
    (free, after_is, freed) = (
      get ++ (inner ++ free),
      after_is ∙ (ap (λ ds. ds ++ free) (inner_is ∙ (ap (λ ds. ds ++ inner) got_is ∙ append_assoc p.made get inner))
          ∙ (append_assoc p.made (get ++ inner) free ∙ ap (λ ds. p.made ++ ds) (append_assoc get inner free))),
      record {
        get = get;
        inner = inner;
        free = free;
        became = became;
        fits = fits;
        got = trace;
        visited = subst (λ t. VisitTrace t l now inner) q_thread visited;
        freed = subst (λ m. FreeTrace p.thread m became free) same (subst (λ t. FreeTrace t j became free) s_thread freed);
        is = refl;
      },
    )

-- the same of the second lock and the first
pub both_turned : {V Part : Type 0} (rule : CallersRule V Part) (p after : PassView V) (k l : ℕ) (v w x y : V) → l ≢ k
    → VisitsBoth rule p k l v w x y after → VisitsBoth rule p l k w v y x after
both_turned rule p after k l v w x y two visits = record {
  finds_first = visits.finds_second;
  finds_second = visits.finds_first;
  may_first = visits.may_second;
  may_second = visits.may_first;
  after_is = visits.after_is ∙ ap (λ (vs : List _). record p { seen = vs; made = after.made }) (set_comm p.seen k l x y (λ e. two (sym e)));
  seen_first = visits.seen_second;
  seen_second = visits.seen_first;
  own_is = visits.own_is ∙ set_comm (own_parts rule p) k l (rule.part p.thread x) (rule.part p.thread y) (λ e. two (sym e));
}

pub both_turned_at : {V Part : Type 0} (rule : CallersRule V Part) (p after : PassView V) (k l : ℕ) (v w x y v' w' x' y' : V) → l ≢ k
    → VisitsBoth rule p k l v w x y after
    → w' ≡ w → v' ≡ v → y' ≡ y → x' ≡ x → VisitsBoth rule p l k w' v' y' x' after
both_turned_at rule p after k l v w x y v' w' x' y' two visits a b c d =
    subst (λ z. VisitsBoth rule p l k z v' y' x' after) (sym a)
    (subst (λ z. VisitsBoth rule p l k w z y' x' after) (sym b)
    (subst (λ z. VisitsBoth rule p l k w v z x' after) (sym c)
    (subst (λ z. VisitsBoth rule p l k w v y z after) (sym d) (both_turned rule p after k l v w x y two visits))))
