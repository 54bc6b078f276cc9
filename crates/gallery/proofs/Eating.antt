-- A meal is counted with both forks, and at the end both count equally many.
use Rattle.std.proofs.Common.{◌≡◌, ℕ, ◌+◌, ◌%◌, ◌^◌, ◌<◌, zero, suc, List, [], ◌∷◌, get_or, length, map, slice_get, Some}
use Rattle.std.proofs.Common.{sym, ap, subst, ◌∙◌, arith}
use Rattle.std.proofs.lemmas.List.{length-map}
use Rattle.std.proofs.lemmas.Option.{slice_get_within}
use mathlib.Core.Option.{some, some-injective, some-ne-none}
use lib.ListN.{get_elem?}
use Rattle.lot_words.specs.CallersRule.{CallersRule}
use Rattle.lot_sync.specs.Lot.{LotNames, LotView, PassView, HasSeen, rested}
use Rattle.lot_sync.specs.Values.{GoesOnTo}
use Rattle.lot_calls.specs.Finished.{IsReady, IsFinished}
use Rattle.lot_words.specs.Values.{MayBecome}
use Rattle.lot_calls.specs.Visits.{VisitsBoth}
use Rattle.lot_calls.proofs.Visiting.{lies_there}
use Rattle.gallery.specs.declared.dinner.Fork.{Fork}
use Rattle.gallery.specs.Dinner.{low_of, high_of, meals_of, HasPlaces, OneMore, AteWithBoth, AllAteWithBoth}

module _ (rule : CallersRule Fork ℕ) (part : rule.part ≡ meals_of) where
  -- ---- one meal
  -- a fork with which one meal more is counted may be left
  pub counted : ((key : ℕ) (fork : Fork) → HasPlaces fork → rule.keeps key fork) → ((u v : Fork) → rule.grows u v) → (key t : ℕ)
      (v x : Fork) → OneMore t v x → MayBecome rule key t v x
  counted keeps grows key t v x one = record {
    kept = keeps key x one.places;
    grown = grows v x;
    others = λ u else. subst (λ f. f u v ≡ f u x) (sym part) (one.others u else);
  }

  module _ (p t : PassView Fork) (low high : ℕ) (v w x y : Fork) (both : VisitsBoth rule p low high v w x y t) where
    -- a fork that was found counts as many meals as the pass had seen
    found_low : (u : Fork) → HasSeen p low u → meals_of p.thread u ≡ meals_of p.thread v
    found_low u at = subst (λ f. f p.thread u ≡ f p.thread v) part (both.finds_first.mine u at)

    found_high : (u : Fork) → HasSeen p high u → meals_of p.thread u ≡ meals_of p.thread w
    found_high u at = subst (λ f. f p.thread u ≡ f p.thread w) part (both.finds_second.mine u at)

    saw : (k : ℕ) (d : Fork) → k < length (map (rule.part p.thread) p.seen) → HasSeen p k (get_or p.seen k d)
    saw k d near = lies_there p.seen k d (subst (λ n. k < n) (length-map p.seen (rule.part p.thread)) near)

    pub ate_again : low ≡ low_of p.thread → high ≡ high_of p.thread → OneMore p.thread v x → OneMore p.thread w y
        → AteWithBoth p.thread p.seen → AteWithBoth t.thread t.seen
    ate_again is_low is_high one two before =
        subst (λ n. AteWithBoth n t.seen) (sym (ap (λ (z : PassView Fork). z.thread) both.after_is)) now
      where
        at_low : HasSeen p low (get_or p.seen low v)
        at_low = saw low v both.finds_first.own_near

        at_high : HasSeen p high (get_or p.seen high w)
        at_high = saw high w both.finds_second.own_near

        alike : meals_of p.thread v ≡ meals_of p.thread w
        alike = sym (found_low (get_or p.seen low v) at_low)
            ∙ (before (get_or p.seen low v) (get_or p.seen high w)
            (subst (λ k. HasSeen p k (get_or p.seen low v)) is_low at_low) (subst (λ k. HasSeen p k (get_or p.seen high w)) is_high at_high)
            ∙ found_high (get_or p.seen high w) at_high)

        counted : meals_of p.thread x ≡ meals_of p.thread y
        counted = one.mine ∙ (ap (λ n. (n + 1) % 2 ^ 64) alike ∙ sym two.mine)

        now : AteWithBoth p.thread t.seen
        now a b here there =
            let first = some-injective x a (sym both.seen_first ∙ subst (λ k. HasSeen t k a) (sym is_low) here) in
            let second = some-injective y b (sym both.seen_second ∙ subst (λ k. HasSeen t k b) (sym is_high) there) in
            sym (ap (meals_of p.thread) first) ∙ (counted ∙ ap (meals_of p.thread) second)

  -- ---- the end
  lies_in : (xs : List Fork) (i : ℕ) (u : Fork) → get_elem? xs i ≡ some u → slice_get xs i ≡ Some u
  lies_in [] i u e = absurd (some-ne-none u (sym e))
  lies_in (z ∷ xs) zero u e = ap Some (some-injective z u e)
  lies_in (z ∷ xs) (suc i) u e = lies_in xs i u e

  module _ (names : LotNames Fork) (lot : LotView) (forks : List Fork) (called woken : List ℕ)
      (finished : IsFinished rule names lot forks called woken)
      (rests : (p : PassView Fork) → rule.rests (rested p) → AteWithBoth p.thread p.seen)
      (five : lot.threads ≡ 5) (count : length forks ≡ lot.locks) where
    -- what the pass of a thread, which was left, has seen of a fork counts as many meals of its own as the fork at the
    -- end
    at_the_end : (p : PassView Fork) → IsReady rule names.values lot p → GoesOnTo rule forks p → (k : ℕ) (u : Fork)
        → get_elem? forks k ≡ some u → (x : Fork) × (HasSeen p k x × (meals_of p.thread x ≡ meals_of p.thread u))
    at_the_end p ready goes k u at =
        let there = lies_in forks k u at in
        let near : k < length p.seen = omega (arith, slice_get_within forks k u there, ready.shape.seen, count) in
        let x : Fork = get_or p.seen k u in
        let seen : HasSeen p k x = lies_there p.seen k u near in
        (x, (seen, subst (λ f. f p.thread x ≡ f p.thread u) part (goes.mine k x u there seen)))

    pub all_ate : AllAteWithBoth forks
    all_ate seat near u v here there =
        let found = finished.taken.all seat (omega (arith, near, five)) in
        let p : PassView Fork = found.1 in
        let ready = subst (IsReady rule names.values lot) found.3 (finished.taken.ready found.0 p found.2) in
        let goes = subst (GoesOnTo rule forks) found.3 (finished.goes_on found.0 p found.2) in
        let low = at_the_end p ready goes (low_of seat) u here in
        let high = at_the_end p ready goes (high_of seat) v there in
        let even : AteWithBoth seat p.seen = subst (λ n. AteWithBoth n p.seen) found.4 (rests p ready.rests) in
        let a = subst (λ n. meals_of n low.0 ≡ meals_of n u) found.4 low.1.1 in
        let b = subst (λ n. meals_of n high.0 ≡ meals_of n v) found.4 high.1.1 in
        sym a ∙ (even low.0 high.0 low.1.0 high.1.0 ∙ b)
