-- What a closing tells, when all passes came back, none of them holds a lock, and none waits on a condition.
use Rattle.std.proofs.Common.{◌≡◌, ℕ, ◌+◌, ◌*◌, ◌<◌, ◌≤◌, ◌==◌, cond as if_so, List, [], ◌∷◌, ◌++◌, length, map, refl, sym, ap}
use Rattle.std.proofs.Common.{true, inl, inr, subst, ◌∙◌, arith, Option, Some, slice_get, get_or, sum_by}
use Rattle.std.specs.List.{All, Any}
use Rattle.std.proofs.lemmas.Bool.{cases_lt}
use Rattle.std.proofs.lemmas.List.{length-map, get_or-map}
use Rattle.std.proofs.lemmas.List.Elements.{All-weaker, All-map, All-nil}
use Rattle.std.proofs.lemmas.List.Sums.{sum_by-cons}
use mathlib.Core.Option.{some, some-ne-none}
use lib.ListN.{get_elem?}
use Rattle.lot_events.specs.declared.events.Point.TheVariants.{Calm}
use Rattle.lot_core.specs.Steps.{IsThread}
use Rattle.lot_core.specs.Parts.{LockPart, CondPart, SemaphorePart}
use Rattle.lot_core.proofs.Law.{reached_sound}
use Rattle.lot_core.proofs.WellFormed.{stranger_calm, reached_formed}
use Rattle.lot_rights.specs.declared.views.Right.{Right}
use Rattle.lot_rights.specs.Closing.{passes_in, roots_in, Left, Ended}
use Rattle.lot_rights.specs.History.{events_in, tokens_of}
use Rattle.lot_rights.specs.Rule.{number}
use Rattle.lot_rights.specs.Seating.{times}
use Rattle.lot_rights.specs.Shown.{PassShown, RootShown}
use Rattle.lot_rights.proofs.Closes.{ended_recounted}
use Rattle.lot_rights.proofs.Seats.{times_append}
use Rattle.lot_rights.proofs.Totals.{any_all}
use Rattle.lot_rights.proofs.Turns.{some_before}
use Rattle.lot_words.specs.CallersRule.{CallersRule}
use Rattle.lot_words.specs.declared.views.LockRootView.{LockRootView}
use Rattle.lot_words.specs.Values.{HasSeen, FoundOk}
use Rattle.lot_words.specs.Closing.{HoldsNone}
use Rattle.lot_words.proofs.Closes as locks
use Rattle.lot_conds.specs.declared.views.CondRootView.{CondRootView}
use Rattle.lot_conds.specs.Closing.{IsIdle as IsIn}
use Rattle.lot_conds.proofs.Closes as conds
use Rattle.lot_sems.proofs.Closes as sems
use Rattle.lot_whole.specs.declared.views.LotPassView.{LotPassView}
use Rattle.lot_whole.specs.declared.views.LotRootView.{LotRootView}
use Rattle.lot_whole.specs.declared.views.LotRootView.TheVariants.{Lock, Cond, Sem}
use Rattle.lot_whole.specs.Family.{Which, lock, cond, sem, LotSize, lock_size, cond_size, sem_size, SlotOf, PassIn, RootIn, homes_in}
use Rattle.lot_whole.specs.Family.{meaning_of, part_in}
use Rattle.lot_whole.specs.Lot.{line_of_root, owed_by, own_of, LotWorld, PassOk, LotPassIs, LotRootIs, lot_meaning}
use Rattle.lot_whole.specs.Lifts.{part_pass}
use Rattle.lot_whole.specs.Closing.{HasDone, called_in, woken_in, out_with, permits_of, LineIs, IsQuiet, IsToldTo}
use Rattle.lot_whole.specs.Standing.{IsIdle}
use Rattle.lot_whole.specs.Whole.{HowMany}
use Rattle.lot_whole.specs.Order.{queued_in}
use Rattle.lot_whole.proofs.Counting.{queued_known}
use Rattle.lot_whole.proofs.Moments.{one_run}
use Rattle.lot_whole.proofs.Quiet.{quiet_of}
use Rattle.lot_whole.proofs.Tells.{idle_calm, holds}

-- ---- lists, element by element
module _ {A B : Type 0} (f : A → B) (P : B → Type 0) where
  -- what holds of each image
  all_images : (xs : List A) → All P (map f xs) → All (λ x. P (f x)) xs
  all_images xs all k x near = subst P (get_or-map f xs k x (f x) near) (all k (f x) (omega (arith, near, length-map xs f)))

  some_image : (xs : List A) → Any (λ x. P (f x)) xs → Any P (map f xs)
  some_image xs (k, x, near, is, holds) = (k, f x, omega (arith, near, length-map xs f), get_or-map f xs k x (f x) near ∙ ap f is, holds)

sum_images : {A B : Type 0} (f : A → B) (g : B → ℕ) (xs : List A) → sum_by g (map f xs) ≡ sum_by (λ x. g (f x)) xs
sum_images f g [] = refl
sum_images f g (x ∷ xs) = sum_by-cons g (f x) (map f xs)
    ∙ (ap (λ n. g (f x) + n) (sum_images f g xs) ∙ sym (sum_by-cons (λ y. g (f y)) x xs))

-- passes of the same threads have the same numbers
same_times : {P Q : Type 0} (R R' : Type 0) (f : PassShown P → PassShown Q) → ((p : PassShown P) → (f p).thread ≡ p.thread)
    → (i : ℕ) (passes : List (PassShown P))
    → times {R = Right Q R'} number i (passes_in (map f passes)) ≡ times {R = Right P R} number i (passes_in passes)
same_times R R' f same i [] = refl
same_times R R' f same i (p ∷ passes) = λ h. if_so (2 * same p h == i) 1 0 + same_times R R' f same i passes h

module _ {V Part : Type 0} (rule : CallersRule V Part) (z : LotSize) (opening : List V) (passes : List (PassShown (LotPassView V)))
    (roots : List (RootShown LotRootView)) (ws : List ℕ)
    (ys : List (Option V)) where
  -- a pass, as a kind has it
  abbrev in_kind : (j : Which) → PassShown (LotPassView V) → PassShown (PassIn V j)
  in_kind j p = part_pass j p

  abbrev slots_in : (j : Which) → List (SlotOf V j)
  slots_in lock = ys
  slots_in cond = []
  slots_in sem = []

  module _ (left : Left (lot_meaning rule z opening) passes roots ws ys) where
    abbrev w : LotWorld rule z opening
    w = left.world

    passes_fit : (j : Which) → All
        (λ (p : PassShown (PassIn V j)). (meaning_of rule z opening j).PassFits (w.each j) p.thread p.own)
        (map (in_kind j) passes)
    passes_fit j = All-map (λ (p : PassShown (PassIn V j)). (meaning_of rule z opening j).PassFits (w.each j) p.thread p.own)
        (in_kind j) passes
        (All-weaker (λ (p : PassShown (LotPassView V)). LotPassIs rule z opening w p.thread p.own)
        (λ (p : PassShown (LotPassView V)). (meaning_of rule z opening j).PassFits (w.each j) p.thread (own_of V p.own j))
        (λ p fit. (subst (PassOk rule z opening w p.thread) fit.1 (left.fits.passes p.thread fit.0)).each j) passes
        left.passes_fit)

    once : (j : Which) (i : ℕ) → times {R = Right (PassIn V j) (RootIn j)} number i (passes_in (map (in_kind j) passes) ++ []) ≤ 1
    once j i = omega (
      arith,
      left.once i,
      times_append {R = Right (LotPassView V) LotRootView} number i (passes_in passes) (roots_in roots),
      times_append {R = Right (PassIn V j) (RootIn j)} number i (passes_in (map (in_kind j) passes)) [],
      same_times LotRootView (RootIn j) (in_kind j) (λ p. refl) i passes,
    )

    deep : (j : Which) → length (homes_in j left.homes) ≡ length (slots_in j)
    deep lock = left.deep
    deep cond = refl
    deep sem = refl

    at_home : (j : Which) (i : ℕ) (y : SlotOf V j) → get_elem? (homes_in j left.homes) i ≡ some (some y) → get_elem? (slots_in j) i ≡ some y
    at_home lock i y e = left.at_home i y e
    at_home cond i y e = absurd (some-ne-none (some y) (sym e))
    at_home sem i y e = absurd (some-ne-none (some y) (sym e))

    -- what is left of a kind
    pub left_in : (j : Which) → Left (meaning_of rule z opening j) (map (in_kind j) passes) [] (w.words j) (slots_in j)
    left_in j = record {
      world = w.each j;
      homes = homes_in j left.homes;
      fits = left.fits.parts j;
      deep = deep j;
      at_home = at_home j;
      passes_fit = passes_fit j;
      roots_fit = All-nil (λ (q : RootShown (RootIn j)). (meaning_of rule z opening j).RootFits (w.each j) q.key q.own);
      once = once j;
    }

    module _ (all : (t : ℕ) → t < z.threads → Any (λ (p : PassShown (LotPassView V)). p.thread ≡ t) passes) where
      all_in : (j : Which) (t : ℕ) → t < z.threads → Any (λ (p : PassShown (PassIn V j)). p.thread ≡ t) (map (in_kind j) passes)
      all_in j t near = some_image (in_kind j) (λ (p : PassShown (PassIn V j)). p.thread ≡ t) passes (all t near)

      -- ---- permits
      pub all_out : (k : ℕ) → w.whole.sems.left k + out_with passes k ≡ permits_of z k
      unfolding left_in
      all_out k =
          let kind = sems.all_out (sem_size z) (map (in_kind sem) passes) [] (w.words sem) [] (left_in sem) (all_in sem) k in
          let same : w.whole.sems.left k ≡ (w.each sem).part.sems.left k =
          ap (λ (a : SemaphorePart). a.sems.left k) (left.fits.agrees sem) in
          let sum = sum_images (in_kind sem) (λ (p : PassShown (PassIn V sem)). get_or p.own.out k 0) passes in
          omega (arith, kind, same, sum)

      module _ (done : All HasDone passes) where
        holds_none : All HoldsNone (map (in_kind lock) passes)
        holds_none = All-map HoldsNone (in_kind lock) passes (All-weaker HasDone (λ p. HoldsNone (in_kind lock p)) (λ p h. h.0) passes done)

        is_in : All IsIn (map (in_kind cond) passes)
        is_in = All-map IsIn (in_kind cond) passes (All-weaker HasDone (λ p. IsIn (in_kind cond p)) (λ p h. h.1) passes done)

        -- ---- the ledger
        pub balanced : (c : ℕ) → called_in passes c ≡ woken_in passes c
        balanced c =
            sym (sum_images (in_kind cond) (λ (p : PassShown (PassIn V cond)). get_or p.own.called c 0) passes)
            ∙ (conds.balanced (cond_size z) (map (in_kind cond) passes) [] (w.words cond) [] (left_in cond) is_in (all_in cond) c
            ∙ sum_images (in_kind cond) (λ (p : PassShown (PassIn V cond)). get_or p.own.woken c 0) passes)

        -- ---- values
        pub last_lies : (l : ℕ) → l < z.locks → (y : V) × (get_elem? ys l ≡ some (Some y))
        last_lies = locks.last_lies rule (lock_size z) opening (map (in_kind lock) passes) [] (w.words lock) ys (left_in lock) holds_none
            (all_in lock)

        module _ (vs : List V) (len : length vs ≡ z.locks)
            (each : (k : ℕ) (y : V) → slice_get vs k ≡ Some y → get_elem? ys k ≡ some (Some y)) where
          of_locks : All (λ (p : PassShown (PassIn V lock)). (l : ℕ) (y : V) → slice_get vs l ≡ Some y → FoundOk rule l p.thread p.own y)
              (map (in_kind lock) passes)
              × ((l : ℕ) (y : V) → slice_get vs l ≡ Some y
              → Any (λ (p : PassShown (PassIn V lock)). HasSeen p.own l y) (map (in_kind lock) passes))
          of_locks =
              locks.last_values rule (lock_size z) opening (map (in_kind lock) passes) [] (w.words lock) ys (left_in lock) holds_none
              (all_in lock) vs len each

          pub last_values : All (λ (p : PassShown (LotPassView V)). (l : ℕ) (y : V) → slice_get vs l ≡ Some y
              → FoundOk rule l p.thread p.own.locks y) passes
              × ((l : ℕ) (y : V) → slice_get vs l ≡ Some y → Any (λ (p : PassShown (LotPassView V)). HasSeen p.own.locks l y) passes)
          last_values = (
            all_images (in_kind lock)
                (λ (p : PassShown (PassIn V lock)). (l : ℕ) (y : V) → slice_get vs l ≡ Some y → FoundOk rule l p.thread p.own y) passes
                of_locks.0,
            λ l y e. some_before (in_kind lock) (λ (p : PassShown (PassIn V lock)). HasSeen p.own l y) passes (of_locks.1 l y e),
          )

        -- ---- where all stand idle
        module _ (idle : All (λ (p : PassShown (LotPassView V)). IsIdle p.own) passes) where
          -- the pass of each thread is here
          pass_of : (t : ℕ) → t < z.threads → (p : PassShown (LotPassView V)) × (p.thread ≡ t) × IsIdle p.own × HasDone p
              × LotPassIs rule z opening w p.thread p.own
          pass_of t near =
              let at = all t near in
              let p = any_all (λ (p : PassShown (LotPassView V)). p.thread ≡ t)
              (λ (p : PassShown (LotPassView V)). LotPassIs rule z opening w p.thread p.own) passes at left.passes_fit in
              let q = any_all (λ (p : PassShown (LotPassView V)). p.thread ≡ t) (λ (p : PassShown (LotPassView V)). IsIdle p.own) passes at
              idle in
              let r = any_all (λ (p : PassShown (LotPassView V)). p.thread ≡ t) HasDone passes at done in
              (p.0, p.1, q.2, r.2, p.2)

          in_lot : (t : ℕ) → IsThread w.whole t → t < z.threads
          in_lot t near = subst (λ (c : HowMany). t < c.threads) left.fits.counts near

          calm : (t : ℕ) → w.whole.point t ≡ Calm
          calm t = elim (cases_lt t w.whole.threads) [
            | inl near ↦
                let it = pass_of t (in_lot t near) in
                subst (λ u. w.whole.point u ≡ Calm) it.1 (idle_calm rule z opening w ws left.homes left.fits it.0.thread it.0.own it.4 it.2)
            | inr far ↦ stranger_calm w.whole t (reached_formed w.whole left.fits.reached) (λ near. omega (arith, near, far))
          ]

          nobody_has : (l t : ℕ) → w.whole.locks.has l t ≡ true → ⊥
          nobody_has l t has_it =
              let it = pass_of t (in_lot t ((reached_formed w.whole left.fits.reached).owners l t has_it).0) in
              it.3.0 l (holds rule z opening w ws left.homes left.fits it.0.thread it.0.own it.4 (it.2.0.up lock) l
              (subst (λ u. w.whole.locks.has l u ≡ true) (sym it.1) has_it))

          pub is_quiet : IsQuiet w.whole
          is_quiet = quiet_of w.whole (reached_sound w.whole left.fits.reached) calm nobody_has

  -- ---- the history
  line_is : (v : LotWorld rule z opening)
      → ((j : Which) → part_in rule z opening j v.whole ≡ ((meaning_of rule z opening j).told_by (v.each j)).part)
      → (c : ℕ) (q : LotRootView)
      → LotRootIs rule z opening v c q → LineIs v.whole c q
  line_is v agrees c (Lock q) h = ap (λ (a : LockPart). a.locks.line c) (agrees lock) ∙ ap (λ (r : LockRootView). r.line) h.1.1
  line_is v agrees c (Cond q) h = ap (λ (a : CondPart). a.conds.line c) (agrees cond) ∙ ap (λ (r : CondRootView). r.line) h.1.1
  line_is v agrees c (Sem q) h = ap (λ (a : SemaphorePart). a.sems.line c) (agrees sem) ∙ h.1.1

  pub told_to : Ended (lot_meaning rule z opening) passes roots ws ys
      → ((t : ℕ) → t < z.threads → Any (λ (p : PassShown (LotPassView V)). p.thread ≡ t) passes) → All HasDone passes
      → IsToldTo z passes roots
  told_to ended all done =
      let told = ended_recounted (lot_meaning rule z opening) passes roots ws ys ended in
      record {
        recounted = told;
        run = one_run z (events_in ended.log) ended.left.world.whole ended.left.fits.reached told.run;
        lines = All-weaker (λ (q : RootShown LotRootView). LotRootIs rule z opening ended.left.world q.key q.own)
            (λ (q : RootShown LotRootView). LineIs ended.left.world.whole q.key q.own)
            (λ q. line_is ended.left.world ended.left.fits.agrees q.key q.own) roots ended.left.roots_fit;
        queued = All-weaker (λ (q : RootShown LotRootView). LotRootIs rule z opening ended.left.world q.key q.own)
            (λ (q : RootShown LotRootView). queued_in q.key ended.log
            ≡ length (tokens_of q.key ended.log) + owed_by q.own + length (line_of_root q.own))
            (λ q is. queued_known rule z opening ended.left.world ws ended.left.homes q.key q.own ended.left.fits is ended.log ended.run
            (ended.owed q.key)) roots ended.left.roots_fit;
        permits = all_out ended.left all;
        quiet = is_quiet ended.left all done;
      }
