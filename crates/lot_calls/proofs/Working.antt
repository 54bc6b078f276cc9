-- Passes that came back from their work, and what lies in the lot then.
use Rattle.std.proofs.Common.{◌≡◌, ℕ, ◌<◌, Bool, true, false, MatchBool, List, [], ◌∷◌, zero, suc, length, map, get_or, slice_get, Some}
use Rattle.std.proofs.Common.{refl, sym, ap, ap₂, subst, ◌∙◌, arith}
use Rattle.std.specs.List.{sum_by, All}
use mathlib.Core.Option.{some, some-injective}
use lib.ListN.{get_elem?}
use Rattle.lot_rights.proofs.Totals.{any_all}
use Rattle.lot_words.specs.CallersRule.{CallersRule}
use Rattle.lot_words.proofs.Opens.{get_as}
use Rattle.lot_sync.specs.Lot.{LotNames, LotView, PassView, HasSeen}
use Rattle.lot_sync.specs.Opened.{KeepAll}
use Rattle.lot_sync.specs.Values.{GoesOnTo, AreSeen}
use Rattle.lot_calls.specs.Visits.{own_parts}
use Rattle.lot_calls.specs.Finished.{IsReady, AreTaken, IsFinished}
use Rattle.lot_calls.specs.Workers.{EachBecomes, ComesBack, AreBack, MayLeave, HaveGrown, EndsIn, HasWorked}
use Rattle.lot_calls.proofs.Sums.{sum_below, sum_below_alike, sum_of_parts}

-- two lists of which as much is told at each place
pub maps_alike : {A B : Type 0} (f : A → B) (xs ys : List A) → length xs ≡ length ys
    → ((k : ℕ) (u v : A) → slice_get ys k ≡ Some v → get_elem? xs k ≡ some u → f u ≡ f v) → map f ys ≡ map f xs
maps_alike f [] [] long same = refl
maps_alike f [] (y ∷ ys) long same = absurd (omega (arith, long))
maps_alike f (x ∷ xs) [] long same = absurd (omega (arith, long))
maps_alike f (x ∷ xs) (y ∷ ys) long same =
    ap₂ ◌∷◌ (sym (same 0 x y refl refl)) (maps_alike f xs ys (omega (arith, long)) (λ k u v a b. same (suc k) u v a b))

-- what lies at a place lies there, whatever is asked for beyond the end
at_again : {A : Type 0} (xs : List A) (i : ℕ) (d e : A) → i < length xs → get_or xs i e ≡ get_or xs i d
at_again [] i d e near = absurd (omega (arith, near))
at_again (x ∷ xs) zero d e near = refl
at_again (x ∷ xs) (suc i) d e near = at_again xs i d e (omega (arith, near))

-- values that some pass saw last, each of which was in the lot, have grown from the opening's
pub seen_grown : {V Part : Type 0} (rule : CallersRule V Part) (opening : List V) (lot : LotView) (passes : List (PassView V)) (values : List V)
    → All (IsReady rule opening lot) passes → AreSeen values passes → HaveGrown rule opening values
seen_grown rule opening lot passes values ready seen key u v lay lies =
    let (p, saw, was) = any_all (λ (p : PassView _). HasSeen p key v) (IsReady rule opening lot) passes (seen key v lies) ready in
    was.grown key u v lay saw

-- and so have the opening's own
pub same_grown : {V Part : Type 0} (rule : CallersRule V Part) (opening values : List V) → values ≡ opening → HaveGrown rule opening values
same_grown rule opening values same key u v lay lies =
    let there = get_as opening key v (subst (λ xs. slice_get xs key ≡ Some v) same lies) in
    subst (rule.grows u) (some-injective u v (sym lay ∙ there)) (rule.grows_itself u)

-- values that some pass saw last, and that go on from what each had seen, keep the rule
pub seen_kept : {V Part : Type 0} (rule : CallersRule V Part) (passes : List (PassView V)) (values : List V)
    → All (GoesOnTo rule values) passes → AreSeen values passes → KeepAll rule.keeps values
seen_kept rule passes values goes seen key v lies =
    let (p, saw, on) = any_all (λ (p : PassView _). HasSeen p key v) (GoesOnTo rule values) passes (seen key v lies) goes in
    on.kept key v lies

-- what the passes had seen ended in the values
pub all_end : {V Part : Type 0} (rule : CallersRule V Part) (lot : LotView) (passes : List (PassView V)) (values : List V)
    → AreBack lot passes → length values ≡ lot.locks
    → All (GoesOnTo rule values) passes → All (EndsIn rule values) passes
all_end rule lot passes values back count goes i d near =
    let p : PassView _ = get_or passes i d in
    let goes : GoesOnTo rule values p = goes i d near in
    record {
      goes_on = goes;
      own =
          maps_alike (rule.part p.thread) p.seen values ((back.shape i d near).seen ∙ sym count) (λ k u v at seen. goes.mine k u v at seen);
    }

module _ {V Part : Type 0} (rule : CallersRule V Part) (opening : List V) (lot : LotView) (becomes : PassView V → PassView V → Type 0)
    (xs ys : List (PassView V))
    (taken : AreTaken rule opening lot xs) (each : EachBecomes becomes xs ys)
    (back : (p q : PassView V) → IsReady rule opening lot p → becomes p q → ComesBack lot p q) where
  came : (i : ℕ) (d : PassView V) → i < length xs → ComesBack lot (get_or xs i d) (get_or ys i d)
  came i d near = back (get_or xs i d) (get_or ys i d) (taken.ready i d near) (each.each i d near)

  -- all are back
  pub are_back : AreBack lot ys
  are_back = record {
    count = each.count ∙ taken.count;
    all = λ t near.
        let there = taken.all t near in
        let p : PassView V = there.1 in
        let q : PassView V = get_or ys there.0 p in
        let same : q.thread ≡ p.thread = (came there.0 p there.2).same_thread ∙ ap (λ (z : PassView V). z.thread) there.3 in
        (there.0, q, omega (arith, there.2, each.count), at_again ys there.0 p q (omega (arith, there.2, each.count)), same ∙ there.4);
    free = λ i d near. (came i d (omega (arith, near, each.count))).free;
    shape = λ i d near. (came i d (omega (arith, near, each.count))).shape;
  }

  -- each has worked
  pub has_worked : (values : List V) → All (EndsIn rule values) ys → (t : ℕ) → t < lot.threads → HasWorked rule opening lot becomes values t
  has_worked values ends t near =
      let there = taken.all t near in
      let p : PassView V = there.1 in
      let q : PassView V = get_or ys there.0 p in
      let end : EndsIn rule values q = ends there.0 p (omega (arith, there.2, each.count)) in
      let same : q.thread ≡ t = (came there.0 p there.2).same_thread ∙ (ap (λ (z : PassView V). z.thread) there.3 ∙ there.4) in
      record {
        before = p;
        after = q;
        ready = subst (IsReady rule opening lot) there.3 (taken.ready there.0 p there.2);
        worked = subst (λ x. becomes x q) there.3 (each.each there.0 p there.2);
        same_thread = same;
        goes_on = end.goes_on;
        own = subst (λ n. map (rule.part n) values ≡ own_parts rule q) same end.own;
      }

-- passes that were ready, and were worked with or not, may leave, where the work gives back such
pub may_leave : {V Part : Type 0} (rule : CallersRule V Part) {opening : List V} {lot : LotView}
    {becomes : PassView V → PassView V → Type 0}
    (xs ys : List (PassView V)) (worked : Bool)
    → All (IsReady rule opening lot) xs → MatchBool worked (EachBecomes becomes xs ys) (ys ≡ xs)
    → ((p q : PassView V) → IsReady rule opening lot p → becomes p q → MayLeave rule q)
    → All (MayLeave rule) ys
may_leave rule xs ys true ready each may = λ i d near.
    let near' : i < length xs = omega (arith, near, each.count) in may (get_or xs i d) (get_or ys i d) (ready i d near')
    (each.each i d near')
may_leave rule xs ys false ready same may =
    subst (All (MayLeave rule)) (sym same) (λ i d near. let r = ready i d near in record { free = r.free; rests = r.rests })

-- and all passes, which were worked with or not, are back
pub are_back_anyway : {V Part : Type 0} (rule : CallersRule V Part) {opening : List V} {lot : LotView}
    {becomes : PassView V → PassView V → Type 0}
    (xs ys : List (PassView V)) (worked : Bool)
    → AreTaken rule opening lot xs → MatchBool worked (EachBecomes becomes xs ys) (ys ≡ xs)
    → ((p q : PassView V) → IsReady rule opening lot p → becomes p q → ComesBack lot p q)
    → AreBack lot ys
are_back_anyway rule {opening} {lot} {becomes} xs ys true taken each back = are_back rule opening lot becomes xs ys taken each back
are_back_anyway rule {opening} {lot} {becomes} xs ys false taken same back =
    are_back rule opening lot (λ p q. q ≡ p) xs ys taken
    (subst (EachBecomes (λ p q. q ≡ p) xs) (sym same) (record { count = refl; each = λ i d near. refl }))
    (λ p q ready is. subst (ComesBack lot p) (sym is) (record { same_thread = refl; free = ready.free; shape = ready.shape }))

module _ {V Part : Type 0} (rule : CallersRule V Part) (names : LotNames V) (lot : LotView) where
  -- a lot that was finished, as one whose passes came back as they were taken
  pub has_finished : (values : List V) (called woken : List ℕ) → IsFinished rule names lot values called woken → length values ≡ lot.locks
      → (t : ℕ) → t < lot.threads → HasWorked rule names.values lot (λ p q. q ≡ p) values t
  has_finished values called woken finished count =
      let opening = names.values in
      let same : EachBecomes (λ p q. q ≡ p) finished.passes finished.passes = record { count = refl; each = λ i d near. refl } in
      let back : (p q : PassView V) → IsReady rule opening lot p → q ≡ p → ComesBack lot p q =
      λ p q ready is. subst (ComesBack lot p) (sym is) (record { same_thread = refl; free = ready.free; shape = ready.shape }) in
      has_worked rule opening lot (λ p q. q ≡ p) finished.passes finished.passes finished.taken same back values
      (all_end rule lot finished.passes values
      (are_back rule opening lot (λ p q. q ≡ p) finished.passes finished.passes finished.taken same back) count finished.goes_on)

module _ {V Part : Type 0} (rule : CallersRule V Part) (opening : List V) (lot : LotView) where
  -- where each value comes to what its parts come to, and each thread's parts to so much when it came back, all values
  -- come to that of each thread
  pub worked_sum : (becomes : PassView V → PassView V → Type 0) (values : List V) (h : Part → ℕ) (all : V → ℕ) (n c : ℕ) → lot.threads ≡ n
      → ((t : ℕ) → t < lot.threads → HasWorked rule opening lot becomes values t) → 0 < n
      → ((key : ℕ) (v : V) → rule.keeps key v → all v ≡ sum_below n (λ t. h (rule.part t v)))
      → ((p q : PassView V) → IsReady rule opening lot p → becomes p q → sum_by h (own_parts rule q) ≡ c)
      → sum_by all values ≡ sum_below n (λ t. c)
  worked_sum becomes values h all n c threads worked any parts each_came =
      sum_of_parts all rule.part h n values (λ k v at. parts k v ((worked 0 (omega (arith, threads, any))).goes_on.kept k v at))
      ∙ sum_below_alike n (λ t. sum_by h (map (rule.part t) values)) (λ t. c) (λ t near.
      let done = worked t (omega (arith, threads, near)) in
      ap (sum_by h) done.own ∙ each_came done.before done.after done.ready done.worked)

-- passes were taken, worked with and came back, and each thread's parts came to so much then
pub came_to : {V Part : Type 0} (rule : CallersRule V Part) {opening values : List V} {lot : LotView}
    {becomes : PassView V → PassView V → Type 0} {xs ys : List (PassView V)}
    → AreTaken rule opening lot xs → EachBecomes becomes xs ys → All (EndsIn rule values) ys
    → ((p q : PassView V) → IsReady rule opening lot p → becomes p q → ComesBack lot p q) → (h : Part → ℕ) (all : V → ℕ) (n c : ℕ)
    → lot.threads ≡ n → 0 < n
    → ((key : ℕ) (v : V) → rule.keeps key v → all v ≡ sum_below n (λ t. h (rule.part t v)))
    → ((p q : PassView V) → IsReady rule opening lot p → becomes p q → sum_by h (own_parts rule q) ≡ c)
    → sum_by all values ≡ sum_below n (λ t. c)
came_to rule {opening} {values} {lot} {becomes} {xs} {ys} taken each ends back h all n c threads any parts came =
    worked_sum rule opening lot becomes values h all n c threads
    (has_worked rule opening lot becomes xs ys taken each back values ends) any parts came
