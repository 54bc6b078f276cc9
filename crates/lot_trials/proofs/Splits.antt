-- Where an access of one thread stands in the history that all threads have made.
use Rattle.std.proofs.Common.{◌≡◌, ℕ, suc, ◌*◌, ◌==◌, Bool, true, false, cond, List, [], ◌∷◌, ◌++◌, map, refl, sym, ap, subst, ◌∙◌}
use Rattle.std.proofs.Common.{arith}
use Rattle.std.specs.List.{Any}
use Rattle.lot_events.specs.declared.events.Event.{Event}
use Rattle.lot_events.specs.declared.events.Seen.{Seen}
use Rattle.lot_rights.specs.declared.views.Access.{Access}
use Rattle.lot_rights.specs.declared.views.Access.TheVariants.{Makes, Posts, Collects, Finds, Counts}
use Rattle.lot_rights.specs.declared.views.Entry.{Entry}
use Rattle.lot_rights.specs.History.{doer, entries_of, events_in, with_event}
use Rattle.lot_whole.specs.Order.{accesses_of}

-- ---- lists
-- x stands in the list, after these and before those
abbrev pub SplitsAt : {A : Type 0} → List A → List A → A → List A → Type 0
SplitsAt xs front x back = xs ≡ front ++ x ∷ back

no_split : {A : Type 0} (front : List A) (x : A) (back : List A) → SplitsAt [] front x back → ⊥
no_split [] x back e = absurd cc
no_split (y ∷ front) x back e = absurd cc

head_is : {A : Type 0} (x y : A) (xs ys : List A) → x ∷ xs ≡ y ∷ ys → x ≡ y
head_is x y xs ys e = cc

tail_is : {A : Type 0} (x y : A) (xs ys : List A) → x ∷ xs ≡ y ∷ ys → xs ≡ ys
tail_is x y xs ys e = cc

-- what stands in the values of a function comes of one that stands there
record ComesOf {A B : Type 0} (f : A → B) (xs : List A) (front : List B) (y : B) (back : List B) : Type 0 where
  pub before : List A
  pub x : A
  pub after : List A
  pub at : SplitsAt xs before x after
  pub front_is : map f before ≡ front
  pub x_is : f x ≡ y
  pub back_is : map f after ≡ back

comes_of : {A B : Type 0} (f : A → B) (xs : List A) (front : List B) (y : B) (back : List B) → SplitsAt (map f xs) front y back
    → ComesOf f xs front y back
comes_of f [] front y back e = absurd (no_split front y back e)
comes_of f (x ∷ xs) [] y back e = record {
  before = [];
  x = x;
  after = xs;
  at = refl;
  front_is = refl;
  x_is = head_is (f x) y (map f xs) back e;
  back_is = tail_is (f x) y (map f xs) back e;
}
comes_of f (x ∷ xs) (z ∷ front) y back e =
    let rest = comes_of f xs front y back (tail_is (f x) z (map f xs) (front ++ y ∷ back) e) in
    record {
      before = x ∷ rest.before;
      x = rest.x;
      after = rest.after;
      at = ap (λ zs. x ∷ zs) rest.at;
      front_is = ap (λ zs. f x ∷ zs) rest.front_is ∙ ap (λ w. w ∷ front) (head_is (f x) z (map f xs) (front ++ y ∷ back) e);
      x_is = rest.x_is;
      back_is = rest.back_is;
    }

-- ---- the history
-- an entry of the right i stands in the log, after these and before those
record StandsIn (i : ℕ) (log front : List Entry) (e : Entry) (back : List Entry) : Type 0 where
  pub before : List Entry
  pub after : List Entry
  pub at : SplitsAt log before e after
  pub front_is : entries_of i before ≡ front
  pub back_is : entries_of i after ≡ back

stands_at : (i : ℕ) (x : Entry) (xs front : List Entry) (e : Entry) (back : List Entry) (b : Bool) → (doer x.access == i) ≡ b
    → ((fs : List Entry) → SplitsAt (entries_of i xs) fs e back → StandsIn i xs fs e back)
    → SplitsAt (cond b (x ∷ entries_of i xs) (entries_of i xs)) front e back → StandsIn i (x ∷ xs) front e back
stands_at i x xs [] e back true own rest at = record {
  before = [];
  after = xs;
  at = ap (λ y. y ∷ xs) (head_is x e (entries_of i xs) back at);
  front_is = refl;
  back_is = tail_is x e (entries_of i xs) back at;
}
stands_at i x xs (y ∷ front) e back true own rest at =
    let more = rest front (tail_is x y (entries_of i xs) (front ++ e ∷ back) at) in
    record {
      before = x ∷ more.before;
      after = more.after;
      at = ap (λ zs. x ∷ zs) more.at;
      front_is = ap (λ b. cond b (x ∷ entries_of i more.before) (entries_of i more.before)) own
          ∙ (ap (λ zs. x ∷ zs) more.front_is ∙ ap (λ z. z ∷ front) (head_is x y (entries_of i xs) (front ++ e ∷ back) at));
      back_is = more.back_is;
    }
stands_at i x xs front e back false other rest at =
    let more = rest front at in
    record {
      before = x ∷ more.before;
      after = more.after;
      at = ap (λ zs. x ∷ zs) more.at;
      front_is = ap (λ b. cond b (x ∷ entries_of i more.before) (entries_of i more.before)) other ∙ more.front_is;
      back_is = more.back_is;
    }

stands_in : (i : ℕ) (log front : List Entry) (e : Entry) (back : List Entry) → SplitsAt (entries_of i log) front e back
    → StandsIn i log front e back
stands_in i [] front e back at = absurd (no_split front e back at)
stands_in i (x ∷ xs) front e back at = stands_at i x xs front e back (doer x.access == i) refl (λ fs more. stands_in i xs fs e back more) at

-- an access of the thread t stands in the log, after these of its own and before those
pub record IsInLog (t : ℕ) (log : List Entry) (front : List Access) (a : Access) (back : List Access) : Type 0 where
  pub before : List Entry
  pub entry : Entry
  pub after : List Entry
  pub at : SplitsAt log before entry after
  pub front_is : accesses_of (2 * t) before ≡ front
  pub access_is : entry.access ≡ a
  pub back_is : accesses_of (2 * t) after ≡ back

pub is_in_log : (t : ℕ) (log : List Entry) (front : List Access) (a : Access) (back : List Access)
    → SplitsAt (accesses_of (2 * t) log) front a back
    → IsInLog t log front a back
is_in_log t log front a back at =
    let own = comes_of (λ (e : Entry). e.access) (entries_of (2 * t) log) front a back at in
    let there = stands_in (2 * t) log own.before own.x own.after own.at in
    record {
      before = there.before;
      entry = own.x;
      after = there.after;
      at = there.at;
      front_is = ap (map (λ (e : Entry). e.access)) there.front_is ∙ own.front_is;
      access_is = own.x_is;
      back_is = ap (map (λ (e : Entry). e.access)) there.back_is ∙ own.back_is;
    }

-- ---- events
module _ (F : Event × Seen → Type 0) where
  -- what is among the events still is where one is more
  later : (a : Access) (es : List (Event × Seen)) → Any F es → Any F (with_event a es)
  later (Makes e saw) es (k, x, near, is, holds) = (suc k, x, omega (arith, near), is, holds)
  later (Posts c u token) es some = some
  later (Collects u found) es some = some
  later (Finds u c word) es some = some
  later (Counts u c told handed waiting) es some = some

  any_from : (before : List Entry) (x : Entry) (after : List Entry) (e : Event) (saw : Seen) → x.access ≡ Makes e saw → F (e, saw)
      → Any F (events_in (before ++ x ∷ after))
  any_from [] x after e saw is holds =
      subst (λ a. Any F (with_event a (events_in after))) (sym is) (0, (e, saw), omega arith, refl, holds)
  any_from (y ∷ before) x after e saw is holds = later y.access (events_in (before ++ x ∷ after)) (any_from before x after e saw is holds)

  -- an event that stands in the log is one of its events
  pub any_in_log : (log before : List Entry) (x : Entry) (after : List Entry) (e : Event) (saw : Seen) → SplitsAt log before x after
      → x.access ≡ Makes e saw
      → F (e, saw) → Any F (events_in log)
  any_in_log log before x after e saw at is holds = subst (λ xs. Any F (events_in xs)) (sym at) (any_from before x after e saw is holds)
