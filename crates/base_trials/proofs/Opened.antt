-- The rights of a lot for three threads, as the opening made them; and back again, one after the other.
use Rattle.std.proofs.Common.{◌≡◌, ℕ, zero, suc, ◌+◌, ◌<◌, List, [], ◌∷◌, ◌++◌, length, length-append, replicate, get_or}
use Rattle.std.proofs.Common.{slice_get, Some, refl, sym, ap, subst, ◌∙◌, arith}
use Rattle.std.specs.List.{All}
use Rattle.std.proofs.lemmas.List.Elements.{All-nil, All-push}
use Rattle.atomic_table.specs.Seated.{TableId}
use Rattle.lot_rights.specs.Shown.{PassShown, RootShown, root_at_table}
use Rattle.lot_rights.specs.Start.{new_root}
use Rattle.lot_rights.proofs.Deals.{get_before, get_last}
use Rattle.lot_rights.proofs.Turns.{all_by_place, some_by_place}
use Rattle.lot_rights.proofs.Dealt.{AllBack, none_back, one_back}
use Rattle.lot_words.specs.declared.views.Hold.TheVariants.{NotHeld}
use Rattle.lot_words.specs.World.{IsHeld}
use Rattle.lot_whole.specs.Closing.{HasDone}
use Rattle.lot_whole.specs.declared.views.LotPassView.{LotPassView}
use Rattle.lot_whole.specs.declared.views.LotRootView.{LotRootView}
use Rattle.lot_whole.specs.Family.{lock, cond, sem, LotSize}
use Rattle.lot_whole.specs.Lot.{fresh_pass, fresh_root}
use Rattle.lot_whole.specs.Standing.{IsUp}
use Rattle.lot_park.specs.Lots.{Appends}
use Rattle.lot_scheme.specs.Roots.{root_view}
use Rattle.lot_scheme.specs.Standing.{LotStanding, standing}
use Rattle.base_trials.specs.Calm.{IsCalm}
use Rattle.base_trials.specs.Opened.{fresh_at, size_of, IsUntouched, AreBack, AreFreshRoots, AreRootsBack}
use Rattle.base_trials.proofs.Calm.{calm_done}

-- ---- as the opening made them
unheld : (n l : ℕ) → ¬ IsHeld (get_or (replicate n NotHeld) l NotHeld)
unheld zero l held = held
unheld (suc n) zero held = held
unheld (suc n) (suc l) held = unheld n l held

-- with as many values as locks, and no permits
pub opened_size : (size : LotSize) (locks conds values : ℕ) (permits : List ℕ)
    → size ≡ record { threads = 3; locks = values; conds = conds; permits = permits } → values ≡ locks → permits ≡ []
    → size ≡ size_of locks conds
opened_size size locks conds values permits is all none =
    is ∙ (λ i. record { threads = 3; locks = all i; conds = conds; permits = none i })

module _ {V : Type 0} (table : TableId) (locks conds : ℕ) (values : List V) where
  fresh_up : IsUp (fresh_pass (size_of locks conds) values)
  fresh_up lock = refl
  fresh_up cond = refl
  fresh_up sem = refl

  pub fresh_is : (t : ℕ) (p : PassShown (LotPassView V)) (now : LotStanding V) → p ≡ fresh_at table (size_of locks conds) values t
      → now ≡ standing p → IsUntouched (locks + conds) t now
  fresh_is t p now is stood = subst (IsUntouched (locks + conds) t) (sym (stood ∙ ap standing is)) (
    record {
      there = record { thread = refl; up = fresh_up; out = refl; sweeps = refl; seeks = refl; stand = refl };
      aim = refl;
      none = λ l. unheld (length values) l;
    },
    refl,
  )

-- ---- back again
module _ {V : Type 0} (table : TableId) where
  -- the passes of the first n threads are back
  pub record Gathered (n : ℕ) (passes : List (PassShown (LotPassView V))) : Type 0 where
    pub named : All (λ (p : PassShown (LotPassView V)). p.table ≡ table) passes
    pub done : All HasDone passes
    pub threads : AllBack (λ (p : PassShown (LotPassView V)). p.thread) n passes

  pub none_gathered : (passes : List (PassShown (LotPassView V))) → passes ≡ [] → Gathered 0 passes
  none_gathered passes none = subst (Gathered 0) (sym none) (record {
    named = All-nil (λ (p : PassShown (LotPassView V)). p.table ≡ table);
    done = All-nil HasDone;
    threads = none_back (λ (p : PassShown (LotPassView V)). p.thread) [];
  })

  pub one_gathered : (n : ℕ) (xs ys : List (PassShown (LotPassView V))) (now : LotStanding V) (p : PassShown (LotPassView V))
      → ys ≡ xs ++ p ∷ [] → now ≡ standing p
      → p.table ≡ table → IsCalm n now → Gathered n xs → Gathered (n + 1) ys
  one_gathered n xs ys now p is same named calm before = record {
    named = subst (All (λ (q : PassShown (LotPassView V)). q.table ≡ table)) (sym is)
        (All-push (λ (q : PassShown (LotPassView V)). q.table ≡ table) xs p before.named named);
    done = subst (All HasDone) (sym is) (All-push HasDone xs p before.done (calm_done n now p same calm));
    threads = one_back (λ (q : PassShown (LotPassView V)). q.thread) n xs ys p is (ap (λ (s : LotStanding V). s.thread) (sym same)
        ∙ calm.there.thread) before.threads;
  }

  pub all_gathered : (passes : List (PassShown (LotPassView V))) → Gathered 3 passes → AreBack table passes
  all_gathered passes all = record { named = all.named; done = all.done; threads = all.threads }

-- ---- the same of roots
module _ (table : TableId) where
  pub record RootsBack (n : ℕ) (roots : List (RootShown LotRootView)) : Type 0 where
    pub named : All (λ (q : RootShown LotRootView). q.table ≡ table) roots
    pub keys : AllBack (λ (q : RootShown LotRootView). q.key) n roots

  pub no_root_back : (roots : List (RootShown LotRootView)) → roots ≡ [] → RootsBack 0 roots
  no_root_back roots none = subst (RootsBack 0) (sym none) (record {
    named = All-nil (λ (q : RootShown LotRootView). q.table ≡ table);
    keys = none_back (λ (q : RootShown LotRootView). q.key) [];
  })

  pub one_root_back : (n : ℕ) (xs ys : List (RootShown LotRootView)) (q : RootShown LotRootView) → ys ≡ xs ++ q ∷ [] → q.table ≡ table
      → q.key ≡ n
      → RootsBack n xs → RootsBack (n + 1) ys
  one_root_back n xs ys q is named key before = record {
    named = subst (All (λ (r : RootShown LotRootView). r.table ≡ table)) (sym is)
        (All-push (λ (r : RootShown LotRootView). r.table ≡ table) xs q before.named named);
    keys = one_back (λ (r : RootShown LotRootView). r.key) n xs ys q is key before.keys;
  }

  pub roots_back : (roots : List (RootShown LotRootView)) → RootsBack 3 roots → AreRootsBack table 3 roots
  roots_back roots all = record { named = all.named; each = all.keys }

-- those that nobody used are back
pub fresh_back : (table : TableId) (locks conds : ℕ) (roots : List (RootShown LotRootView)) → AreFreshRoots table locks conds roots
    → AreRootsBack table (locks + conds) roots
fresh_back table locks conds roots fresh =
    let own : ℕ → RootShown LotRootView = λ c. root_at_table table (new_root (fresh_root (size_of locks conds)) c) in
    let at : (c : ℕ) → c < length roots → slice_get roots c ≡ Some (own c) = λ c near. fresh.each c (subst (λ n. c < n) fresh.long near) in
    record {
      named = all_by_place (λ (q : RootShown LotRootView). q.table ≡ table) own roots at (λ c near. refl);
      each = λ c near. some_by_place (λ (q : RootShown LotRootView). q.key ≡ c) own roots at c
          (subst (λ n. c < n) (sym fresh.long) near) refl;
    }

-- ---- of a list that is known by its places
-- each item of the first n is what its place asks for
abbrev pub ByPlace : {A : Type 0} → (ℕ → A → Type 0) → ℕ → List A → Type 0
ByPlace {A} P n xs = (length xs ≡ n) × ((i : ℕ) → i < n → (x : A) → slice_get xs i ≡ Some x → P i x)

pub last_by_place : {A : Type 0} (P : ℕ → A → Type 0) (n : ℕ) (xs ys : List A) (x : A) → xs ≡ ys ++ x ∷ [] → ByPlace P (n + 1) xs
    → P n x × ByPlace P n ys
last_by_place P n xs ys x is (long, each) =
    let len : length ys ≡ n = (let whole = ap length is ∙ length-append ys (x ∷ []) in omega (arith, long, whole)) in (
      each n (omega arith) x (ap (λ zs. slice_get zs n) is ∙ subst (λ k. slice_get (ys ++ x ∷ []) k ≡ Some x) len (get_last ys x)),
      (
        len,
        λ i near y at. each i (omega (arith, near)) y (ap (λ zs. slice_get zs i) is ∙ (get_before ys x i (omega (arith, near, len))
            ∙ at)),
      ),
    )

pub three_named : (xs ys zs left : List (RootShown LotRootView)) (third second first : RootShown LotRootView) → Appends root_view 3 [] xs
    → xs ≡ ys ++ third ∷ [] → ys ≡ zs ++ second ∷ [] → zs ≡ left ++ first ∷ []
    → (first.key ≡ 0) × (second.key ≡ 1) × (third.key ≡ 2)
three_named xs ys zs left third second first all a b c =
    let Names : ℕ → RootShown LotRootView → Type 0 = λ i q. q.key ≡ i in
    let whole : ByPlace Names 3 xs = (
      ap length all.appended ∙ all.each,
      λ i near q at. all.named i q
          (sym (ap (λ qs. slice_get qs i) all.appended) ∙ at),
    ) in
    let last = last_by_place Names 2 xs ys third a whole in
    let mid = last_by_place Names 1 ys zs second b last.1 in
    let one = last_by_place Names 0 zs left first c mid.1 in
    (one.0, mid.0, last.0)

-- a lot that was closed gave its roots back into an empty list
pub appends_all : (keys : ℕ) (before after : List (RootShown LotRootView)) → before ≡ [] → keys ≡ 3
    → Appends root_view keys before after → Appends root_view 3 [] after
appends_all keys before after none three all =
    subst (λ n. Appends root_view n [] after) three (subst (λ (qs : List (RootShown LotRootView)). Appends root_view keys qs after) none
    all)
