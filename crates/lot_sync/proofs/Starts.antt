-- The rights of an opening, and the values that come back when nobody got a lock.
use Rattle.std.proofs.Common.{◌≡◌, ℕ, ◌+◌, ◌-◌, ◌<◌, ◌≤◌, false, List, [], ◌∷◌, zero, suc, length, get_or, replicate}
use Rattle.std.proofs.Common.{slice_get, slice_index, Some, refl, sym, ap, subst, ◌∙◌, ⊎_elim, arith}
use Rattle.std.specs.Prelude.{nat_lt, if◌then◌else◌}
use Rattle.std.proofs.lemmas.Bool.{cases_lt, lt-ltb, le-ltb}
use Rattle.std.proofs.lemmas.List.{length-replicate}
use mathlib.Core.Option.{some, some-injective}
use lib.ListN.{get_elem?}
use Rattle.std.specs.List.{All, Any}
use Rattle.lot_rights.specs.Shown.{PassShown, RootShown}
use Rattle.lot_rights.specs.Start.{pass_at, root_at}
use Rattle.lot_rights.proofs.Totals.{any_all}
use Rattle.lot_rights.proofs.Turns.{stands_at, all_by_place, some_by_place}
use Rattle.lot_words.specs.declared.views.Hold.TheVariants.{NotHeld}
use Rattle.lot_words.specs.declared.views.Place.TheVariants.{Out}
use Rattle.lot_words.specs.CallersRule.{CallersRule}
use Rattle.lot_words.specs.World.{IsHeld}
use Rattle.lot_words.specs.Values.{HasSeen}
use Rattle.lot_words.specs.Rule.{fresh_root as lock_fresh}
use Rattle.lot_conds.specs.Rule.{fresh_root as cond_fresh}
use Rattle.lot_sems.specs.Rule.{fresh_root as sem_fresh}
use Rattle.lot_table.specs.Roots.{AreIdle}
use Rattle.lot_whole.specs.declared.views.LotPassView.{LotPassView}
use Rattle.lot_whole.specs.declared.views.LotRootView.{LotRootView}
use Rattle.lot_whole.specs.declared.views.LotRootView.TheVariants.{Lock, Cond, Sem}
use Rattle.lot_whole.specs.Closing.{HasDone}
use Rattle.lot_whole.specs.Family.{Which, lock, cond, sem, LotSize, key_count, away}
use Rattle.lot_whole.specs.Lot.{line_of_root, own_of, fresh_pass, fresh_root}
use Rattle.lot_whole.specs.Shown.{LotWordsShown, lot_of}
use Rattle.atomic_table.specs.Seated.{TableId}
use Rattle.lot_scheme.specs.Counts.{IsUnused}
use Rattle.lot_scheme.specs.Roots.{IsInItsKind, root_view, owes_in}
use Rattle.lot_scheme.specs.Standing.{standing}
use Rattle.lot_sync.specs.Lot.{LotNames}
use Rattle.lot_sync.specs.Passes.{IsAtRest, pass_view_shown}
use Rattle.lot_sync.specs.Opened.{IsOpened, opened_as}
use Rattle.lot_sync.specs.Starting.{Starts, IsNewPass}
use Rattle.lot_sync.proofs.Rests.{owned_held}

-- ---- numbers of nothing
zero_at : (n k : ℕ) → slice_index (replicate {A = ℕ} n 0) k ≡ 0
zero_at zero k = refl
zero_at (suc n) zero = refl
zero_at (suc n) (suc k) = zero_at n k

unheld : (m l : ℕ) → ¬ IsHeld (get_or (replicate m NotHeld) l NotHeld)
unheld zero l is = is
unheld (suc m) zero is = is
unheld (suc m) (suc l) is = unheld m l is

-- ---- rights of an opening
nobody_away : (V : Type 0) (z : LotSize) (xs : List V) (j : Which) → away V j (own_of V (fresh_pass z xs) j) ≡ false
nobody_away V z xs lock = refl
nobody_away V z xs cond = refl
nobody_away V z xs sem = refl

-- what is so of a root of each kind is so of the root of a key, which is of the kind that its number tells
fresh_by_kind : (P : LotRootView → Type 0) (z : LotSize) (c : ℕ) → (c < z.locks → P (Lock lock_fresh)) → (z.locks ≤ c
    → c < z.locks + z.conds → P (Cond cond_fresh))
    → (z.locks ≤ c → z.locks + z.conds ≤ c → P (Sem sem_fresh)) → P (fresh_root z c)
fresh_by_kind P z c locks conds sems = ⊎_elim {C = P (fresh_root z c)}
    (λ here. subst (λ b. P (if b then Lock lock_fresh else (if nat_lt c (z.locks + z.conds) then Cond cond_fresh else Sem sem_fresh)))
    (sym (lt-ltb c z.locks here)) (locks here))
    (λ past. subst (λ b. P (if b then Lock lock_fresh else (if nat_lt c (z.locks + z.conds) then Cond cond_fresh else Sem sem_fresh)))
    (sym (le-ltb c z.locks past))
    (⊎_elim {C = P (if nat_lt c (z.locks + z.conds) then Cond cond_fresh else Sem sem_fresh)}
    (λ here. subst (λ b. P (if b then Cond cond_fresh else Sem sem_fresh)) (sym (lt-ltb c (z.locks + z.conds) here)) (conds past here))
    (λ behind. subst (λ b. P (if b then Cond cond_fresh else Sem sem_fresh)) (sym (le-ltb c (z.locks + z.conds) behind)) (sems past behind))
    (cases_lt c (z.locks + z.conds))))
    (cases_lt c z.locks)

fresh_kind : (z : LotSize) (c : ℕ) → IsInItsKind z.locks (z.locks + z.conds) c (fresh_root z c)
fresh_kind z c = fresh_by_kind (IsInItsKind z.locks (z.locks + z.conds) c) z c (λ near. near) (λ past near. (past, near))
    (λ past behind. (past, behind))

-- nobody has parked on the key yet
fresh_unused : (z : LotSize) (c : ℕ) (table : TableId) → IsUnused (record { table = table; key = c; made = []; own = fresh_root z c })
fresh_unused z c table = record {
  made_none = refl;
  nobody = fresh_by_kind (λ q. line_of_root q ≡ []) z c (λ h. refl) (λ h k. refl) (λ h k. refl);
  owes_none = fresh_by_kind (λ q. owes_in q ≡ []) z c (λ h. refl) (λ h k. refl) (λ h k. refl);
}

same_by_place : {A : Type 0} (xs ys : List A) → length xs ≡ length ys → ((i : ℕ) (x : A) → slice_get xs i ≡ Some x
    → get_elem? ys i ≡ some x) → xs ≡ ys
same_by_place [] [] e same = refl
same_by_place [] (y ∷ ys) e same = absurd (omega (arith, e))
same_by_place (x ∷ xs) [] e same = absurd (omega (arith, e))
same_by_place (x ∷ xs) (y ∷ ys) e same =
    ap (λ z. z ∷ xs) (sym (some-injective y x (same zero x refl)))
    ∙ ap (λ zs. y ∷ zs) (same_by_place xs ys (omega (arith, e)) (λ i z at. same (suc i) z at))

module _ {V Part : Type 0} (rule : CallersRule V Part) (words : LotWordsShown V) (passes : List (PassShown (LotPassView V)))
    (roots : List (RootShown LotRootView))
    (threads locks conds sems : ℕ) (opened : IsOpened rule words passes roots threads locks conds sems) where
  abbrev new_at : ℕ → PassShown (LotPassView V)
  new_at t = pass_at (lot_of rule words) words.table t

  abbrev own_root : ℕ → RootShown LotRootView
  own_root c = root_at (lot_of rule words) words.table c

  passes_at : (t : ℕ) → t < length passes → slice_get passes t ≡ Some (new_at t)
  passes_at t near = opened.passes_are t (subst (λ n. t < n) opened.passes_long near)

  roots_at : (c : ℕ) → c < length roots → slice_get roots c ≡ Some (own_root c)
  roots_at c near = opened.roots_are c (subst (λ n. c < n) opened.roots_long near)

  starts_at : (t : ℕ) → t < words.size.threads → Starts words.values words.size.threads (pass_view_shown (new_at t))
  starts_at t near = record {
    is_thread = near;
    free = record {
      no_lock = λ key owns. unheld (length words.values) key (owned_held (replicate (length words.values) NotHeld) key owns);
      no_permit = zero_at (key_count words.size);
    };
    saw = refl;
    called_none = zero_at (words.size.locks + words.size.conds);
    woken_none = zero_at (words.size.locks + words.size.conds);
    made_none = refl;
  }

  rest_at : (t : ℕ) → t < words.size.threads → IsAtRest rule.grows (opened_as words) (standing (new_at t))
  rest_at t near = record {
    of_lot = record {
      is_thread = near;
      holds_long = length-replicate (length words.values) NotHeld ∙ sym opened.a_lock_each;
      places_long = length-replicate (length words.values) Out ∙ sym opened.a_lock_each;
      seen_long = sym opened.a_lock_each;
      called_long = length-replicate (words.size.locks + words.size.conds) 0;
      woken_long = length-replicate (words.size.locks + words.size.conds) 0;
      permits_long = length-replicate (key_count words.size) 0;
      grown = λ l u v o s. subst (rule.grows u) (some-injective u v (sym o ∙ s)) (rule.grows_itself u);
    };
    idle = (record { up = nobody_away V words.size words.values; aim = refl; sweeps = refl; seeks = refl }, refl);
    out = λ l holds. absurd (unheld (length words.values) l holds);
  }

  fresh_at : (t : ℕ) → t < words.size.threads → IsNewPass rule.grows (opened_as words) (new_at t)
  fresh_at t near = record { is_of = refl; rest = rest_at t near; starts = starts_at t near; none_called = refl; none_woken = refl }

  pub passes_fresh : All (IsNewPass rule.grows (opened_as words)) passes
  passes_fresh = all_by_place (IsNewPass rule.grows (opened_as words)) new_at passes passes_at (λ t near. fresh_at t (subst
      (λ n. t < n) opened.passes_long near))

  -- the same under the name of the lot
  pub fresh_named : (names : LotNames V) → names ≡ opened_as words → All (IsNewPass rule.grows names) passes
  fresh_named names named = subst (λ ns. All (IsNewPass rule.grows ns) passes) (sym named) passes_fresh

  pub passes_own : All (λ (p : PassShown (LotPassView V)). p.table ≡ words.table) passes
  passes_own = all_by_place (λ (p : PassShown (LotPassView V)). p.table ≡ words.table) new_at passes passes_at (λ t near. refl)

  pub passes_done : All HasDone passes
  passes_done = all_by_place HasDone new_at passes passes_at (λ t near. ((λ l. unheld (length words.values) l), refl))

  pub each_thread : (t : ℕ) → t < words.size.threads → Any (λ (p : PassShown (LotPassView V)). p.thread ≡ t) passes
  each_thread t near = some_by_place (λ (p : PassShown (LotPassView V)). p.thread ≡ t) new_at passes passes_at t (subst
      (λ n. t < n) (sym opened.passes_long) near) refl

  pub roots_own : All (λ (q : RootShown LotRootView). q.table ≡ words.table) roots
  roots_own = all_by_place (λ (q : RootShown LotRootView). q.table ≡ words.table) own_root roots roots_at (λ c near. refl)

  pub each_key : (c : ℕ) → c < key_count words.size → Any (λ (q : RootShown LotRootView). q.key ≡ c) roots
  each_key c near = some_by_place (λ (q : RootShown LotRootView). q.key ≡ c) own_root roots roots_at c (subst (λ n. c < n)
      (sym opened.roots_long) near) refl

  -- each root is of the kind that its number tells, under the name of the lot
  pub roots_named : (names : LotNames V) → names ≡ opened_as words
      → All (λ (r : RootShown LotRootView). (r.table ≡ names.opening.locks)
      × IsInItsKind names.locks names.first_sem r.key r.own × IsUnused r) roots
  roots_named names named = subst (λ (ns : LotNames V). All (λ (r : RootShown LotRootView).
      (r.table ≡ ns.opening.locks) × IsInItsKind ns.locks ns.first_sem r.key r.own × IsUnused r) roots) (sym named)
      (all_by_place (λ (r : RootShown LotRootView). (r.table ≡ words.table) × IsInItsKind words.size.locks
      (words.size.locks + words.size.conds) r.key r.own × IsUnused r)
      own_root roots roots_at (λ c near. (refl, fresh_kind words.size c, fresh_unused words.size c words.table)))

  pub roots_idle : AreIdle root_view roots
  roots_idle i root at =
      let e : root ≡ own_root i = (stands_at own_root roots roots_at i root at).1 in
      record {
        named = ap (λ (r : RootShown LotRootView). r.key) e;
        same_line = ap (λ (r : RootShown LotRootView). line_of_root r.own) e ∙ (fresh_unused words.size i words.table).nobody;
        paid = ap (λ (r : RootShown LotRootView). owes_in r.own) e ∙ (fresh_unused words.size i words.table).owes_none;
      }

  -- each value that comes back is one that a pass saw, and all have seen the opening values
  pub values_back : (back : List V) → length back ≡ words.size.locks
      → ((l : ℕ) (y : V) → slice_get back l ≡ Some y → Any (λ (p : PassShown (LotPassView V)). HasSeen p.own.locks l y) passes)
      → back ≡ words.values
  values_back back long left = same_by_place back words.values (long ∙ opened.a_lock_each) (λ l y at.
      let saw = any_all (λ (p : PassShown (LotPassView V)). HasSeen p.own.locks l y) (λ (p : PassShown
      (LotPassView V)). p.own.locks.seen ≡ words.values) passes (left l y at) seen_all in
      subst (λ xs. get_elem? xs l ≡ some y) saw.2 saw.1)
    where
      seen_all : All (λ (p : PassShown (LotPassView V)). p.own.locks.seen ≡ words.values) passes
      seen_all = all_by_place (λ (p : PassShown (LotPassView V)). p.own.locks.seen ≡ words.values) new_at passes passes_at
          (λ t near. refl)
