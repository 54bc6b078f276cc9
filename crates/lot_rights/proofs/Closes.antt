-- What the last state tells, when all rights that were given back are at one seat.
use Rattle.std.proofs.Common.{◌≡◌, ℕ, ◌+◌, ◌≤◌, List, [], ◌∷◌, ◌++◌, length, map, reverse, refl, ap, subst, arith}
use Rattle.std.specs.List.{All}
use Rattle.std.proofs.lemmas.List.{reverse-append}
use Rattle.std.proofs.lemmas.List.Elements.{All-nil, All-cons}
use mathlib.Core.Option.{some}
use lib.ListN.{get_elem?}
use Rattle.atomic_table.specs.Table.{State}
use Rattle.lot_rights.specs.declared.views.Right.{Right}
use Rattle.lot_rights.specs.declared.views.Right.TheVariants.{Pass, Root}
use Rattle.lot_rights.specs.Seating.{times, Each}
use Rattle.lot_rights.specs.History.{Noted}
use Rattle.lot_rights.specs.Rule.{number, made_with, Meaning, RightFits, Ruled}
use Rattle.lot_rights.specs.Shown.{PassShown, RootShown, right_of_pass, right_of_root}
use Rattle.lot_rights.specs.Closing.{passes_in, roots_in, Ended, IsRecounted}
use Rattle.lot_rights.proofs.Seats.{times_append, times_one}
use Rattle.lot_rights.proofs.Settling.{run_of_events}
use Rattle.lot_rights.proofs.Gathers.{each_given, each_left, each_right, all_popped}

-- ---- a list that is turned round
pub all_back : {A : Type 0} (P : A → Type 0) (xs : List A) → All P (reverse xs) → All P xs
all_back P [] h = All-nil P
all_back P (x ∷ xs) h =
    let r = all_popped P (reverse (x ∷ xs)) (reverse xs) x (reverse-append (x ∷ []) xs) h in All-cons P x xs r.1 (all_back P xs r.0)

module _ {A R : Type 0} (num : R → ℕ) (right : A → R) (i : ℕ) where
  times_both : (xs ys : List A) → times num i (map right (xs ++ ys)) ≡ times num i (map right xs) + times num i (map right ys)
  times_both [] ys = omega arith
  times_both (x ∷ xs) ys = omega (arith, times_both xs ys)

  times_back : (xs : List A) → times num i (map right (reverse xs)) ≡ times num i (map right xs)
  times_back [] = refl
  times_back (x ∷ xs) =
      let turned : times num i (map right (reverse (x ∷ xs))) ≡ times num i (map right (reverse xs ++ x ∷ [])) =
      ap (λ z. times num i (map right z)) (reverse-append (x ∷ []) xs) in
      omega (arith, turned, times_both (reverse xs) (x ∷ []), times_back xs)

-- ---- the last state
module _ {S P R : Type 0} (k : Meaning S P R) (s : State S (List (Right P R))) (ru : Ruled k s) (id : ℕ) (v : List (Right P R))
    (at : get_elem? s.views id ≡ some v)
    (passes : List (PassShown P)) (roots : List (RootShown R)) (is : v ≡ passes_in (reverse passes) ++ roots_in (reverse roots)) where
  each_pass : (F : Right P R → Type 0) → Each {R = Right P R} number F v → All (λ (p : PassShown P). F (Pass (right_of_pass p))) passes
  each_pass F e =
      all_back (λ (p : PassShown P). F (Pass (right_of_pass p))) passes
      (each_given (λ (p : PassShown P). Pass (right_of_pass p)) number F (reverse passes)
      (each_left number F (passes_in (reverse passes)) (roots_in (reverse roots)) (subst (Each {R = Right P R} number F) is e)))

  each_root : (F : Right P R → Type 0) → Each {R = Right P R} number F v → All (λ (q : RootShown R). F (Root (right_of_root q))) roots
  each_root F e =
      all_back (λ (q : RootShown R). F (Root (right_of_root q))) roots
      (each_given (λ (q : RootShown R). Root (right_of_root q)) number F (reverse roots)
      (each_right number F (passes_in (reverse passes)) (roots_in (reverse roots)) (subst (Each {R = Right P R} number F) is e)))

  once : (i : ℕ) → times {R = Right P R} number i (passes_in passes ++ roots_in roots) ≤ 1
  once i =
      let here : times {R = Right P R} number i v
      ≡ times {R = Right P R} number i (passes_in (reverse passes) ++ roots_in (reverse roots)) = ap (times {R = Right P R} number i) is in
      omega (
        arith,
        here,
        times_one number i s.views id v at,
        ru.seats.once i,
        times_append {R = Right P R} number i (passes_in (reverse passes)) (roots_in (reverse roots)),
        times_append {R = Right P R} number i (passes_in passes) (roots_in roots),
        times_back {R = Right P R} number (λ (p : PassShown P). Pass (right_of_pass p)) i passes,
        times_back {R = Right P R} number (λ (q : RootShown R). Root (right_of_root q)) i roots,
      )

  pub ends : (ws : List ℕ) (xs : List S) → s.words ≡ ws → length s.homes ≡ length xs
      → ((i : ℕ) (y : S) → get_elem? s.homes i ≡ some (some y) → get_elem? xs i ≡ some y) → Ended k passes roots ws xs
  ends ws xs words deep at_home = record {
    left = record {
      world = ru.world;
      homes = s.homes;
      fits = subst (λ z. k.Fits ru.world z s.homes) words ru.fits;
      deep = deep;
      at_home = at_home;
      passes_fit = each_pass (RightFits k ru.world) (ru.seats.named id v at);
      roots_fit = each_root (RightFits k ru.world) (ru.seats.named id v at);
      once = once;
    };
    log = ru.log;
    run = ru.recorded.run;
    counted = ru.recorded.counted;
    owed = ru.owed;
    passes_made = each_pass (Noted number made_with ru.log) (ru.recorded.listed.told.named id v at);
    roots_made = each_root (Noted number made_with ru.log) (ru.recorded.listed.told.named id v at);
  }

-- what is left to tell when the words are gone
abbrev pub ended_recounted : {S P R : Type 0} (k : Meaning S P R) (passes : List (PassShown P)) (roots : List (RootShown R)) (ws : List ℕ)
    (xs : List S) → Ended k passes roots ws xs
    → IsRecounted k.Step k.word_in k.waiting_in k.IsQueued k.start passes roots
ended_recounted k passes roots ws xs e = record {
  log = e.log;
  part = (k.told_by e.left.world).part;
  letters = (k.told_by e.left.world).letters;
  history = e.run;
  counted = e.counted;
  run = run_of_events k k.start 0 e.log (k.told_by e.left.world) e.run;
  passes_made = e.passes_made;
  roots_made = e.roots_made;
}
