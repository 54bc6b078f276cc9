-- The turns of an access that changes nothing but the history.
use Rattle.std.proofs.Common.{◌≡◌, ℕ, ◌*◌, List, get_or, set, sym, ap, subst, ◌∙◌}
use Rattle.std.proofs.lemmas.List.{set-get_or}
use mathlib.Core.Option.{Option}
use Rattle.lot_rights.specs.declared.views.Access.{Access}
use Rattle.lot_rights.specs.Rule.{Meaning}
use Rattle.lot_rights.specs.Shown.{PassShown, RootShown}
use Rattle.lot_rights.specs.Steps.{pass_after, IsMade, IsOwed, CountsNothing, CountsRoot, PassTurn, BothTurn}

-- what was found is stored again
pub same_words : (ws : List ℕ) (i x : ℕ) → x ≡ get_or ws i 0 → ws ≡ set ws i x
same_words ws i x is = sym (ap (set ws i) is ∙ set-get_or ws i 0)

module _ {S P R : Type 0} (k : Meaning S P R) (i x : ℕ) (w : k.World) (ws : List ℕ) (hs : List (Option S)) (fits : k.Fits w ws hs)
    (same : x ≡ get_or ws i 0) (p : PassShown P)
    (pass : k.PassFits w p.thread p.own)
    (a : Access) (made : IsMade k (2 * p.thread) w a w) (owed : IsOwed k w a w) where
  pub pass_stays : CountsNothing a → (then : PassShown P → Type 0) → ((n : ℕ) → then (pass_after p p.own n a))
      → PassTurn k i x p then w ws hs
  pass_stays none then told = record {
    own = p.own;
    access = a;
    world = w;
    fits = subst (λ z. k.Fits w z hs) (same_words ws i x same) fits;
    pass = pass;
    passes = λ u y ne h. h;
    roots = λ d y h. h;
    made = made;
    owed = owed;
    counted = none;
    told = told;
  }

  pub both_stay : (q : RootShown R) → CountsRoot q (k.owed_in w q.key) a → (then : PassShown P → RootShown R → Type 0)
      → k.RootFits w q.key q.own
      → ((n : ℕ) → then (pass_after p p.own n a) (record q { own = q.own }))
      → BothTurn k i x p q then w ws hs
  both_stay q counts then root told = record {
    own = p.own;
    its = q.own;
    access = a;
    world = w;
    fits = subst (λ z. k.Fits w z hs) (same_words ws i x same) fits;
    pass = pass;
    root = root;
    passes = λ u y ne h. h;
    roots = λ d y ne h. h;
    made = made;
    owed = owed;
    counted = counts;
    told = told;
  }
