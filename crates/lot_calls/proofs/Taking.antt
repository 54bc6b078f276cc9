-- Passes that are taken one after the other, in the order of their threads.
use Rattle.std.proofs.Common.{◌≡◌, ℕ, ◌<◌, ◌+◌, List, [], ◌∷◌, ◌++◌, length, get_or, slice_index_or, ap, sym, subst, ◌∙◌, arith}
use mathlib.Core.Logic.{dite}
use native.Mathlib.Decide.{ℕ_discrete}
use Rattle.std.proofs.lemmas.List.{get_or_append_left}
use Rattle.std.proofs.Math.Seq.{get_or-append_seam}
use Rattle.lot_sync.specs.Lot.{PassView}

module _ {V : Type 0} where
  -- in each place below n lies the pass of the thread of that number
  abbrev pub AreInOrder : List (PassView V) → ℕ → Type 0
  AreInOrder passes n = (t : ℕ) (p : PassView V) → t < n → (slice_index_or passes t p).thread ≡ t

  -- one pass more
  pub one_more_in_order : (before after : List (PassView V)) (pass : PassView V) (n : ℕ) → length before ≡ n → after ≡ before ++ pass ∷ []
      → pass.thread ≡ n → AreInOrder before n → AreInOrder after (n + 1)
  one_more_in_order before after pass n long is thread order t p near = dite (ℕ_discrete t n)
      (λ e. subst (λ (ps : List (PassView V)). (get_or ps t p).thread ≡ t) (sym is)
      (subst (λ (k : ℕ). (get_or (before ++ pass ∷ []) k p).thread ≡ k) (long ∙ sym e)
      (ap (λ (q : PassView V). q.thread) (get_or-append_seam before pass [] p) ∙ (thread ∙ sym long))))
      (λ else. subst (λ (ps : List (PassView V)). (get_or ps t p).thread ≡ t) (sym is)
      (ap (λ (q : PassView V). q.thread) (get_or_append_left before (pass ∷ []) p t (omega (arith, near, else, long)))
      ∙ order t p (omega (arith, near, else))))
