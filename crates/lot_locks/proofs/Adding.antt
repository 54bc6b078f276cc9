-- Accesses more, in one go or in two, and what stays as it was of a pass that wants a lock.
use Rattle.std.proofs.Common.{◌≡◌, ℕ, List, [], ◌∷◌, ◌++◌, inl, inr, refl, sym, ap, ◌∙◌, append_assoc, Some, None}
use Rattle.std.proofs.lemmas.List.{append-nil}
use Rattle.std.proofs.lemmas.List.Elements.{All-nil, All-cons, All-append}
use Rattle.std.specs.List.{All}
use Rattle.lot_rights.specs.declared.views.Access.{Access}
use Rattle.lot_words.specs.declared.views.LockPassView.{LockPassView}
use Rattle.lot_words.specs.Calls.{wanting}
use Rattle.lot_whole.specs.declared.views.LotPassView.{LotPassView}
use Rattle.lot_whole.specs.declared.views.Stand.{Stand}
use Rattle.lot_whole.specs.declared.views.Stand.TheVariants.{Idle}
use Rattle.lot_whole.specs.Family.{lock, cond, sem}
use Rattle.lot_whole.specs.Standing.{IsUp, MayTake, MayWant}
use Rattle.lot_scheme.specs.Standing.{LotStanding, adding}
use Rattle.lot_scheme.specs.Traces.{IsSeek, GetTrace}

pub All-one : {X : Type 0} (P : X → Type 0) (x : X) → P x → All P (x ∷ [])
All-one P x is = All-cons P x [] is (All-nil P)

module _ {V : Type 0} where
  -- no access more
  pub none_added : (p : LotStanding V) → p ≡ adding p []
  none_added p = ap (λ (did : List Access). record p { did = did }) (sym (append-nil p.did))

  -- some, and then some
  pub both_added : (p q : LotStanding V) (a b : List Access) → q ≡ adding (adding p a) b → q ≡ adding p (a ++ b)
  both_added p q a b e = e ∙ ap (λ (did : List Access). record p { did = did }) (append_assoc p.did a b)

  -- whoever is up is so too where what it knows of locks is another, but not whether it sleeps
  pub up_then : (p : LotPassView V) (locks : LockPassView V) (stand : Stand) → locks.asleep ≡ p.locks.asleep → IsUp p
      → IsUp (record p { locks = locks; stand = stand })
  up_then p locks stand same up lock = same ∙ up lock
  up_then p locks stand same up cond = up cond
  up_then p locks stand same up sem = up sem

  pub is_up : (p : LotPassView V) (l : ℕ) → MayTake p l → IsUp p
  is_up p l (inl may) = may.0
  is_up p l (inr may) = may.0.up

  -- whoever may take a lock may try again where it wants that lock by now
  pub may_again : (above : ℕ → ℕ → Type 0) (p : LotPassView V) (l : ℕ) → MayTake p l
      → MayWant above (record p { locks = wanting p.locks l; stand = Idle }) l
  may_again above p l may = (
    inl (up_then p (wanting p.locks l) Idle refl (is_up p l may), refl),
    λ idle. absurd (let e : Some l ≡ None = idle.0.aim in cc),
  )

-- ---- traces
-- more accesses that seek, before a trace that gets the lock
pub sought_before : (t l : ℕ) (front did : List Access) → All (IsSeek t l) front → GetTrace t l did → GetTrace t l (front ++ did)
sought_before t l front did sought (more, last, all, got, is) = (
  front ++ more,
  last,
  All-append (IsSeek t l) front more sought all,
  got,
  ap (λ acts. front ++ acts) is
      ∙ sym (append_assoc front more (last ∷ [])),
)
