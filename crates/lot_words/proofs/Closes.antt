-- What a closing tells, when all passes came back and none of them holds a lock.
use Rattle.std.proofs.Common.{◌≡◌, ℕ, ◌<◌, List, length, sym, ap, subst, ◌∙◌, arith, Option, Some, slice_get}
use Rattle.std.specs.List.{All, Any}
use Rattle.std.proofs.lemmas.List.Elements.{All-weaker}
use Rattle.std.proofs.lemmas.Option.{slice_get_within}
use mathlib.Core.Option.{some, some-injective}
use lib.ListN.{get_elem?}
use Rattle.lot_rights.specs.Closing.{Left, Ended}
use Rattle.lot_rights.specs.Shown.{PassShown, RootShown}
use Rattle.lot_rights.specs.World.{PassIs, RootIs}
use Rattle.lot_rights.proofs.Closes.{ended_recounted}
use Rattle.lot_rights.proofs.Totals.{any_all}
use Rattle.lot_words.specs.declared.views.LockPassView.{LockPassView}
use Rattle.lot_words.specs.declared.views.LockRootView.{LockRootView}
use Rattle.lot_words.specs.declared.views.Size.{Size}
use Rattle.lot_words.specs.CallersRule.{CallersRule}
use Rattle.lot_words.specs.World.{LockWorld, Holds}
use Rattle.lot_words.specs.Values.{HasSeen, FoundOk}
use Rattle.lot_words.specs.Rule.{sizes_of, meaning}
use Rattle.lot_words.specs.Closing.{HoldsNone, IsToldTo}
use Rattle.lot_words.proofs.Valuing.{finds_value}

module _ {V Part : Type 0} (rule : CallersRule V Part) (size : Size) (opening : List V) (passes : List (PassShown (LockPassView V)))
    (roots : List (RootShown LockRootView)) (ws : List ℕ) (xs : List (Option V)) where
  pub told_to : Ended (meaning rule size opening) passes roots ws xs → IsToldTo size passes roots
  told_to ended = record {
    recounted = ended_recounted (meaning rule size opening) passes roots ws xs ended;
    lines = All-weaker (λ (q : RootShown LockRootView). RootIs (sizes_of size) ended.left.world q.key q.own)
        (λ (q : RootShown LockRootView). (ended.left.world.root q.key).line ≡ q.own.line)
        (λ q is. ap (λ (z : LockRootView). z.line) is.1) roots ended.left.roots_fit;
  }

  -- what is left when no pass holds a lock
  module _ (left : Left (meaning rule size opening) passes roots ws xs) (idle : All HoldsNone passes)
      (all : (t : ℕ) → t < size.threads → Any (λ (p : PassShown (LockPassView V)). p.thread ≡ t) passes) where
    abbrev w : LockWorld V
    w = left.world

    abbrev Fits : PassShown (LockPassView V) → Type 0
    Fits p = PassIs (sizes_of size) w p.thread p.own

    nobody : (t l : ℕ) → ¬ Holds (w.pass t) l
    nobody t l h =
        let near = ((left.fits.kept.locks l).had t ((left.fits.kept.threads t).holds l h)).0 in
        let mine = λ (p : PassShown (LockPassView V)). p.thread ≡ t in
        let p = any_all mine Fits passes (all t near) left.passes_fit in
        let q = any_all mine HoldsNone passes (all t near) idle in
        q.2 l (subst (λ z. Holds z l) (ap w.pass (sym p.1) ∙ p.2.1) h)

    abbrev value_at : ℕ → V
    value_at = left.fits.lawful.value

    -- each slot has a value
    lies_at : (l : ℕ) → l < size.locks → get_elem? xs l ≡ some (Some (value_at l))
    lies_at l near = left.at_home l (Some (value_at l)) ((left.fits.lawful.each l near).idle (λ t. nobody t l))

    pub last_lies : (l : ℕ) → l < size.locks → (y : V) × (get_elem? xs l ≡ some (Some y))
    last_lies l near = (value_at l, lies_at l near)

    module _ (vs : List V) (len : length vs ≡ size.locks)
        (each : (k : ℕ) (y : V) → slice_get vs k ≡ Some y → get_elem? xs k ≡ some (Some y)) where
      lock_of : (l : ℕ) (y : V) → slice_get vs l ≡ Some y → l < size.locks
      lock_of l y e = omega (arith, slice_get_within vs l y e, len)

      same_at : (l : ℕ) (y : V) → slice_get vs l ≡ Some y → value_at l ≡ y
      same_at l y e =
          let f : Some (value_at l) ≡ Some y =
          some-injective (Some (value_at l)) (Some y) (sym (lies_at l (lock_of l y e)) ∙ each l y e) in cc

      -- the value in the slot is lawful to each pass
      last_found : All (λ (p : PassShown (LockPassView V)). (l : ℕ) (y : V) → slice_get vs l ≡ Some y
          → FoundOk rule l p.thread p.own y) passes
      last_found =
          All-weaker Fits (λ (p : PassShown (LockPassView V)). (l : ℕ) (y : V) → slice_get vs l ≡ Some y
          → FoundOk rule l p.thread p.own y)
          (λ p fit l y e. subst (λ z. FoundOk rule l p.thread z y) fit.1
          (subst (FoundOk rule l p.thread (w.pass p.thread)) (same_at l y e)
          (finds_value rule size.threads size.locks w.pass left.homes left.fits.lawful p.thread fit.0 l (lock_of l y e)
          (let n = (left.fits.kept.threads p.thread).long in omega (arith, lock_of l y e)) (nobody p.thread l)))) passes
          left.passes_fit

      -- some pass has seen it
      last_seen : (l : ℕ) (y : V) → slice_get vs l ≡ Some y → Any (λ (p : PassShown (LockPassView V)). HasSeen p.own l y) passes
      last_seen l y e =
          let seen = (left.fits.lawful.each l (lock_of l y e)).witness in
          let p = all seen.0 seen.1.0 in
          let fit : Fits p.1 = subst Fits p.3 (left.passes_fit p.0 p.1 p.2) in (
            p.0,
            p.1,
            p.2,
            p.3,
            subst (HasSeen p.1.own l) (same_at l y e)
                (subst (λ z. HasSeen z l (value_at l)) (ap w.pass (sym p.4) ∙ fit.1) seen.1.1),
          )

      pub last_values : All (λ (p : PassShown (LockPassView V)). (l : ℕ) (y : V) → slice_get vs l ≡ Some y
          → FoundOk rule l p.thread p.own y) passes
          × ((l : ℕ) (y : V) → slice_get vs l ≡ Some y → Any (λ (p : PassShown (LockPassView V)). HasSeen p.own l y) passes)
      last_values = (last_found, last_seen)
