-- A connection that is taken out with a permit, and given back.
use Rattle.std.proofs.Common.{◌≡◌, ℕ, ◌+◌, ◌-◌, ◌<◌, ◌≤◌, true, false, length, length-set, get_or, set, get_or-set_other, get_or-set_same}
use Rattle.std.proofs.Common.{refl, sym, ap, subst, ◌∙◌, arith}
use mathlib.Core.Logic.{dite}
use native.Mathlib.Decide.{ℕ_discrete}
use Rattle.lot_permits.specs.Permits.{PermitView}
use Rattle.lot_sync.specs.Lot.{PassView, HeldView, Owns, OwnsNone, owning, letting_go}
use Rattle.lot_sync.proofs.Holdings.{owns_none_again}
use Rattle.gallery.specs.Leases.{Leases, Holds, GivesBack}

module _ {V : Type 0} (p q : PassView V) (pool : ℕ) (permit : PermitView) (held left : HeldView V) (lease : Leases p pool permit held q)
    (same : left.key ≡ held.key)
    (is_pool : pool < length q.permits) where
  permits_then : q.permits ≡ set p.permits pool (get_or p.permits pool 0 + 1)
  permits_then = ap (λ (z : PassView V). z.permits) lease.after_is

  one_there : get_or q.permits pool 0 ≡ get_or p.permits pool 0 + 1
  one_there = ap (λ xs. get_or xs pool 0) permits_then
      ∙ get_or-set_same p.permits pool (get_or p.permits pool 0 + 1) 0
      (omega (arith, is_pool, ap length permits_then, length-set p.permits pool (get_or p.permits pool 0 + 1)))

  -- what was taken out is held
  pub holds_lease : held.key < length q.owns → Holds q pool permit left
  holds_lease near = record {
    of_pool = lease.of_pool;
    has = (
      lease.of_thread ∙ sym (ap (λ (z : PassView V). z.thread) lease.after_is),
      subst (λ k. 1 ≤ get_or q.permits k 0)
          (sym lease.of_pool) (omega (arith, one_there)),
    );
    owns =
        let is : q.owns ≡ set p.owns held.key true = ap (λ (z : PassView V). z.owns) lease.after_is in
        subst (Owns q) (sym same) (ap (λ xs. get_or xs held.key false) is
        ∙ get_or-set_same p.owns held.key true false (omega (arith, near, ap length is, length-set p.owns held.key true)));
  }

  -- whoever owned nothing, took a connection out and gave it back owns nothing
  pub free_of_lease : (r : PassView V) → OwnsNone p → GivesBack q permit left r → OwnsNone r
  free_of_lease r none gave = record {
    no_lock = λ j owned. free.no_lock j (subst (λ xs. get_or xs j false ≡ true) owns_then owned);
    no_permit = λ j. ap (λ xs. get_or xs j 0) permits_last ∙ none_left j;
  }
    where
      out : PassView V
      out = owning p held.key held.value

      free : OwnsNone (letting_go out held.key left.value)
      free = owns_none_again p out (letting_go out held.key left.value) held.key held.key held.value left.value none refl refl refl

      owns_then : r.owns ≡ set (set p.owns held.key true) held.key false
      owns_then = ap (λ (z : PassView V). z.owns) gave.after_is
          ∙ (ap (λ k. set q.owns k false) same ∙ ap (λ (z : PassView V). set z.owns held.key false) lease.after_is)

      permits_last : r.permits ≡ set q.permits pool (get_or q.permits pool 0 - 1)
      permits_last = ap (λ (z : PassView V). z.permits) gave.after_is ∙ ap (λ k. set q.permits k (get_or q.permits k 0 - 1)) lease.of_pool

      none_left : (j : ℕ) → get_or (set q.permits pool (get_or q.permits pool 0 - 1)) j 0 ≡ 0
      none_left j = dite (ℕ_discrete j pool)
          (λ e. ap (λ k. get_or (set q.permits pool (get_or q.permits pool 0 - 1)) k 0) e
          ∙ (get_or-set_same q.permits pool (get_or q.permits pool 0 - 1) 0 is_pool ∙ omega (arith, one_there, none.no_permit pool)))
          (λ else. get_or-set_other q.permits pool j (get_or q.permits pool 0 - 1) 0 else
          ∙ (ap (λ xs. get_or xs j 0) permits_then ∙ (get_or-set_other p.permits pool j (get_or p.permits pool 0 + 1) 0 else
          ∙ none.no_permit j)))
