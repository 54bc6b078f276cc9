-- Tries of connections in turn.
use Rattle.std.proofs.Common.{◌≡◌, ℕ, suc, ◌%◌, ◌++◌, true, false, List, [], refl, sym, ap, subst, ◌∙◌, append_assoc}
use Rattle.std.proofs.lemmas.List.{append-nil}
use Rattle.lot_rights.specs.declared.views.Access.{Access}
use Rattle.lot_scheme.specs.Traces.{TryTrace, GetPermitTrace}
use Rattle.lot_sync.specs.Traces.{Adds}
use Rattle.gallery.specs.Leases.{SoughtTrace, LeaseTrace}

-- the permit was got, and no connection was tried yet
pub none_tried : (t pool : ℕ) (before after : List Access) → Adds before (GetPermitTrace t pool) after
    → Adds before (SoughtTrace t pool 0) after
none_tried t pool before after (did, is, trace) = (did, is, (did, [], trace, refl, sym (append-nil did)))

module _ (t pool : ℕ) (before mid after : List Access) where
  -- one more was tried in vain
  pub one_tried : (n key : ℕ) → key ≡ n % 2 → Adds before (SoughtTrace t pool n) mid → Adds mid (TryTrace t key false) after
      → Adds before (SoughtTrace t pool (suc n)) after
  one_tried n key same (front, mid_is, (permit, tries, got, tried, is)) (last, after_is, try) = (
    front ++ last,
    after_is ∙ (ap (λ ds. ds ++ last) mid_is ∙ append_assoc before front last),
    (
      permit,
      tries ++ last,
      got,
      (tries, last, tried, subst (λ k. TryTrace t k false last) same try, refl),
      ap (λ ds. ds ++ last) is ∙ append_assoc permit tries last,
    ),
  )

  -- the next was got
  pub one_got : (n key : ℕ) → key ≡ n % 2 → Adds before (SoughtTrace t pool n) mid → Adds mid (TryTrace t key true) after
      → Adds before (LeaseTrace t pool key) after
  one_got n key same (front, mid_is, sought) (last, after_is, try) = (
    front ++ last,
    after_is ∙ (ap (λ ds. ds ++ last) mid_is ∙ append_assoc before front last),
    (n, (front, last, sought, same, try, refl)),
  )
