-- What the order of keys asks of a pass, it asks of its right.
use Rattle.std.proofs.Common.{◌≡◌, ◌≢◌, ◌≤◌, ℕ, true, false, List, sym, subst, ◌∙◌, inl, inr, arith}
use Rattle.std.specs.Prelude.{slice_index, slice_index_or}
use Rattle.std.proofs.lemmas.List.{get_or-set_other}
use mathlib.Core.Logic.{dite}
use native.Mathlib.Decide.{ℕ_discrete}
use Rattle.lot_order.specs.Order.{HasKey, HasBeside, AllBelow, OthersBelow, MayWait}
use Rattle.lot_words.specs.CallersRule.{CallersRule}
use Rattle.lot_whole.specs.Standing.{IsIdle, MayWant, keys_of as right_keys}
use Rattle.lot_scheme.specs.Standing.{LotStanding}
use Rattle.lot_sync.specs.Lot.{PassView, HeldView, keys_of, Owns, OwnsNone, permits_with}
use Rattle.lot_sync.specs.Passes.{pass_view_of}
use Rattle.lot_sync.specs.Values.{Gets}
use Rattle.lot_sync.proofs.Rests.{held_owned}

module _ {V : Type 0} (above : ℕ → ℕ → Type 0) (r : LotStanding V) where
  -- the pass has all that its right has
  has_so : (j : ℕ) → HasKey (right_keys r.own) j → HasKey (keys_of (pass_view_of r)) j
  has_so j (inl holds) = inl (held_owned r.own.locks.holds j holds)
  has_so j (inr permit) = inr permit

  beside_so : (l j : ℕ) → HasBeside (right_keys r.own) l j → HasBeside (keys_of (pass_view_of r)) l j
  beside_so l j (inl (holds, ne)) = inl (held_owned r.own.locks.holds j holds, ne)
  beside_so l j (inr permit) = inr permit

  pub below : (k : ℕ) → AllBelow above (keys_of (pass_view_of r)) k → AllBelow above (right_keys r.own) k
  below k all j has = all j (has_so j has)

  pub may_want : (l : ℕ) → IsIdle r.own → AllBelow above (keys_of (pass_view_of r)) l → MayWant above r.own l
  may_want l idle all = (inr (idle.0, inl idle.1), λ _. below l all)

  pub may_wait : (c l : ℕ) → MayWait above (keys_of (pass_view_of r)) c l → MayWait above (right_keys r.own) c l
  may_wait c l may = ((λ j has. may.0 j (beside_so l j has)), (λ j has. may.1 j (beside_so l j has)))

-- whoever has nothing may wait for anything
pub none_below : {V : Type 0} (above : ℕ → ℕ → Type 0) (p : PassView V) (k : ℕ) → OwnsNone p → AllBelow above (keys_of p) k
none_below above p k none j (inl owned) = absurd (none.no_lock j owned)
none_below above p k none j (inr some) = absurd (let e = none.no_permit j in omega (arith, e, some))

-- whoever has the same as before may wait as before
pub same_waits : {V : Type 0} (above : ℕ → ℕ → Type 0) (p q : PassView V) (c l : ℕ) → q.owns ≡ p.owns → q.permits ≡ p.permits
    → MayWait above (keys_of p) c l → MayWait above (keys_of q) c l
same_waits above p q c l owns permits may =
    subst (λ (ns : List ℕ). MayWait above (record { locks = Owns q; permits = slice_index ns }) c l) (sym permits)
    (subst (λ bs. MayWait above (record { locks = λ k. slice_index_or bs k false ≡ true; permits = permits_with p }) c l) (sym owns) may)

module _ {V Part : Type 0} (rule : CallersRule V Part) (before after : PassView V) (key : ℕ) (held : HeldView V)
    (got : Gets rule before key held after) where
  -- what a pass has that got a lock is that lock, or it had it before
  had : (j : ℕ) → j ≢ key → HasKey (keys_of after) j → HasKey (keys_of before) j
  had j ne (inl owned) = inl (sym (get_or-set_other before.owns key j true false ne)
      ∙ subst (λ (p : PassView V). Owns p j) got.after_is owned)
  had j ne (inr some) = inr (subst (λ (p : PassView V). 1 ≤ permits_with p j) got.after_is some)

  -- it may wait for a key that lies above that lock and above all that it had
  pub got_below : (k : ℕ) → AllBelow rule.above (keys_of before) k → rule.above key k → AllBelow rule.above (keys_of after) k
  got_below k all lock j has = dite (ℕ_discrete j key) (λ e. subst (λ i. rule.above i k) (sym e) lock) (λ ne. all j (had j ne has))

  others : (k : ℕ) → AllBelow rule.above (keys_of before) k → OthersBelow rule.above (keys_of after) held.key k
  others k all j (inl (owned, ne)) = all j (had j (λ e. ne (e ∙ sym got.key_is)) (inl owned))
  others k all j (inr some) = all j (inr (subst (λ (p : PassView V). 1 ≤ permits_with p j) got.after_is some))

  -- it may wait with that lock for a notification, where all that it had lies below both
  pub got_waits : (c : ℕ) → AllBelow rule.above (keys_of before) key → AllBelow rule.above (keys_of before) c
      → MayWait rule.above (keys_of after) c held.key
  got_waits c below_lock below_cond = (
    others held.key (subst (AllBelow rule.above (keys_of before)) (sym got.key_is) below_lock),
    others c below_cond,
  )
