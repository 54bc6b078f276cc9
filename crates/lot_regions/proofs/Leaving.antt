-- A lock that was got, worked on and left, after which conditions were told.
use Rattle.std.proofs.Common.{◌≡◌, ℕ, zero, suc, ◌+◌, ◌-◌, ◌<◌, ◌≤◌, Bool, true, false, List, [], length, set, refl, sym}
use Rattle.std.proofs.Common.{ap, subst, ◌∙◌, arith}
use Rattle.std.proofs.lemmas.List.{append-nil, map-set, length-map, length-set, set-set}
use Rattle.atomic_table.proofs.Lists.{set_here}
use mathlib.Core.Option.{some-injective}
use Rattle.lot_rights.specs.declared.views.Access.{Access}
use Rattle.lot_words.specs.CallersRule.{CallersRule}
use Rattle.lot_locks.specs.declared.released.Released.{Released}
use Rattle.lot_scheme.specs.Traces.{GetTrace}
use Rattle.lot_locks.specs.Released.{IsFitting, FreeTrace}
use Rattle.lot_sync.specs.Lot.{LotView, PassView, ◌≈◌, HeldView, Owns, OwnsNone, HasSeen, HasShape, owning, letting_go}
use Rattle.lot_sync.specs.Traces.{Adds, NotifyTrace}
use Rattle.lot_sync.specs.Values.{Gets, MayGiveBack}
use Rattle.lot_words.specs.Values.{MayBecome}
use Rattle.lot_calls.specs.Visits.{own_parts}
use Rattle.lot_calls.specs.Waits.{AfterWaits, WaitsWhile, woken_from}
use Rattle.lot_calls.specs.Traces.{GetAfterTrace}
use Rattle.lot_sync.proofs.Adding.{adds_then}
use Rattle.lot_calls.proofs.Visiting.{set_back, finds}
use Rattle.lot_regions.specs.Traces.{TellTrace, LeaveTrace, ChangeTrace, WhenTrace}
use Rattle.lot_regions.specs.Regions.{Region, HasGot}

-- ---- which values the waits began with
pub waits_map : {V : Type 0} (grows : V → V → Type 0) (unready not_wanted : V → Type 0) → ((x : V) → unready x → not_wanted x)
    → (n : ℕ) (first last : V) → WaitsWhile grows unready n first last → WaitsWhile grows not_wanted n first last
waits_map grows unready not_wanted f zero first last same = same
waits_map grows unready not_wanted f (suc n) first last (mid, before, began, grown) =
    (mid, waits_map grows unready not_wanted f n first mid before, f mid began, grown)

-- ---- which accesses were made
module _ (told : ℕ → Bool) (t l now first behind : ℕ) (before mid after : List Access) where
  -- the lock was let go, and there is no condition to tell
  pub only_left : behind ≤ first → (became : Released) → IsFitting became false now → Adds before (FreeTrace t l became) after
      → Adds before (LeaveTrace told t l now first (behind - first)) after
  only_left none became fits (did, is, trace) =
      let nothing : behind - first ≡ 0 = omega (arith, none) in
      (did, is, subst (λ n. LeaveTrace told t l now first n did) (sym nothing) (became, fits, trace))

  -- the last was told after the others
  pub told_last : (cond u : ℕ) → cond ≡ behind - 1 → first < behind → u ≡ t
      → Adds before (LeaveTrace told t l now first (cond - first)) mid → Adds mid (TellTrace (told cond) u cond) after
      → Adds before (LeaveTrace told t l now first (behind - first)) after
  told_last cond u last_is some same left tell =
      let long : behind - first ≡ suc (cond - first) = omega (arith, last_is, some) in
      let at : first + (cond - first) ≡ cond = omega (arith, last_is, some) in
      subst (λ n. Adds before (LeaveTrace told t l now first n) after) (sym long)
      (adds_then before left (subst (λ c. Adds mid (TellTrace (told c) t c) after) (sym at)
      (subst (λ w. Adds mid (TellTrace (told cond) w cond) after) same tell)))

module _ (told : ℕ → Bool) (t cond : ℕ) where
  -- a condition for which the value is ready was notified
  pub tells : (taken : ℕ) (mid after : List Access) → told cond ≡ true → Adds mid (NotifyTrace t cond 1 taken) after
      → Adds mid (TellTrace (told cond) t cond) after
  tells taken mid after so (did, is, trace) = (did, is, subst (λ b. TellTrace b t cond did) (sym so) (taken, trace))

  -- and one for which it is not was left alone
  pub tells_nobody : (mid : List Access) → told cond ≡ false → Adds mid (TellTrace (told cond) t cond) mid
  tells_nobody mid so = ([], sym (append-nil mid), subst (λ b. TellTrace b t cond []) (sym so) refl)

module _ (told : ℕ → Bool) (t l now c n : ℕ) (before mid after : List Access) (u k : ℕ) (same : u ≡ t) (same_key : k ≡ l) where
  left_by : Adds mid (LeaveTrace told u k now c n) after → Adds mid (LeaveTrace told t l now c n) after
  left_by leaves =
      subst (λ j. Adds mid (LeaveTrace told t j now c n) after) same_key
      (subst (λ w. Adds mid (LeaveTrace told w k now c n) after) same leaves)

  pub change_made : Adds before (GetTrace t l) mid → Adds mid (LeaveTrace told u k now c n) after
      → Adds before (ChangeTrace told t l now c n) after
  change_made got leaves = adds_then before got (left_by leaves)

  pub when_made : (d count : ℕ) → Adds before (GetAfterTrace t d l now count) mid → Adds mid (LeaveTrace told u k now c n) after
      → Adds before (WhenTrace told t d count l now c n) after
  when_made d count got leaves = adds_then before got (left_by leaves)

-- ---- how the pass stands then
module _ {V : Type 0} where
  -- a pass whose parts are those of another, but for its waits and its accesses
  alike : (p q : PassView V) → p.thread ≡ q.thread → p.owns ≡ q.owns → p.seen ≡ q.seen → p.called ≡ q.called → p.permits ≡ q.permits
      → p ≡ record q { woken = p.woken; made = p.made }
  alike p q thread owns seen called permits = λ i. record {
    thread = thread i;
    owns = owns i;
    seen = seen i;
    called = called i;
    woken = p.woken;
    permits = permits i;
    made = p.made;
  }

module _ {V Part : Type 0} (rule : CallersRule V Part) (before : PassView V) (key : ℕ) where
  -- what was got at once
  pub got_at_once : (held : HeldView V) (got : PassView V) → Gets rule before key held got → (lot : LotView) → key < lot.locks
      → HasShape lot got → HasGot rule before key held.value got
  got_at_once held got gets lot is_lock shape = record {
    finds = finds rule before key held.value gets.kept gets.grown gets.mine (omega (
      arith,
      is_lock,
      shape.seen,
      ap (λ (p : PassView V). length p.seen) gets.after_is,
      length-set before.seen key held.value,
    ));
    after_is = gets.after_is
        ∙ ap (λ ws. record (owning before key held.value) { woken = ws; made = got.made })
        (sym (ap (λ (p : PassView V). p.woken) gets.after_is));
  }

  -- what was got after some waits, or none
  pub got_after_waits : (held found : HeldView V) (got mid : PassView V) (cond count : ℕ) → Gets rule before key held got
      → AfterWaits got held.key cond found.value count mid → (count ≡ 0 → found ≡ held) → rule.keeps held.key found.value
      → rule.grows held.value found.value → rule.part got.thread held.value ≡ rule.part got.thread found.value → (lot : LotView)
      → key < lot.locks → HasShape lot got → HasGot rule before key found.value mid
  got_after_waits held found got mid cond count gets waited same kept grown mine lot is_lock shape =
      let at_once = got_at_once held got gets lot is_lock shape in record {
        finds = record {
          kept = subst (λ k. rule.keeps k found.value) gets.key_is kept;
          grown = λ u seen. rule.grows_on u held.value found.value (gets.grown u seen) grown;
          mine = λ u seen. gets.mine u seen ∙ mine_before;
          own_near = at_once.finds.own_near;
          own_was = λ d. at_once.finds.own_was d ∙ mine_before;
        };
        after_is = waited_is count waited same;
      }
    where
      mine_before : rule.part before.thread held.value ≡ rule.part before.thread found.value
      mine_before =
          subst (λ t. rule.part t held.value ≡ rule.part t found.value) (ap (λ (p : PassView V). p.thread) gets.after_is) mine

      waited_is : (n : ℕ) → AfterWaits got held.key cond found.value n mid → (n ≡ 0 → found ≡ held)
          → mid ≈ record (owning before key found.value) { woken = mid.woken }
      waited_is zero is same =
          subst (λ (h : HeldView V). mid ≈ record (owning before key h.value) { woken = mid.woken }) (sym (same refl))
          (alike mid (owning before key held.value) (ap (λ (p : PassView V). p.thread) is ∙ ap (λ (p : PassView V). p.thread) gets.after_is)
          (ap (λ (p : PassView V). p.owns) is ∙ ap (λ (p : PassView V). p.owns) gets.after_is)
          (ap (λ (p : PassView V). p.seen) is ∙ ap (λ (p : PassView V). p.seen) gets.after_is)
          (ap (λ (p : PassView V). p.called) is ∙ ap (λ (p : PassView V). p.called) gets.after_is)
          (ap (λ (p : PassView V). p.permits) is ∙ ap (λ (p : PassView V). p.permits) gets.after_is))
      waited_is (suc n) (is, seen) same =
          let at : mid ≈ woken_from (owning got key found.value) cond (suc n) =
          subst (λ k. mid ≈ woken_from (owning got k found.value) cond (suc n)) gets.key_is is in
          alike mid (owning before key found.value) (ap (λ (p : PassView V). p.thread) at ∙ ap (λ (p : PassView V). p.thread) gets.after_is)
          (ap (λ (p : PassView V). p.owns) at ∙ (ap (λ (p : PassView V). set p.owns key true) gets.after_is
          ∙ set-set before.owns key true true))
          (ap (λ (p : PassView V). p.seen) at
          ∙ (ap (λ (p : PassView V). set p.seen key found.value) gets.after_is ∙ set-set before.seen key held.value found.value))
          (ap (λ (p : PassView V). p.called) at ∙ ap (λ (p : PassView V). p.called) gets.after_is)
          (ap (λ (p : PassView V). p.permits) at ∙ ap (λ (p : PassView V). p.permits) gets.after_is)

  module _ (found left : V) (mid : PassView V) (got : HasGot rule before key found mid) (may : MayBecome rule key before.thread found left)
      (k : ℕ) (key_is : k ≡ key) where
    -- what the pass has seen of the lock is what it found
    saw : (u : V) → HasSeen mid k u → found ≡ u
    saw u seen =
        some-injective found u (sym (set_here before.seen key found
        (omega (arith, got.finds.own_near, length-map before.seen (rule.part before.thread))))
        ∙ subst (λ (p : PassView V). HasSeen p key u) got.after_is (subst (λ j. HasSeen mid j u) key_is seen))

    -- it may be given back
    pub back : MayGiveBack rule mid (record { key = k; value = left })
    back = record {
      kept = subst (λ j. rule.keeps j left) (sym key_is) may.kept;
      grown = λ u seen. subst (λ v. rule.grows v left) (saw u seen) may.grown;
      others = λ u t seen else. subst (λ v. rule.part t v ≡ rule.part t left) (saw u seen)
          (may.others t (λ e. else (e ∙ sym (ap (λ (p : PassView V). p.thread) got.after_is))));
    }

    -- and was left
    pub region : (after : PassView V) → ¬ Owns before key → after ≈ record (letting_go mid k left) { called = after.called }
        → HasSeen after k left → Region rule before key found left after
    region after free went seen = record {
      finds = got.finds;
      may = may;
      after_is = after_is;
      seen = subst (λ j. HasSeen after j left) key_is seen;
      own_is = ap (λ (p : PassView V). own_parts rule p) after_is ∙ map-set (rule.part before.thread) before.seen key left;
    }
      where
        at : after ≈ record (letting_go mid key left) { called = after.called }
        at = subst (λ j. after ≈ record (letting_go mid j left) { called = after.called }) key_is went

        after_is : after ≈ record before { seen = set before.seen key left; called = after.called; woken = after.woken }
        after_is =
            alike after (record before { seen = set before.seen key left; called = after.called })
            (ap (λ (p : PassView V). p.thread) at ∙ ap (λ (p : PassView V). p.thread) got.after_is)
            (ap (λ (p : PassView V). p.owns) at
            ∙ (ap (λ (p : PassView V). set p.owns key false) got.after_is ∙ set_back before.owns key free))
            (ap (λ (p : PassView V). p.seen) at
            ∙ (ap (λ (p : PassView V). set p.seen key left) got.after_is ∙ set-set before.seen key found left))
            refl (ap (λ (p : PassView V). p.permits) at ∙ ap (λ (p : PassView V). p.permits) got.after_is)

  -- whoever owned nothing owns nothing
  pub free_again : (found left : V) (after : PassView V) → OwnsNone before → Region rule before key found left after → OwnsNone after
  free_again found left after none region = subst OwnsNone (sym region.after_is)
      (record { no_lock = none.no_lock; no_permit = none.no_permit })
