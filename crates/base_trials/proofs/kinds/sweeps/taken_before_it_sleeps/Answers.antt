use Rattle.std.proofs.Common.{◌≡◌, ℕ, ◌<◌, ◌≤◌, Bool, true, false, MatchBool, inl, sym, subst, arith}
use Rattle.lot_whole.specs.Standing.{IsIdle}
use Rattle.lot_scheme.specs.Standing.{LotStanding}
use Rattle.lot_waits.specs.Notifying.{MayCall, Calls, MayTakeAll, Sweeps}
use Rattle.lot_waits.specs.Waiting.{MayEnlist}
use Rattle.base_trials.specs.Calm.{IsCalm, HasIt, HasSetOut}
use Rattle.base_trials.proofs.Calm.{any, may_take, may_wait, may_free, owner_has_it, slept_takes, slept_thread, slept_has_it, calm_idle}
use Rattle.base_trials.proofs.Calm.{lowered_may, swept_calm, took_calm, went}
use Rattle.base_trials.proofs.kinds.sweeps.taken_before_it_sleeps.Given.{Over}
use Rattle.base_trials.proofs.kinds.sweeps.taken_before_it_sleeps.Goals.{After-get-owner}
use Rattle.base_trials.proofs.kinds.sweeps.taken_before_it_sleeps.Goals as goal

module _ {V : Type 0} where
  -- thread 1 may sweep the flag that it cleared, or is calm and may notify
  may_take_one : (locks first_sem : ℕ) (swept : Bool) (p q : LotStanding V) → locks ≤ 2 → 2 < first_sem → IsCalm 1 p
      → MatchBool swept (HasSetOut p 2 q) (q ≡ p)
      → MatchBool swept (MayTakeAll locks first_sem q 2) (MayCall locks first_sem q 2)
  may_take_one locks first_sem true p q from below calm set = ((from, below), lowered_may 1 2 p q set.0 calm set.1)
  may_take_one locks first_sem false p q from below calm set = (
    (from, below),
    subst (λ (r : LotStanding V). IsIdle r.own) (sym set) (calm_idle 1 p calm),
  )

  -- and is calm then
  has_taken_one : (swept : Bool) (p q r : LotStanding V) → IsCalm 1 p → MatchBool swept (HasSetOut p 2 q) (q ≡ p)
      → MatchBool swept (Sweeps q 2 1 r) ((more : Bool) × Calls q 2 1 1 more r)
      → IsCalm 1 r
  has_taken_one true p q r calm set took = swept_calm 1 2 1 p q r set.0 _ calm set.1 took
  has_taken_one false p q r calm set took = took_calm 1 2 1 q r _ (subst (IsCalm 1) (sym set) calm) took.1

-- thread 0 has the lock, and may wait
owner : (g : Over) (c : After-get-owner g) → HasIt 0 0 c.get-owner.result
owner g c = owner_has_it _ 0 0 c.args.zero c.get-owner.result (inl c.requires.calm.0) c.get-owner.ensures.owner

waits : (g : Over) (c : After-get-owner g) → MayEnlist any g.N.LotName.locks g.N.LotName.first_sem c.get-owner.result 2 0
waits g c =
    let two = c.requires.small.0.0 in
    let three = c.requires.small.0.2 in
    may_wait g.N.LotName.locks g.N.LotName.first_sem 0 2 0 c.get-owner.result (omega (arith, two)) (omega (arith, three))
    (omega (arith, two)) (owner g c)

pub get-owner-requires-clause-may : goal.get-owner-requires-clause-may
get-owner-requires-clause-may g c κs within = may_take 0 0 c.args.zero (inl c.requires.calm.0)

pub sleep_taken-slept-requires-clause-may : goal.sleep_taken-slept-requires-clause-may
sleep_taken-slept-requires-clause-may g c κs within = waits g (goal.at.sleep_taken-slept-requires-clause-may g c).After-get-owner

pub sleep_taken-slept-requires-clause-takes : goal.sleep_taken-slept-requires-clause-takes
sleep_taken-slept-requires-clause-takes g c κs within =
    let two = c.requires.small.0.0 in
    let three = c.requires.small.0.2 in
    may_take_one g.N.LotName.locks g.N.LotName.first_sem c.args.swept c.args.one c.set_out-one.result (omega (arith, two))
    (omega (arith, three)) c.requires.calm.1 c.set_out-one.ensures

pub clear_flag-one-requires-clause-calm : goal.clear_flag-one-requires-clause-calm
clear_flag-one-requires-clause-calm g c κs within =
    has_taken_one c.args.swept c.args.one c.set_out-one.result c.sleep_taken-slept.result.1 c.requires.calm.1 c.set_out-one.ensures
    c.sleep_taken-slept.ensures.took

pub get-again-requires-clause-thread : goal.get-again-requires-clause-thread
get-again-requires-clause-thread g c κs within =
    let before = (goal.at.get-again-requires-clause-thread g c).After-get-owner in
    let same = slept_thread _ _ _ 2 0 _ _ _ (waits g before) c.sleep_taken-slept.ensures.slept.1 in
    let zero = (owner g before).there.thread in
    let threads = c.requires.small.1 in
    omega (arith, same, zero, threads)

pub get-again-requires-clause-may : goal.get-again-requires-clause-may
get-again-requires-clause-may g c κs within =
    let before = (goal.at.get-again-requires-clause-may g c).After-get-owner in
    slept_takes _ _ _ 2 0 _ _ _ (waits g before) c.sleep_taken-slept.ensures.slept.1

pub let_go-zero-requires-clause-may : goal.let_go-zero-requires-clause-may
let_go-zero-requires-clause-may g c κs within =
    let before = (goal.at.let_go-zero-requires-clause-may g c).After-get-owner in
    may_free 0 0 c.get-again.result (slept_has_it _ _ _ 0 2 0 _ _ _ _ (owner g before) (waits g before)
    c.sleep_taken-slept.ensures.slept.1 c.get-again.ensures.owner)

pub returns : goal.returns
returns g c =
    let before = (goal.at.returns g c).After-get-owner in
    let again = slept_has_it _ _ _ 0 2 0 _ _ _ _ (owner g before) (waits g before) c.sleep_taken-slept.ensures.slept.1
    c.get-again.ensures.owner in (
      went 0 0 _ c.get-again.result c.let_go-zero.result.0 again c.let_go-zero.ensures.went,
      c.clear_flag-one.ensures,
    )
