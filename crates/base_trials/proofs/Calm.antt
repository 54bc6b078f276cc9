-- What the calls of the schedules leave of a pass, and what it may do then.
use Rattle.std.proofs.Common.{◌≡◌, ◌≢◌, ℕ, ◌+◌, ◌<◌, ◌≤◌, slice_index, slice_set, arith, List, [], ◌∷◌, length, set, get_or}
use Rattle.std.proofs.Common.{Some, inl, inr, refl, sym, ap, subst, ◌∙◌, Bool, true, false, MatchBool}
use Rattle.std.proofs.lemmas.List.{get_or-set_same, get_or-set_other, set-get_or}
use Rattle.std.proofs.lemmas.List.Elements.{All-nil}
use mathlib.Core.Logic.{dite}
use native.Mathlib.Decide.{ℕ_discrete}
use Rattle.lot_rights.specs.declared.views.Access.{Access}
use Rattle.lot_rights.specs.Shown.{PassShown}
use Rattle.lot_words.specs.declared.views.Hold.{Hold}
use Rattle.lot_words.specs.declared.views.Hold.TheVariants.{NotHeld, Held}
use Rattle.lot_words.specs.CallersRule.{CallersRule}
use Rattle.lot_words.specs.World.{IsHeld}
use Rattle.lot_words.specs.Values.{FoundOk}
use Rattle.lot_words.specs.Calls.{owning as lock_owning, wanting as lock_wanting, letting_go}
use Rattle.lot_words.proofs.Owning.{owns_owning}
use Rattle.lot_whole.specs.declared.views.LotPassView.{LotPassView}
use Rattle.lot_whole.specs.declared.views.Stand.TheVariants.{Idle}
use Rattle.lot_whole.specs.Closing.{HasDone}
use Rattle.lot_whole.specs.Family.{lock, cond, sem}
use Rattle.lot_whole.specs.Standing.{WantsNothing, IsIdle, IsUp, MayWant, MayLineUp, MaySweep}
use Rattle.lot_whole.specs.Whole.{rises}
use Rattle.lot_scheme.specs.Standing.{LotStanding, standing, adding, wanting, owning, called_more as stand_called_more, setting_out}
use Rattle.lot_scheme.specs.Standing.{swept, IsLooked}
use Rattle.lot_scheme.specs.LockCalls.{GetsLock}
use Rattle.lot_scheme.specs.Traces.{IsSeek, trace_of_all, trace_of_nobody}
use Rattle.lot_locks.specs.declared.released.Released.{Released}
use Rattle.lot_locks.specs.Standing.{MayFree, IsTryingFor, IsOwner, LetsGo}
use Rattle.lot_locks.proofs.Adding.{none_added, up_then}
use Rattle.lot_locks.proofs.Freed.{held_near}
use Rattle.lot_waits.specs.Counts.{CountsView, counts_in, called_more as counts_called_more, one_wait_more}
use Rattle.lot_waits.specs.Notifying.{Notifies, NotifiesAll}
use Rattle.lot_waits.specs.Waiting.{MayEnlist, Enlists, Slept, HasWaited, waited}
use Rattle.lot_waits.proofs.Waited.{rested, same_thread, takes, has_waited}
use Rattle.lot_waits.proofs.Taken.{none_called}
use Rattle.base_trials.specs.Calm.{IsThere, HasNone, IsCalm, Wants, IsFor, HasIt}

-- no order is asked of the keys
abbrev pub any : ℕ → ℕ → Type 0
any j k = Unit {0}

-- ---- holds
held_else : (hs : List Hold) (l k : ℕ) (h : Hold) → k ≢ l → IsHeld (get_or (set hs l h) k NotHeld) → IsHeld (get_or hs k NotHeld)
held_else hs l k h else is = subst IsHeld (get_or-set_other hs l k h NotHeld else) is

unheld_here : (hs : List Hold) (l : ℕ) → l < length hs → ¬ IsHeld (get_or (set hs l NotHeld) l NotHeld)
unheld_here hs l near is = subst IsHeld (get_or-set_same hs l NotHeld NotHeld near) is

module _ {V : Type 0} where
  -- ---- what it may do
  awake_of : (t : ℕ) (p : LotStanding V) → IsCalm t p → WantsNothing p.own
  awake_of t p calm = record { up = calm.there.up; aim = calm.aim; sweeps = calm.there.sweeps; seeks = calm.there.seeks }

  pub calm_idle : (t : ℕ) (p : LotStanding V) → IsCalm t p → IsIdle p.own
  calm_idle t p calm = (awake_of t p calm, calm.there.stand)

  pub owner_idle : (t l : ℕ) (p : LotStanding V) → HasIt t l p → IsIdle p.own
  owner_idle t l p has = (record { up = has.there.up; aim = has.aim; sweeps = has.there.sweeps; seeks = has.there.seeks }, has.there.stand)

  pub may_take : (t l : ℕ) (p : LotStanding V) → IsFor t l p → MayWant any p.own l
  may_take t l p (inl calm) = (inr (awake_of t p calm, inl calm.there.stand), λ _ j has. tt)
  may_take t l p (inr wants) = (inl (wants.there.up, wants.aim), λ _ j has. tt)

  pub may_line_up : (t l : ℕ) (p : LotStanding V) → Wants t l p → MayLineUp p.own l
  may_line_up t l p wants = (wants.there.up, wants.aim)

  pub may_free : (t l : ℕ) (p : LotStanding V) → HasIt t l p → MayFree p l
  may_free t l p has = record { may = inl (owner_idle t l p has); holds = has.holds; lies = has.lies }

  wants_so : (l : ℕ) (p : LotStanding V) → p.own.locks.aim ≡ Some l → p.own.stand ≡ Idle → p ≡ wanting p l
  wants_so l p aim stand = λ i. record p { own = record p.own { locks = record p.own.locks { aim = aim i }; stand = stand i } }

  pub trying : (n t l : ℕ) (p : LotStanding V) → l < n → Wants t l p → IsTryingFor any n p l p
  trying n t l p below wants = record {
    may = (below, (inl (wants.there.up, wants.aim), λ _ j has. tt));
    did = [];
    sought = All-nil (IsSeek p.thread l);
    is = none_added p ∙ ap (λ (q : LotStanding V). adding q []) (wants_so l p wants.aim wants.there.stand);
  }

  -- ---- what is left of it
  there_of : (t l : ℕ) (p : LotStanding V) → IsFor t l p → IsThere t p.thread p.own
  there_of t l p (inl calm) = calm.there
  there_of t l p (inr wants) = wants.there

  none_of : (t l : ℕ) (p : LotStanding V) → IsFor t l p → HasNone p
  none_of t l p (inl calm) = calm.none
  none_of t l p (inr wants) = wants.none

  -- it is there still: it is up and stands at no condition, and is queued, sweeps and seeks as before
  there_on : {t u : ℕ} {own now : LotPassView V} → IsThere t u own → IsUp now → now.conds.out ≡ own.conds.out
      → now.conds.sweeps ≡ own.conds.sweeps → now.sems.seeks ≡ own.sems.seeks → now.stand ≡ Idle
      → IsThere t u now
  there_on there up out sweeps seeks stand = record {
    thread = there.thread;
    up = up;
    out = out ∙ there.out;
    sweeps = sweeps ∙ there.sweeps;
    seeks = seeks ∙ there.seeks;
    stand = stand;
  }

  -- it wants the lock now
  pub wanted : (t l : ℕ) (p q : LotStanding V) (did : List Access) → IsFor t l p → q ≡ adding (wanting p l) did → Wants t l q
  wanted t l p q did before is = subst (Wants t l) (sym is) (record {
    there = (let there = there_of t l p before in
        there_on there (up_then p.own (lock_wanting p.own.locks l) Idle refl there.up) refl refl refl refl);
    aim = refl;
    none = none_of t l p before;
  })

  pub tried_wants : (n t l : ℕ) (p q : LotStanding V) → Wants t l p → IsTryingFor any n p l q → Wants t l q
  tried_wants n t l p q wants tries = wanted t l p q tries.did (inr wants) tries.is

  -- it made these accesses more
  pub wants_on : (t l : ℕ) (p q : LotStanding V) (did : List Access) → Wants t l p → q ≡ adding p did → Wants t l q
  wants_on t l p q did wants is = subst (Wants t l) (sym is) (record { there = wants.there; aim = wants.aim; none = wants.none })

  -- it let the lock go
  pub went : (t l : ℕ) (became : Released) (p q : LotStanding V) → HasIt t l p → LetsGo p l became q → IsCalm t q
  went t l became p q has gone = subst (IsCalm t) (sym gone.is) (record {
    there = there_on has.there (up_then p.own (letting_go p.own.locks l gone.value) (rises p.own.stand) refl has.there.up) refl refl refl
        (ap rises has.there.stand);
    aim = has.aim;
    none = λ k held. dite (ℕ_discrete k l)
        (λ e. unheld_here p.own.locks.holds l (held_near p.own.locks.holds l has.holds)
        (subst (λ j. IsHeld (get_or (set p.own.locks.holds l NotHeld) j NotHeld)) e held))
        (λ else. has.others k else (held_else p.own.locks.holds l k NotHeld else held));
  })

  called_up : (t c n : ℕ) (p : LotStanding V) → IsCalm t p → IsUp (stand_called_more p c n).own
  called_up t c n p calm lock = calm.there.up lock
  called_up t c n p calm cond = calm.there.up cond
  called_up t c n p calm sem = calm.there.up sem

  -- it took so many sleepers from a condition's line, or looked
  pub took_calm : (t c n : ℕ) (p q : LotStanding V) (did : List Access) → IsCalm t p → q ≡ adding (stand_called_more p c n) did → IsCalm t q
  took_calm t c n p q did calm is = subst (IsCalm t) (sym is) (record {
    there = there_on calm.there (called_up t c n p calm) refl refl refl calm.there.stand;
    aim = calm.aim;
    none = calm.none;
  })

  pub looked_calm : (t : ℕ) (p q : LotStanding V) (did : List Access) → IsCalm t p → q ≡ adding p did → IsCalm t q
  looked_calm t p q did calm is = subst (IsCalm t) (sym is) (record { there = calm.there; aim = calm.aim; none = calm.none })

  -- it lowered a condition's flag, and may sweep it; and it swept it
  pub lowered_may : (t c : ℕ) (p q : LotStanding V) (did : List Access) → IsCalm t p → q ≡ adding (setting_out p c) did → MaySweep q.own c
  lowered_may t c p q did calm is = subst (λ (r : LotStanding V). MaySweep r.own c) (sym is) (calm.there.out, refl)

  swept_up : (t c n : ℕ) (p : LotStanding V) → IsCalm t p → IsUp (swept (setting_out p c) c n).own
  swept_up t c n p calm lock = calm.there.up lock
  swept_up t c n p calm cond = calm.there.up cond
  swept_up t c n p calm sem = calm.there.up sem

  pub swept_calm : (t c n : ℕ) (p m q : LotStanding V) (a b : List Access) → IsCalm t p → m ≡ adding (setting_out p c) a
      → q ≡ adding (swept m c n) b → IsCalm t q
  swept_calm t c n p m q a b calm lowers is =
      subst (IsCalm t) (sym (is ∙ ap (λ (r : LotStanding V). adding (swept r c n) b) lowers)) (record {
        there = record {
          thread = calm.there.thread;
          up = swept_up t c n p calm;
          out = calm.there.out;
          sweeps = refl;
          seeks = calm.there.seeks;
          stand = refl;
        };
        aim = calm.aim;
        none = calm.none;
      })

  -- of its own thread
  pub calm_itself : (t : ℕ) (p : LotStanding V) → IsCalm t p → IsCalm p.thread p
  calm_itself t p calm = subst (λ u. IsCalm u p) (sym calm.there.thread) calm

  pub may_wait : (locks first_sem t c l : ℕ) (p : LotStanding V) → locks ≤ c → c < first_sem → l < locks → HasIt t l p
      → MayEnlist any locks first_sem p c l
  may_wait locks first_sem t c l p from below near has = record {
    cond = (from, below);
    lock = near;
    idle = owner_idle t l p has;
    holds = has.holds;
    lies = has.lies;
    below = ((λ j _. tt), (λ j _. tt));
  }

  -- it may come back at the end
  pub calm_done : (t : ℕ) (now : LotStanding V) (p : PassShown (LotPassView V)) → now ≡ standing p → IsCalm t now → HasDone p
  calm_done t now p same calm =
      let back : IsCalm t (standing p) = subst (IsCalm t) same calm in
      (back.none, back.there.out)

module _ {V Part : Type 0} (rule : CallersRule V Part) where
  -- it got the lock, and found the value x
  pub got_so : (t l : ℕ) (p q : LotStanding V) (x : V) (did : List Access) → IsFor t l p → FoundOk rule l p.thread p.own.locks x
      → q ≡ adding (owning p l x) did → HasIt t l q
  got_so t l p q x did before found is =
      let owns = owns_owning p.own.locks l x found.tells in
      subst (HasIt t l) (sym is) (record {
        there = (let there = there_of t l p before in
            there_on there (up_then p.own (lock_owning p.own.locks l x) Idle refl there.up) refl refl refl refl);
        aim = refl;
        holds = owns.holds;
        lies = (x, owns.lies);
        others = λ k else held. none_of t l p before k (held_else p.own.locks.holds l k Held else held);
      })

  pub taken_has_it : (t l : ℕ) (a : Access) (p q : LotStanding V) → IsFor t l p → GetsLock rule p l a q → HasIt t l q
  taken_has_it t l a p q before (x, found, is) = got_so t l p q x (a ∷ []) before found is

  -- the lock was taken, and it got it or wants it
  pub taken_or_wanted : (t l : ℕ) (b : Bool) (a : Access) (did : List Access) (p q : LotStanding V) → IsFor t l p
      → MatchBool b (GetsLock rule p l a q) (q ≡ adding (wanting p l) did) → MatchBool b (HasIt t l q) (Wants t l q)
  taken_or_wanted t l true a did p q before got = taken_has_it t l a p q before got
  taken_or_wanted t l false a did p q before is = wanted t l p q did before is

  pub owner_has_it : (t l : ℕ) (p q : LotStanding V) → IsFor t l p → IsOwner rule p l q → HasIt t l q
  owner_has_it t l p q before o = got_so t l p q o.value o.did before o.found o.is

  -- it waited, and has its lock again
  pub waited_has_it : (t c l : ℕ) (became : Released) (p q : LotStanding V) → HasIt t l p → HasWaited rule p c l became q → HasIt t l q
  waited_has_it t c l became p q has w =
      let owns = owns_owning (letting_go p.own.locks l w.left) l w.found w.found_ok.tells in
      subst (HasIt t l) (sym w.is) (record {
        there = record {
          thread = has.there.thread;
          up = waited_up t c l p w.left w.found has;
          out = refl;
          sweeps = has.there.sweeps;
          seeks = has.there.seeks;
          stand = refl;
        };
        aim = refl;
        holds = owns.holds;
        lies = (w.found, owns.lies);
        others = λ k else held. has.others k else (held_else p.own.locks.holds l k NotHeld else
            (held_else (set p.own.locks.holds l NotHeld) l k Held else held));
      })
    where
      waited_up : (t c l : ℕ) (p : LotStanding V) (y x : V) → HasIt t l p → IsUp (waited p c l y x).own
      waited_up t c l p y x has lock = has.there.up lock
      waited_up t c l p y x has cond = refl
      waited_up t c l p y x has sem = has.there.up sem

  -- it slept, and has not got its lock yet; and then it has it again
  pub slept_takes : (locks first_sem c l : ℕ) (became : Released) (p s : LotStanding V) → MayEnlist rule.above locks first_sem p c l
      → Slept {P = LotStanding V} Enlists LetsGo (IsLooked rule) p c l became s → MayWant rule.above s.own l
  slept_takes locks first_sem c l became p s may slept =
      takes rule.above locks first_sem p s c l became may (rested rule locks first_sem p s c l became may slept)

  pub slept_thread : (locks first_sem c l : ℕ) (became : Released) (p s : LotStanding V) → MayEnlist rule.above locks first_sem p c l
      → Slept {P = LotStanding V} Enlists LetsGo (IsLooked rule) p c l became s → s.thread ≡ p.thread
  slept_thread locks first_sem c l became p s may slept = same_thread p s c l became (rested rule locks first_sem p s c l became may slept)

  pub slept_has_it : (locks first_sem t c l : ℕ) (became : Released) (p s q : LotStanding V) → HasIt t l p → MayEnlist rule.above locks first_sem p c l
      → Slept {P = LotStanding V} Enlists LetsGo (IsLooked rule) p c l became s → IsOwner rule s l q → HasIt t l q
  slept_has_it locks first_sem t c l became p s q has may slept owner =
      waited_has_it t c l became p q has (has_waited rule p s q c l became (rested rule locks first_sem p s c l became may slept) owner)

  -- ---- counts
  pub waited_counts : (c l : ℕ) (became : Released) (p q : LotStanding V) → HasWaited rule p c l became q
      → counts_in q ≡ one_wait_more (counts_in p) c
  waited_counts c l became p q w = ap counts_in w.is

  pub owner_counts : (l : ℕ) (p q : LotStanding V) → IsOwner rule p l q → counts_in q ≡ counts_in p
  owner_counts l p q o = ap counts_in o.is

module _ {V : Type 0} where
  pub went_counts : (l : ℕ) (became : Released) (p q : LotStanding V) → LetsGo p l became q → counts_in q ≡ counts_in p
  went_counts l became p q gone = ap counts_in gone.is

  pub took_none : (p : LotStanding V) (c : ℕ) → counts_called_more (counts_in p) c 0 ≡ counts_in p
  took_none p c = ap counts_in (none_called p c)

  -- what a notification leaves
  pub notified_calm : (t c n taken : ℕ) (p q : LotStanding V) → IsCalm t p → Notifies p c n taken q → IsCalm t q
  notified_calm t c n taken p q calm (inl (none, is)) = looked_calm t p q (trace_of_nobody p.thread c) calm is
  notified_calm t c n taken p q calm (inr (did, word, is)) = took_calm t c taken p q did calm is

  pub notified_counts : (c n taken : ℕ) (p q : LotStanding V) → Notifies p c n taken q
      → counts_in q ≡ counts_called_more (counts_in p) c taken
  notified_counts c n taken p q (inl (none, is)) =
      ap counts_in is ∙ (sym (took_none p c) ∙ ap (λ k. counts_called_more (counts_in p) c k) (sym none))
  notified_counts c n taken p q (inr (did, word, is)) = ap counts_in is

  pub all_notified_calm : (t c taken : ℕ) (p q : LotStanding V) → IsCalm t p → NotifiesAll p c taken q → IsCalm t q
  all_notified_calm t c taken p q calm (inl (none, is)) = looked_calm t p q (trace_of_nobody p.thread c) calm is
  all_notified_calm t c taken p q calm (inr is) = took_calm t c taken p q (trace_of_all p.thread c taken) calm is

  pub all_notified_counts : (c taken : ℕ) (p q : LotStanding V) → NotifiesAll p c taken q
      → counts_in q ≡ counts_called_more (counts_in p) c taken
  all_notified_counts c taken p q (inl (none, is)) =
      ap counts_in is ∙ (sym (took_none p c) ∙ ap (λ k. counts_called_more (counts_in p) c k) (sym none))
  all_notified_counts c taken p q (inr is) = ap counts_in is

-- who took nobody has counted as before
pub none_took : (q : CountsView) (c : ℕ) → counts_called_more q c 0 ≡ q
none_took q c =
    let same : slice_set q.called c (slice_index q.called c + 0) ≡ q.called =
    ap (λ n. slice_set q.called c n) (omega arith) ∙ set-get_or q.called c 0
    in
    ap (λ (xs : List ℕ). record q { called = xs }) same
