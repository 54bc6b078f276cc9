-- What is so of a thread that seeks a permit.
use Rattle.std.proofs.Common.{◌≡◌, ℕ, ◌≤◌, Bool, true, false, [], ◌∷◌, ◌++◌, ◌⊎◌, inl, inr, ⊎_elim, refl, sym, ap, subst}
use Rattle.std.proofs.Common.{◌∙◌, Some, None}
use Rattle.lot_events.specs.declared.events.Event.TheVariants.{SemTake, SemMark}
use Rattle.lot_events.specs.declared.events.Seen.TheVariants.{Bool as Saw, Done}
use Rattle.lot_rights.specs.declared.views.Access.{Access}
use Rattle.lot_rights.specs.declared.views.Access.TheVariants.{Makes, Finds}
use Rattle.lot_sems.specs.declared.taking.Taken.{Taken}
use Rattle.lot_sems.specs.declared.taking.Taken.TheVariants.{Got as HasGot, Empty, Busy}
use Rattle.lot_sems.specs.Calls.{seeking as sem_seeking}
use Rattle.lot_whole.specs.declared.views.LotPassView.{LotPassView}
use Rattle.lot_whole.specs.declared.views.Stand.TheVariants.{Idle}
use Rattle.lot_whole.specs.Family.{lock, cond, sem}
use Rattle.lot_whole.specs.Standing.{IsUp, MayTakePermit, MayWantPermit, MaySeek}
use Rattle.lot_seeking.specs.declared.seeking.Seeking.TheVariants.{Got, Waits}
use Rattle.lot_seeking.specs.Seeking.{SeekingLaws, AddingLaws}
use Rattle.lot_seeking.proofs.Laws.{laws as seeking_laws}
use Rattle.lot_scheme.specs.Standing.{LotStanding, adding, seeking, one_permit_more}
use Rattle.lot_scheme.specs.Traces.{IsPermitSeek}
use Rattle.lot_scheme.specs.SemCalls.{TakesPermit, MarksPermit}
use Rattle.lot_scheme.proofs.Ends.{ends_with}
use Rattle.lot_permits.specs.Seeking.{GetsPermit, MaySeekOf, IsSeekingFor, IsAwakeFor, Seeks, HasMarked, FindsAnother}
use Rattle.lot_permits.proofs.Adding.{adding_on, adding_none, get_after, took_it, one_seek, seek_on, busy_seek}

module _ {V : Type 0} where
  -- ---- the thread is up
  pub up_of : (p : LotPassView V) (k : ℕ) → MayTakePermit p k → IsUp p
  up_of p k (inl may) = may.0
  up_of p k (inr idle) = idle.0.up

  seeking_up : (p : LotPassView V) (k : ℕ) → IsUp p → IsUp (record p { sems = sem_seeking p.sems k; stand = Idle })
  seeking_up p k up lock = up lock
  seeking_up p k up cond = up cond
  seeking_up p k up sem = up sem

  pub may_seek : (p : LotStanding V) (k : ℕ) → MayTakePermit p.own k → MaySeek (seeking p k).own k
  may_seek p k may = (seeking_up p.own k (up_of p.own k may), refl)

  -- and may seek on
  pub may_again : (above : ℕ → ℕ → Type 0) (p : LotStanding V) (k : ℕ) → MayTakePermit p.own k → MayWantPermit above (seeking p k).own k
  may_again above p k may = (inl (may_seek p k may), λ idle. absurd (let e : Some k ≡ None = idle.0.seeks in cc))

  module _ (above : ℕ → ℕ → Type 0) (first_sem : ℕ) where
    -- ---- the laws
    adds : AddingLaws (λ (p : LotStanding V). p.thread) adding seeking (MaySeekOf above first_sem) IsPermitSeek GetsPermit
    adds = record {
      none = λ p. adding_none p;
      both = λ p xs ys. adding_on p xs ys;
      same = λ p xs. refl;
      wants_same = λ p key. refl;
      wants_once = λ p key. refl;
      wants_added = λ p key xs. refl;
      may_added = λ p key xs may. may;
      may_again = λ p key may. (may.0, may_again above p key may.1.0);
      got_same = λ p q key gets. ap (λ (z : LotStanding V). z.thread) gets.is;
      got_after = λ p q key xs sought gets. record {
        did = xs ++ gets.did;
        got = get_after p.thread key xs gets.did sought gets.got;
        is = gets.is ∙ adding_on (one_permit_more p key) xs gets.did;
      };
      got_wanting = λ p q key gets. record { did = gets.did; got = gets.got; is = gets.is };
    }

    pub laws : SeekingLaws (λ (p : LotStanding V). p.thread) (Seeks above first_sem)
    laws = seeking_laws (λ (p : LotStanding V). p.thread) adding seeking (MaySeekOf above first_sem) IsPermitSeek GetsPermit adds

    may_take : (before now : LotStanding V) (key : ℕ) → IsSeekingFor above first_sem before key now
        → IsAwakeFor above first_sem before key now
    may_take before now key s = record { may = s.may; did = s.did; sought = s.sought; is = inr s.is }

    -- one access more, by which it got none
    pub goes_on : (before now after : LotStanding V) (key : ℕ) (a : Access) → IsSeekingFor above first_sem before key now
        → IsPermitSeek before.thread key a → after ≡ adding now (a ∷ []) → IsSeekingFor above first_sem before key after
    goes_on before now after key a s seeks is = record {
      may = s.may;
      did = s.did ++ a ∷ [];
      sought = seek_on before.thread key s.did a s.sought seeks;
      is = is ∙ (ap (λ (p : LotStanding V). adding p (a ∷ [])) s.is ∙ adding_on (seeking before key) s.did (a ∷ []));
    }

    -- who seeks a permit may mark the semaphore as parked, and seeks it still
    pub may_mark : (before now : LotStanding V) (key : ℕ) → IsSeekingFor above first_sem before key now → MaySeek now.own key
    may_mark before now key s = subst (λ (p : LotStanding V). MaySeek p.own key) (sym s.is) (may_seek before key s.may.1.0)

    pub marked_on : (before mid now : LotStanding V) (key : ℕ) (does : Bool) → IsSeekingFor above first_sem before key mid
        → MarksPermit mid key does now
        → IsSeekingFor above first_sem before key now
    marked_on before mid now key true s is =
        goes_on before mid now key (Makes (SemMark mid.thread key) Done) s (ap (λ (p : LotStanding V). p.thread) s.is, refl) is
    marked_on before mid now key false s (word, other, is) =
        goes_on before mid now key (Finds mid.thread key word) s (ap (λ (p : LotStanding V). p.thread) s.is, refl) is

    -- it was the last
    pub has_marked : (before mid now : LotStanding V) (key : ℕ) → IsSeekingFor above first_sem before key mid
        → MarksPermit mid key true now → HasMarked before key now
    has_marked before mid now key s is = ends_with _ before mid now s.did (Makes (SemMark mid.thread key) Done)
        (ap (λ (p : LotStanding V). Makes (SemMark p.thread key) Done) s.is) (ap (λ (p : LotStanding V). p.did) s.is)
        (ap (λ (p : LotStanding V). p.did) is)

    pub finds_another : (before mid now : LotStanding V) (key : ℕ) → IsSeekingFor above first_sem before key mid
        → MarksPermit mid key false now → FindsAnother before key now
    finds_another before mid now key s (word, other, is) = inl (ends_with _ before mid now s.did (Finds mid.thread key word)
        (word, other, ap (λ (p : LotStanding V). Finds p.thread key word) s.is) (ap (λ (p : LotStanding V). p.did) s.is)
        (ap (λ (p : LotStanding V). p.did) is))

    -- and so it was of an exchange that was too late
    pub finds_busy : (p q : LotStanding V) (key : ℕ) → TakesPermit p key Busy q → FindsAnother p key q
    finds_busy p q key busy = inr busy

    -- ---- after a try
    pub tried : (p q : LotStanding V) (key : ℕ) → first_sem ≤ key → MayWantPermit above p.own key
        → TakesPermit p key HasGot q → GetsPermit p key q
    tried p q key among may (did, trace, is) = record { did = did; got = took_it p.thread key did trace; is = is }

    pub found_none : (p q : LotStanding V) (key : ℕ) → first_sem ≤ key → MayWantPermit above p.own key → TakesPermit p key Empty q
        → IsSeekingFor above first_sem p key q
    found_none p q key among may is = record {
      may = (among, may);
      did = Makes (SemTake p.thread key) (Saw false) ∷ [];
      sought = one_seek p.thread key (Makes (SemTake p.thread key) (Saw false)) (refl, refl);
      is = is;
    }

    pub missed : (p q : LotStanding V) (key : ℕ) (taken : Taken) → first_sem ≤ key → MayWantPermit above p.own key
        → TakesPermit p key taken q
        → (taken ≡ Empty) ⊎ (taken ≡ Busy) → IsAwakeFor above first_sem p key q
    missed p q key HasGot among may took none = absurd (⊎_elim {C = ⊥} (λ e. cc) (λ e. cc) none)
    missed p q key Empty among may took none = may_take p q key (found_none p q key among may took)
    missed p q key Busy among may (did, word, is) none =
        record { may = (among, may); did = did; sought = busy_seek p.thread key did word; is = inl is }

    -- and it goes on as from there
    pub goes_again : (p q : LotStanding V) (key : ℕ) → IsAwakeFor above first_sem p key q → IsAwakeFor above first_sem q key q
    goes_again p q key s = laws.itself p q key Waits tt s

    -- and where it got one in the end, it has got it
    pub got_slowly : (p q r : LotStanding V) (key : ℕ) → IsAwakeFor above first_sem p key q → GetsPermit q key r → GetsPermit p key r
    got_slowly p q r key s gets = laws.on p q r key Waits Got tt s gets

-- of a thread that lines up for a permit
pub ruleset line_laws = (tried, missed, found_none, may_mark, marked_on, has_marked, finds_another, finds_busy)
