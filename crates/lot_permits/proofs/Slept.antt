-- How a pass stands that slept in a semaphore's line and found its letter: it seeks a permit still.
use Rattle.std.proofs.Common.{◌≡◌, ℕ, Bool, true, false, Option, Some, None, List, [], ◌∷◌, ◌++◌, refl, sym, ap, subst, ◌∙◌}
use Rattle.std.specs.Option.{is_some}
use Rattle.lot_rights.specs.declared.views.Access.{Access}
use Rattle.lot_rights.specs.declared.views.Access.TheVariants.{Collects}
use Rattle.lot_park.specs.Parking.{Awaited}
use Rattle.lot_seeking.specs.declared.seeking.Seeking.TheVariants.{Parks}
use Rattle.lot_park.proofs.Looks.{awaited_keeps}
use Rattle.lot_words.specs.CallersRule.{CallersRule}
use Rattle.lot_sems.specs.Calls.{seeking as sem_seeking}
use Rattle.lot_whole.specs.declared.views.Stand.TheVariants.{Idle}
use Rattle.lot_whole.specs.Family.{lock, cond, sem}
use Rattle.lot_whole.specs.Standing.{IsUp}
use Rattle.lot_scheme.specs.Standing.{LotStanding, adding, seeking, queued, IsLooked, CollectsIn, CollectsSem}
use Rattle.lot_scheme.specs.Traces.{IsPermitSeek}
use Rattle.lot_permits.specs.Seeking.{IsAsleepFor, IsSeekingFor, Seeks}
use Rattle.lot_permits.proofs.Adding.{adding_on, seek_on}
use Rattle.lot_permits.proofs.Seeking.{up_of}

none_of : (o : Option ℕ) → is_some o ≡ false → o ≡ None
none_of None e = refl
none_of (Some x) e = absurd (cc)

module _ {V Part : Type 0} (rule : CallersRule V Part) where
  -- whoever is away at no lock and at no condition finds a letter of a semaphore
  of_sem : (p q : LotStanding V) (token : ℕ) (at_lock : Bool) (out : Option ℕ) → at_lock ≡ false → out ≡ None
      → CollectsIn rule p at_lock out token q → CollectsSem rule p token q
  of_sem p q token true out e f h = absurd (cc)
  of_sem p q token false None e f h = h
  of_sem p q token false (Some c) e f h = absurd (cc)

  module _ (first_sem : ℕ) (before : LotStanding V) (key : ℕ) where
    -- a look in vain
    sleeps_on : (p q : LotStanding V) → IsAsleepFor rule.above first_sem before key p → IsLooked rule p None q
        → IsAsleepFor rule.above first_sem before key q
    sleeps_on p q s look = record {
      may = s.may;
      did = s.did ++ Collects before.thread None ∷ [];
      sought = seek_on before.thread key s.did (Collects before.thread None) s.sought refl;
      is = look ∙ (ap (λ (r : LotStanding V). adding r (Collects r.thread None ∷ [])) s.is
          ∙ adding_on (queued before key) s.did (Collects before.thread None ∷ []));
    }

    -- the letter, by a pass that stands so
    finds_at : (did : List Access) (token : ℕ) (q : LotStanding V) → IsUp before.own
        → IsLooked rule (adding (queued before key) did) (Some token) q → CollectsSem rule (adding (queued before key) did) token q
    finds_at did token q up look = of_sem (adding (queued before key) did) q token before.own.locks.asleep before.own.conds.out (up lock)
        (none_of before.own.conds.out (up cond)) look

    wakes : (p q : LotStanding V) (token : ℕ) → IsAsleepFor rule.above first_sem before key p → IsLooked rule p (Some token) q
        → IsSeekingFor rule.above first_sem before key q
    wakes p q token s look =
        let up = up_of before.own key s.may.1.0 in
        let found = finds_at s.did token q up (subst (λ (r : LotStanding V). IsLooked rule r (Some token) q) s.is look) in
        record {
          may = s.may;
          did = s.did ++ Collects before.thread (Some token) ∷ [];
          sought = seek_on before.thread key s.did (Collects before.thread (Some token)) s.sought
              (subst (λ n. IsPermitSeek before.thread key (Collects before.thread (Some n))) (sym found.0) refl);
          is = found.2
              ∙ (ap (λ b. adding (adding (record before {
                own = record before.own { sems = record (sem_seeking before.own.sems key) { asleep = b }; stand = Idle };
              }) s.did)
              (Collects before.thread (Some token) ∷ [])) (sym (up sem))
              ∙ adding_on (seeking before key) s.did (Collects before.thread (Some token) ∷ []));
        }

    pub seeks_still : (asleep now : LotStanding V) (token : ℕ) → IsAsleepFor rule.above first_sem before key asleep
        → Awaited (IsLooked rule) asleep token now
        → Seeks rule.above first_sem before key Parks now
    seeks_still asleep now token s a =
        let kept =
        awaited_keeps (IsLooked rule) (λ (p q : LotStanding V). IsAsleepFor rule.above first_sem before key p
        → IsAsleepFor rule.above first_sem before key q)
        (λ p h. h) (λ p m q on look h. sleeps_on m q (on h) look) asleep token now a in
        wakes kept.0 now token (kept.1 s) kept.2
