-- How a pass stands that slept in a lock's line and found its letter.
use Rattle.std.proofs.Common.{◌≡◌, ℕ, zero, suc, ◌==◌, false, List, [], ◌∷◌, ◌++◌, MatchBool, Some, None, refl, sym, ap, subst, ◌∙◌, arith}
use Rattle.std.proofs.lemmas.List.Elements.{All-nil, All-append}
use Rattle.std.specs.List.{All}
use Rattle.lot_park.specs.Parking.{LooksInVain, Awaited}
use Rattle.lot_rights.specs.declared.views.Access.{Access}
use Rattle.lot_rights.specs.declared.views.Access.TheVariants.{Collects}
use Rattle.lot_words.specs.declared.views.LockPassView.{LockPassView}
use Rattle.lot_words.specs.CallersRule.{CallersRule}
use Rattle.lot_words.specs.Values.{FoundOk}
use Rattle.lot_words.specs.Calls.{owning as lock_owning, woken}
use Rattle.lot_whole.specs.declared.views.Stand.TheVariants.{Idle}
use Rattle.lot_whole.specs.Family.{lock}
use Rattle.lot_scheme.specs.Standing.{LotStanding, adding, wanting, lined, owning, IsLooked, CollectsLock}
use Rattle.lot_scheme.specs.Traces.{IsSeek}
use Rattle.lot_locks.specs.Standing.{IsAsleepFor, IsTryingFor, IsOwner}
use Rattle.lot_locks.proofs.Adding.{All-one, none_added, both_added, is_up}
use Rattle.lot_locks.proofs.Seeking.{found_then}

module _ {V Part : Type 0} (rule : CallersRule V Part) where
  -- looks that find nothing are all that the pass did then, and each is of this kind
  pub vain_looks : (Kind : Access → Type 0) (n : ℕ) (p q : LotStanding V) → Kind (Collects p.thread None)
      → LooksInVain (IsLooked rule) n p q
      → (did : List Access) × All Kind did × (q ≡ adding p did)
  vain_looks Kind zero p q is e = ([], All-nil Kind, e ∙ none_added p)
  vain_looks Kind (suc n) p q is h =
      let first = vain_looks Kind n p h.0 is h.1 in (
        first.0 ++ Collects p.thread None ∷ [],
        All-append Kind first.0 (Collects p.thread None ∷ []) first.1 (All-one Kind (Collects p.thread None) is),
        both_added p q first.0 (Collects p.thread None ∷ [])
            (subst (λ (z : LotStanding V). q ≡ adding z (Collects z.thread None ∷ [])) first.2 h.2),
      )

  -- a sleeper that collected its letter then tries again, or owns the lock
  wakes : (n : ℕ) (before now : LotStanding V) (l token : ℕ) (did : List Access)
      → (s : IsAsleepFor rule.above n before l (adding (lined before l) did))
      → All (IsSeek before.thread l) did → CollectsLock rule (adding (lined before l) did) token now
      → MatchBool (token == 1) (IsOwner rule before l now) (IsTryingFor rule.above n before l now)
  wakes n before now l zero did s sought is =
      let up : before.own.locks.asleep ≡ false = is_up before.own l s.may.1.0 lock in
      record {
        may = s.may;
        did = did ++ Collects before.thread (Some 0) ∷ [];
        sought = All-append (IsSeek before.thread l) did (Collects before.thread (Some 0) ∷ []) sought
            (All-one (IsSeek before.thread l) (Collects before.thread (Some 0)) refl);
        is = both_added (wanting before l) now did (Collects before.thread (Some 0) ∷ [])
            (is ∙ ap (λ asleep. adding (record before {
              own = record before.own { locks = record before.own.locks { aim = Some l; asleep = asleep }; stand = Idle };
              did = before.did ++ did;
            }) (Collects before.thread (Some 0) ∷ [])) (sym up));
      }
  wakes n before now l (suc zero) did s sought (e, (k, aim, (x, found, is))) =
      let up : before.own.locks.asleep ≡ false = is_up before.own l s.may.1.0 lock in
      let same : k ≡ l = (let f : Some l ≡ Some k = aim in cc) in
      let locks : LockPassView V = (lined before l).own.locks in
      record {
        value = x;
        found = found_then rule l before.thread locks before.own.locks x refl refl refl
            (subst (λ (i : ℕ). FoundOk rule i before.thread locks x) same found);
        did = did ++ Collects before.thread (Some 1) ∷ [];
        got = (did, Collects before.thread (Some 1), sought, refl, refl);
        is = both_added (owning before l x) now did (Collects before.thread (Some 1) ∷ [])
            (subst (λ (i : ℕ). now ≡ adding (record before {
              own = record before.own { locks = woken (lock_owning locks i x); stand = Idle };
              did = before.did ++ did;
            }) (Collects before.thread (Some 1) ∷ [])) same is
            ∙ ap (λ asleep. adding (record before {
              own = record before.own { locks = record (lock_owning before.own.locks l x) { asleep = asleep }; stand = Idle };
              did = before.did ++ did;
            }) (Collects before.thread (Some 1) ∷ [])) (sym up));
      }
  wakes n before now l (suc (suc k)) did s sought e = absurd (omega (arith, e.0))

  pub woken_ends : (n : ℕ) (before asleep now : LotStanding V) (l token : ℕ) → IsAsleepFor rule.above n before l asleep
      → Awaited (IsLooked rule) asleep token now
      → MatchBool (token == 1) (IsOwner rule before l now) (IsTryingFor rule.above n before l now)
  woken_ends n before asleep now l token s a =
      let last : LotStanding V = a.last in
      let in_vain = subst (λ (z : LotStanding V). LooksInVain (IsLooked rule) a.looks z last) s.is a.in_vain in
      let looks = vain_looks (IsSeek before.thread l) a.looks (adding (lined before l) s.did) last refl in_vain in
      let did : List Access = s.did ++ looks.0 in
      let is : last ≡ adding (lined before l) did = both_added (lined before l) last s.did looks.0 looks.2 in
      let all = All-append (IsSeek before.thread l) s.did looks.0 s.sought looks.1 in
      wakes n before now l token did (record { may = s.may; did = did; sought = all; is = refl }) all
      (subst (λ (z : LotStanding V). IsLooked rule z (Some token) now) is a.found)
