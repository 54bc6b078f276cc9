-- What is so of a thread that seeks a lock.
use Rattle.std.proofs.Common.{◌≡◌, ◌≢◌, ℕ, ◌<◌, Bool, true, false, MatchBool, length, List, [], ◌∷◌, ◌++◌, inl, inr, refl, sym, ap}
use Rattle.std.proofs.Common.{subst}
use Rattle.std.proofs.lemmas.List.Elements.{All-nil, All-append}
use Rattle.std.specs.List.{All}
use mathlib.Core.Option.{some}
use lib.ListN.{get_elem?}
use Rattle.lot_seeking.specs.Seeking.{SeekingLaws, AddingLaws}
use Rattle.lot_seeking.proofs.Laws.{laws as seeking_laws, got_on, may_now}
use Rattle.lot_events.specs.declared.events.Event.TheVariants.{Mark}
use Rattle.lot_events.specs.declared.events.Seen.TheVariants.{Done}
use Rattle.lot_rights.specs.declared.views.Access.{Access}
use Rattle.lot_rights.specs.declared.views.Access.TheVariants.{Makes, Finds}
use Rattle.lot_words.specs.declared.views.LockPassView.{LockPassView}
use Rattle.lot_words.specs.CallersRule.{CallersRule}
use Rattle.lot_words.specs.Values.{FoundOk}
use Rattle.lot_words.specs.Calls.{wanting as lock_wanting}
use Rattle.lot_whole.specs.declared.views.Stand.TheVariants.{Idle}
use Rattle.lot_whole.specs.Standing.{MayWant, MayLineUp}
use Rattle.lot_scheme.specs.Standing.{LotStanding, adding, wanting, owning}
use Rattle.lot_scheme.specs.Traces.{IsSeek}
use Rattle.lot_scheme.proofs.Ends.{ends_with}
use Rattle.lot_locks.specs.Standing.{MaySeekOf, IsTryingFor, IsAwakeFor, IsOwner, Seeks, HasMarked, FindsAnother, HasFound}
use Rattle.lot_locks.proofs.Adding.{All-one, none_added, both_added, up_then, is_up, may_again, sought_before}

module _ {V : Type 0} where
  -- whoever made one access then, which found this word, has found it
  pub has_found : (before now : LotStanding V) (l word : ℕ) → now ≡ adding before (Finds before.thread l word ∷ [])
      → HasFound now l word
  has_found before now l word is = subst (λ (z : LotStanding V). HasFound z l word) (sym is) (before.did, refl)

module _ {V : Type 0} (above : ℕ → ℕ → Type 0) where
  -- who wants the lock by now is awake for it
  pub awake : (n : ℕ) (before now : LotStanding V) (l : ℕ) → IsTryingFor above n before l now → IsAwakeFor above n before l now
  awake n before now l s = record { may = s.may; did = s.did; sought = s.sought; is = inr s.is }

  -- whoever may take a lock is awake for it, from where it stands
  pub begins : (n : ℕ) (now : LotStanding V) (l : ℕ) → l < n → MayWant above now.own l → IsAwakeFor above n now l now
  begins n now l below may = record {
    may = (below, may);
    did = [];
    sought = All-nil (IsSeek now.thread l);
    is = inl (none_added now);
  }

  -- so it may line up
  pub may_line_up : (n : ℕ) (before now : LotStanding V) (l : ℕ) → IsTryingFor above n before l now → MayLineUp now.own l
  may_line_up n before now l s = subst (λ (z : LotStanding V). MayLineUp z.own l) (sym s.is)
      (up_then before.own (lock_wanting before.own.locks l) Idle refl (is_up before.own l s.may.1.0), refl)

-- one access more by a thread that wants the lock, by which it neither gets it nor is queued
module _ {V : Type 0} (above : ℕ → ℕ → Type 0) where
  pub sought_on : (n : ℕ) (before mid now : LotStanding V) (l : ℕ) (a : Access) → IsTryingFor above n before l mid
      → IsSeek before.thread l a
      → now ≡ adding mid (a ∷ [])
      → IsTryingFor above n before l now
  sought_on n before mid now l a s seeks is = record {
    may = s.may;
    did = s.did ++ a ∷ [];
    sought = All-append (IsSeek before.thread l) s.did (a ∷ []) s.sought (All-one (IsSeek before.thread l) a seeks);
    is = both_added (wanting before l) now s.did (a ∷ []) (subst (λ (z : LotStanding V). now ≡ adding z (a ∷ [])) s.is is);
  }

  -- a mark, whether it was made or not
  pub marked_on : (n : ℕ) (before mid now : LotStanding V) (l : ℕ) (does : Bool) → IsTryingFor above n before l mid
      → MatchBool does (now ≡ adding mid (Makes (Mark mid.thread l) Done ∷ []))
      ((word : ℕ) × (word ≢ 1) × (now ≡ adding mid (Finds mid.thread l word ∷ [])))
      → IsTryingFor above n before l now
  marked_on n before mid now l true s is =
      sought_on n before mid now l (Makes (Mark mid.thread l) Done) s (ap (λ (z : LotStanding V). z.thread) s.is, refl) is
  marked_on n before mid now l false s (word, other, is) =
      sought_on n before mid now l (Finds mid.thread l word) s (ap (λ (z : LotStanding V). z.thread) s.is, refl) is

  -- it was the last
  pub has_marked : (n : ℕ) (before mid now : LotStanding V) (l : ℕ) → IsTryingFor above n before l mid
      → now ≡ adding mid (Makes (Mark mid.thread l) Done ∷ []) → HasMarked before l now
  has_marked n before mid now l s is = ends_with _ before mid now s.did (Makes (Mark mid.thread l) Done)
      (ap (λ (z : LotStanding V). Makes (Mark z.thread l) Done) s.is) (ap (λ (z : LotStanding V). z.did) s.is)
      (ap (λ (z : LotStanding V). z.did) is)

  pub finds_another : (n : ℕ) (before mid now : LotStanding V) (l word : ℕ) → IsTryingFor above n before l mid → word ≢ 1
      → now ≡ adding mid (Finds mid.thread l word ∷ []) → FindsAnother before l now
  finds_another n before mid now l word s other is = ends_with _ before mid now s.did (Finds mid.thread l word)
      (word, other, ap (λ (z : LotStanding V). Finds z.thread l word) s.is) (ap (λ (z : LotStanding V). z.did) s.is)
      (ap (λ (z : LotStanding V). z.did) is)

-- what is wanted does not matter to what is found
pub found_then : {V Part : Type 0} (rule : CallersRule V Part) (l t : ℕ) (p q : LockPassView V) (x : V) → p.holds ≡ q.holds
    → p.places ≡ q.places → p.seen ≡ q.seen
    → FoundOk rule l t p x → FoundOk rule l t q x
found_then rule l t p q x holds places seen f = record {
  tells = record {
    holds = subst (λ (hs : List _). l < length hs) holds f.tells.holds;
    places = subst (λ (ps : List _). l < length ps) places f.tells.places;
    seen = subst (λ (vs : List _). l < length vs) seen f.tells.seen;
  };
  kept = f.kept;
  grown = λ s has. f.grown s (subst (λ vs. get_elem? vs l ≡ some s) (sym seen) has);
  mine = λ s has. f.mine s (subst (λ vs. get_elem? vs l ≡ some s) (sym seen) has);
}

module _ {V Part : Type 0} (rule : CallersRule V Part) where
  -- a lock that is got after accesses that got nothing is got
  got_after : (before after : LotStanding V) (l : ℕ) (did : List Access) → All (IsSeek before.thread l) did
      → IsOwner rule (adding before did) l after → IsOwner rule before l after
  got_after before after l did sought o = record {
    value = o.value;
    found = o.found;
    did = did ++ o.did;
    got = sought_before before.thread l did o.did sought o.got;
    is = both_added (owning before l o.value) after did o.did o.is;
  }

  -- and so it is by whoever wants it already
  got_wanting : (before after : LotStanding V) (l : ℕ) → IsOwner rule (wanting before l) l after → IsOwner rule before l after
  got_wanting before after l o = record {
    value = o.value;
    found = found_then rule l before.thread (wanting before l).own.locks before.own.locks o.value refl refl refl o.found;
    did = o.did;
    got = o.got;
    is = o.is;
  }

  module _ (n : ℕ) where
    adds : AddingLaws (λ (p : LotStanding V). p.thread) adding wanting (MaySeekOf rule.above n) IsSeek (IsOwner rule)
    adds = record {
      none = λ p. sym (none_added p);
      both = λ p xs ys. both_added p (adding (adding p xs) ys) xs ys refl;
      same = λ p xs. refl;
      wants_same = λ p l. refl;
      wants_once = λ p l. refl;
      wants_added = λ p l xs. refl;
      may_added = λ p l xs may. may;
      may_again = λ p l may. (may.0, may_again rule.above p.own l may.1.0);
      got_same = λ p q l o. ap (λ (z : LotStanding V). z.thread) o.is;
      got_after = λ p q l xs sought o. got_after p q l xs sought o;
      got_wanting = λ p q l o. got_wanting p q l o;
    }

    pub laws : SeekingLaws (λ (p : LotStanding V). p.thread) (Seeks rule n)
    laws = seeking_laws (λ (p : LotStanding V). p.thread) adding wanting (MaySeekOf rule.above n) IsSeek (IsOwner rule) adds

    pub owner_on : (before now after : LotStanding V) (l : ℕ) → IsAwakeFor rule.above n before l now → IsOwner rule now l after
        → IsOwner rule before l after
    owner_on = got_on (λ (p : LotStanding V). p.thread) adding wanting (MaySeekOf rule.above n) IsSeek (IsOwner rule) adds

    -- and who is awake for a lock may take it
    pub may_take : (before now : LotStanding V) (l : ℕ) → IsAwakeFor rule.above n before l now → MayWant rule.above now.own l
    may_take before now l s = (may_now (λ (p : LotStanding V). p.thread) adding wanting (MaySeekOf rule.above n) IsSeek (IsOwner rule) adds
        before now l s).1

-- of a thread that lines up for a lock
pub ruleset line_laws = (may_line_up, marked_on, awake, has_marked, finds_another)
