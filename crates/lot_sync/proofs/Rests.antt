-- A pass gets a lock and lets it go, and is at rest again; and what its callers see of that.
use Rattle.std.proofs.Common.{◌≡◌, ◌≢◌, ℕ, ◌<◌, Bool, true, false, List, [], ◌∷◌, ◌++◌, zero, suc, length, map, set, get_or, None}
use Rattle.std.proofs.Common.{refl, sym, ap, subst, ◌∙◌, ⊎_elim, length-set, arith}
use Rattle.std.proofs.lemmas.List.{get_or-set_same, get_or-set_other, map-set, set-get_or}
use mathlib.Core.Option.{some, some-injective}
use mathlib.Core.Logic.{dite}
use native.Mathlib.Decide.{ℕ_discrete}
use lib.ListN.{get_elem?}
use Rattle.atomic_table.proofs.Lists.{set_here, set_else, at_set}
use Rattle.lot_events.specs.declared.events.Event.TheVariants.{Free}
use Rattle.lot_events.specs.declared.events.Seen.TheVariants.{Bool as Saw}
use Rattle.lot_rights.specs.declared.views.Access.{Access}
use Rattle.lot_rights.specs.declared.views.Access.TheVariants.{Makes}
use Rattle.lot_words.specs.declared.views.Hold.{Hold}
use Rattle.lot_words.specs.declared.views.Hold.TheVariants.{NotHeld, Held, FoundParked}
use Rattle.lot_words.specs.declared.views.Place.{Place}
use Rattle.lot_words.specs.declared.views.Place.TheVariants.{InSlot, Out}
use Rattle.lot_words.specs.CallersRule.{CallersRule}
use Rattle.lot_words.specs.World.{IsHeld, Holds}
use Rattle.lot_words.specs.Values.{IsOut, IsIn, FoundOk, HasSeen, MayBecome}
use Rattle.lot_words.specs.Calls.{owning as lock_owning}
use Rattle.lot_whole.specs.declared.views.LotPassView.{LotPassView}
use Rattle.lot_whole.specs.declared.views.Stand.TheVariants.{Idle}
use Rattle.lot_whole.specs.Standing.{IsIdle, IsUp}
use Rattle.lot_whole.specs.Whole.{rises}
use Rattle.lot_scheme.specs.Standing.{LotStanding, adding, placing, letting_go, finding_parked, owning as owning_now}
use Rattle.lot_locks.specs.declared.released.Released.{Released}
use Rattle.lot_locks.specs.Standing.{GetsBy, GoesBy, LetsGo, IsFoundParked}
use Rattle.lot_locks.proofs.Adding.{up_then}
use Rattle.lot_locks.proofs.Freed.{held_near}
use Rattle.lot_sync.specs.Lot.{PassView, HeldView, ◌≈◌, LotNames, Owns, owning, letting_go as view_letting_go}
use Rattle.lot_sync.specs.Passes.{is_held, pass_view_of, IsOfLot, IsAtRest, IsNewOwner}
use Rattle.lot_sync.specs.Values.{Gets, MayGiveBack}
use Rattle.lot_sync.proofs.Adding.{alike_at}

-- ---- holds
-- the bool of a hold says whether it is held
pub owned_held : (hs : List Hold) (l : ℕ) → get_or (map is_held hs) l false ≡ true → IsHeld (get_or hs l NotHeld)
owned_held [] l e = absurd (cc)
owned_held (NotHeld ∷ hs) zero e = absurd (cc)
owned_held (Held ∷ hs) zero e = tt
owned_held (FoundParked ∷ hs) zero e = tt
owned_held (h ∷ hs) (suc l) e = owned_held hs l e

pub held_owned : (hs : List Hold) (l : ℕ) → IsHeld (get_or hs l NotHeld) → get_or (map is_held hs) l false ≡ true
held_owned [] l h = absurd h
held_owned (NotHeld ∷ hs) zero h = absurd h
held_owned (Held ∷ hs) zero h = refl
held_owned (FoundParked ∷ hs) zero h = refl
held_owned (h ∷ hs) (suc l) i = held_owned hs l i

held_here : (hs : List Hold) (l : ℕ) (h : Hold) → IsHeld h → l < length hs → IsHeld (get_or (set hs l h) l NotHeld)
held_here hs l h is near = subst IsHeld (sym (get_or-set_same hs l h NotHeld near)) is

held_else : (hs : List Hold) (l k : ℕ) (h : Hold) → k ≢ l → IsHeld (get_or (set hs l h) k NotHeld) → IsHeld (get_or hs k NotHeld)
held_else hs l k h else is = subst IsHeld (get_or-set_other hs l k h NotHeld else) is

unheld_here : (hs : List Hold) (l : ℕ) → l < length hs → ¬ IsHeld (get_or (set hs l NotHeld) l NotHeld)
unheld_here hs l near is = subst IsHeld (get_or-set_same hs l NotHeld NotHeld near) is

-- what a list has at a number within
pub reads : {A : Type 0} (xs : List A) (k : ℕ) → k < length xs → (x : A) × (get_elem? xs k ≡ some x)
reads [] k near = absurd (omega arith)
reads (x ∷ xs) zero near = (x, refl)
reads (x ∷ xs) (suc k) near = reads xs k (omega arith)

-- a held lock that is found parked is held as before
owned_parked : (hs : List Hold) (l : ℕ) → IsHeld (get_or hs l NotHeld) → map is_held (set hs l FoundParked) ≡ map is_held hs
owned_parked hs l holds =
    map-set is_held hs l FoundParked ∙ (ap (set (map is_held hs) l) (sym (held_owned hs l holds)) ∙ set-get_or (map is_held hs) l false)

in_slot-injective : {V : Type 0} (x y : V) → InSlot x ≡ InSlot y → x ≡ y
in_slot-injective x y e = cc

module _ {V : Type 0} where
  -- one value lies in a slot
  pub one_lies : (ps : List (Place V)) (l : ℕ) (x y : V) → get_elem? ps l ≡ some (InSlot x) → get_elem? ps l ≡ some (InSlot y) → x ≡ y
  one_lies ps l x y e f = in_slot-injective x y (some-injective (InSlot x) (InSlot y) (sym e ∙ f))

  -- ---- what callers see of a pass, but for the accesses that were made with it
  pub sees_as : (p q : LotStanding V) (own : LotPassView V) (did : List Access) (owns : List Bool) → q ≡ adding (record p { own = own }) did
      → map is_held own.locks.holds ≡ owns
      → pass_view_of q ≈ record {
        thread = p.thread;
        owns = owns;
        seen = own.locks.seen;
        called = own.conds.called;
        woken = own.conds.woken;
        permits = own.sems.out;
        made = q.did;
      }
  sees_as p q own did owns is held = subst
      (λ (r : LotStanding V). pass_view_of r ≡ record {
        thread = p.thread;
        owns = owns;
        seen = own.locks.seen;
        called = own.conds.called;
        woken = own.conds.woken;
        permits = own.sems.out;
        made = r.did;
      }) (sym is) (λ i. record {
        thread = p.thread;
        owns = held i;
        seen = own.locks.seen;
        called = own.conds.called;
        woken = own.conds.woken;
        permits = own.sems.out;
        made = p.did ++ did;
      })

  -- accesses alone change nothing else
  pub sees_stays : (p q : LotStanding V) (did : List Access) → q ≡ adding p did → pass_view_of q ≈ pass_view_of p
  sees_stays p q did is = sees_as p q p.own did (map is_held p.own.locks.holds) is refl

  -- a lock was got
  pub sees_owner : (p q : LotStanding V) (l : ℕ) (x : V) (did : List Access) → q ≡ adding (owning_now p l x) did
      → pass_view_of q ≈ owning (pass_view_of p) l x
  sees_owner p q l x did is =
      sees_as p q (owning_now p l x).own did (set (map is_held p.own.locks.holds) l true) is (map-set is_held p.own.locks.holds l Held)

  -- a lock was let go, and what was left there
  pub leaves_all : (trace : List Access → Type 0) (p q : LotStanding V) (l : ℕ) (value : V) → IsIn p.own.locks l value → GoesBy trace p l q
      → pass_view_of q ≈ view_letting_go (pass_view_of p) l value
  leaves_all trace p q l value lies went =
      let same : went.value ≡ value = one_lies p.own.locks.places l went.value value went.lay lies in
      sees_as p q (letting_go p l value).own went.did (set (map is_held p.own.locks.holds) l false)
      (subst (λ v. q ≡ adding (letting_go p l v) went.did) same went.is) (map-set is_held p.own.locks.holds l NotHeld)

  -- found parked, and its value taken out again: the callers see no change
  pub stays_all : (p m q : LotStanding V) (l : ℕ) → Holds p.own.locks l → IsFoundParked p l m → q ≡ placing m l Out
      → pass_view_of q ≈ pass_view_of p
  stays_all p m q l holds found moved = sees_as p q (placing (finding_parked p l) l Out).own (Makes (Free p.thread l) (Saw false) ∷ [])
      (map is_held p.own.locks.holds) (moved ∙ ap (λ (s : LotStanding V). placing s l Out) found) (owned_parked p.own.locks.holds l holds)

module _ {V : Type 0} (grows : V → V → Type 0) (names : LotNames V) where
  -- an owned lock is one of the lot
  pub owned_within : (r : LotStanding V) (l : ℕ) → IsAtRest grows names r → Owns (pass_view_of r) l → l < names.locks
  owned_within r l rest owns =
      subst (λ n. l < n) rest.of_lot.holds_long (held_near r.own.locks.holds l (owned_held r.own.locks.holds l owns))

  -- the accesses that were made are no matter
  of_lot_on : (r : LotStanding V) (did : List Access) → IsOfLot grows names r → IsOfLot grows names (adding r did)
  of_lot_on r did is = record {
    is_thread = is.is_thread;
    holds_long = is.holds_long;
    places_long = is.places_long;
    seen_long = is.seen_long;
    called_long = is.called_long;
    woken_long = is.woken_long;
    permits_long = is.permits_long;
    grown = is.grown;
  }

  rest_on : (r : LotStanding V) (did : List Access) → IsAtRest grows names r → IsAtRest grows names (adding r did)
  rest_on r did rest = record { of_lot = of_lot_on r did rest.of_lot; idle = rest.idle; out = rest.out }

  pub rests_on : (p q : LotStanding V) (did : List Access) → q ≡ adding p did → IsAtRest grows names p → IsAtRest grows names q
  rests_on p q did is rest = subst (IsAtRest grows names) (sym is) (rest_on p did rest)

  -- of a list of places, the value of one of them moved
  out_but : (holds : List Hold) (places : List (Place V)) (l : ℕ) (place : Place V)
      → ((k : ℕ) → k ≢ l → IsHeld (get_or holds k NotHeld) → get_elem? places k ≡ some Out)
      → (k : ℕ) → k ≢ l → IsHeld (get_or holds k NotHeld) → get_elem? (set places l place) k ≡ some Out
  out_but holds places l place out k else is = set_else places l k place else ∙ out k else is

  -- the new owner took the value out
  pub rests_again : (p q : LotStanding V) (l : ℕ) → l < names.locks → IsNewOwner grows names p l → q ≡ placing p l Out
      → IsAtRest grows names q
  rests_again p q l near own moved = subst (IsAtRest grows names) (sym moved) (record {
    of_lot = record {
      is_thread = own.of_lot.is_thread;
      holds_long = own.of_lot.holds_long;
      places_long = length-set p.own.locks.places l Out ∙ own.of_lot.places_long;
      seen_long = own.of_lot.seen_long;
      called_long = own.of_lot.called_long;
      woken_long = own.of_lot.woken_long;
      permits_long = own.of_lot.permits_long;
      grown = own.of_lot.grown;
    };
    idle = placed_idle own.idle;
    out = λ k holds. dite (ℕ_discrete k l)
        (λ e. subst (λ j. get_elem? (set p.own.locks.places l Out) j ≡ some Out) (sym e)
        (set_here p.own.locks.places l Out (let w = own.of_lot.places_long in omega (arith, w))))
        (λ else. out_but p.own.locks.holds p.own.locks.places l Out own.out k else holds);
  })
    where
      placed_idle : IsIdle p.own → IsIdle (placing p l Out).own
      placed_idle idle = (
        record {
          up = up_then p.own (placing p l Out).own.locks p.own.stand refl idle.0.up;
          aim = idle.0.aim;
          sweeps = idle.0.sweeps;
          seeks = idle.0.seeks;
        },
        idle.1,
      )

  -- the values of the locks that it owns still are out as before
  out_but_let_go : (p : LotStanding V) (l : ℕ) → l < names.locks → IsNewOwner grows names p l → (k : ℕ)
      → IsHeld (get_or (set p.own.locks.holds l NotHeld) k NotHeld) → IsOut p.own.locks k
  out_but_let_go p l near own k holds = dite (ℕ_discrete k l)
      (λ e. absurd (unheld_here p.own.locks.holds l (let w = own.of_lot.holds_long in omega (arith, w))
      (subst (λ j. IsHeld (get_or (set p.own.locks.holds l NotHeld) j NotHeld)) e holds)))
      (λ else. own.out k else (held_else p.own.locks.holds l k NotHeld else holds))

  -- a lock that was let go, and what was left there
  pub left_at_rest : ((x y z : V) → grows x y → grows y z → grows x z) → (p : LotStanding V) (l : ℕ) (value : V) → l < names.locks
      → IsNewOwner grows names p l → ((u : V) → HasSeen p.own.locks l u → grows u value) → IsAtRest grows names (letting_go p l value)
  left_at_rest through p l value near own grown = record {
    of_lot = record {
      is_thread = own.of_lot.is_thread;
      holds_long = length-set p.own.locks.holds l NotHeld ∙ own.of_lot.holds_long;
      places_long = own.of_lot.places_long;
      seen_long = length-set p.own.locks.seen l value ∙ own.of_lot.seen_long;
      called_long = own.of_lot.called_long;
      woken_long = own.of_lot.woken_long;
      permits_long = own.of_lot.permits_long;
      grown = grown_at;
    };
    idle = (
      record {
        up = up_then p.own (letting_go p l value).own.locks (rises p.own.stand) refl own.idle.0.up;
        aim = own.idle.0.aim;
        sweeps = own.idle.0.sweeps;
        seeks = own.idle.0.seeks;
      },
      ap rises own.idle.1,
    );
    out = out_but_let_go p l near own;
  }
    where
      seen_at : (k : ℕ) → k ≡ l → (w : V) × HasSeen p.own.locks l w
      seen_at k e = reads p.own.locks.seen l (let w = own.of_lot.seen_long in omega (arith, w))

      grown_at : (k : ℕ) (u v : V) → get_elem? names.values k ≡ some u → get_elem? (set p.own.locks.seen l value) k ≡ some v → grows u v
      grown_at k u v o s = ⊎_elim
          (λ here. let had = seen_at k here.0 in subst (grows u) here.1
          (through u had.0 value (own.of_lot.grown k u had.0 o (subst (λ j. HasSeen p.own.locks j had.0) (sym here.0) had.1))
          (grown had.0 had.1)))
          (λ else. own.of_lot.grown k u v o else.1)
          (at_set p.own.locks.seen l k value v s)

  -- whoever let a lock go is at rest
  pub rests_free : ((x y z : V) → grows x y → grows y z → grows x z)
      → (p q : LotStanding V) (l : ℕ) (value : V) (became : Released) → l < names.locks
      → IsNewOwner grows names p l → IsIn p.own.locks l value → ((u : V) → HasSeen p.own.locks l u → grows u value) → LetsGo p l became q
      → IsAtRest grows names q
  rests_free through p q l value became near own lies grown went =
      let same : went.value ≡ value = one_lies p.own.locks.places l went.value value went.lay lies in
      rests_on (letting_go p l value) q went.did (subst (λ v. q ≡ adding (letting_go p l v) went.did) same went.is)
      (left_at_rest through p l value near own grown)

  -- the value was put back into the slot
  pub owns_again : (p q : LotStanding V) (l : ℕ) (value : V) → l < names.locks → IsAtRest grows names p → Owns (pass_view_of p) l
      → q ≡ placing p l (InSlot value)
      → IsNewOwner grows names q l
  owns_again p q l value near rest owns moved = subst (λ (r : LotStanding V). IsNewOwner grows names r l) (sym moved) (record {
    of_lot = record {
      is_thread = rest.of_lot.is_thread;
      holds_long = rest.of_lot.holds_long;
      places_long = length-set p.own.locks.places l (InSlot value) ∙ rest.of_lot.places_long;
      seen_long = rest.of_lot.seen_long;
      called_long = rest.of_lot.called_long;
      woken_long = rest.of_lot.woken_long;
      permits_long = rest.of_lot.permits_long;
      grown = rest.of_lot.grown;
    };
    idle = (
      record {
        up = up_then p.own (placing p l (InSlot value)).own.locks p.own.stand refl rest.idle.0.up;
        aim = rest.idle.0.aim;
        sweeps = rest.idle.0.sweeps;
        seeks = rest.idle.0.seeks;
      },
      rest.idle.1,
    );
    holds = owned_held p.own.locks.holds l owns;
    value = value;
    lies = set_here p.own.locks.places l (InSlot value) (let w = rest.of_lot.places_long in omega (arith, w));
    out = out_but p.own.locks.holds p.own.locks.places l (InSlot value) (λ k else holds. rest.out k holds);
  })

  -- the lock was found parked, and the value was taken out again
  pub rests_parked : (p m q : LotStanding V) (l : ℕ) → l < names.locks → IsNewOwner grows names p l → IsFoundParked p l m
      → q ≡ placing m l Out → IsAtRest grows names q
  rests_parked p m q l near own found moved =
      rests_again m q l near (subst (λ (r : LotStanding V). IsNewOwner grows names r l) (sym found) (record {
        of_lot = record {
          is_thread = own.of_lot.is_thread;
          holds_long = length-set p.own.locks.holds l FoundParked ∙ own.of_lot.holds_long;
          places_long = own.of_lot.places_long;
          seen_long = own.of_lot.seen_long;
          called_long = own.of_lot.called_long;
          woken_long = own.of_lot.woken_long;
          permits_long = own.of_lot.permits_long;
          grown = own.of_lot.grown;
        };
        idle = (
          record {
            up = up_then p.own (finding_parked p l).own.locks p.own.stand refl own.idle.0.up;
            aim = own.idle.0.aim;
            sweeps = own.idle.0.sweeps;
            seeks = own.idle.0.seeks;
          },
          own.idle.1,
        );
        holds = held_here p.own.locks.holds l FoundParked tt (let w = own.of_lot.holds_long in omega (arith, w));
        value = own.value;
        lies = own.lies;
        out = λ k else holds. own.out k else (held_else p.own.locks.holds l k FoundParked else holds);
      })) moved

module _ {V Part : Type 0} (rule : CallersRule V Part) (names : LotNames V) where
  -- a lock was got, from a pass of the lot that is idle but for where it stands
  pub owns_so : (p : LotStanding V) (l : ℕ) (x : V) → l < names.locks → IsOfLot rule.grows names p → IsUp p.own → p.own.conds.sweeps ≡ None
      → p.own.sems.seeks ≡ None
      → ((k : ℕ) → k ≢ l → Holds p.own.locks k → IsOut p.own.locks k) → FoundOk rule l p.thread p.own.locks x
      → IsNewOwner rule.grows names (owning_now p l x) l
  owns_so p l x near lot up sweeps seeks out found = record {
    of_lot = record {
      is_thread = lot.is_thread;
      holds_long = length-set p.own.locks.holds l Held ∙ lot.holds_long;
      places_long = length-set p.own.locks.places l (InSlot x) ∙ lot.places_long;
      seen_long = length-set p.own.locks.seen l x ∙ lot.seen_long;
      called_long = lot.called_long;
      woken_long = lot.woken_long;
      permits_long = lot.permits_long;
      grown = grown_at;
    };
    idle = (record { up = up_then p.own (lock_owning p.own.locks l x) Idle refl up; aim = refl; sweeps = sweeps; seeks = seeks }, refl);
    holds = held_here p.own.locks.holds l Held tt (let w = lot.holds_long in omega (arith, w));
    value = x;
    lies = set_here p.own.locks.places l (InSlot x) (let w = lot.places_long in omega (arith, w));
    out = λ k else holds. set_else p.own.locks.places l k (InSlot x) else ∙ out k else (held_else p.own.locks.holds l k Held else holds);
  }
    where
      grown_at : (k : ℕ) (u v : V) → get_elem? names.values k ≡ some u → get_elem? (set p.own.locks.seen l x) k ≡ some v → rule.grows u v
      grown_at k u v o s = ⊎_elim
          (λ here. let had = reads p.own.locks.seen l (let w = lot.seen_long in omega (arith, w)) in
          subst (rule.grows u) here.1
          (rule.grows_on u had.0 x (lot.grown k u had.0 o (subst (λ j. HasSeen p.own.locks j had.0) (sym here.0) had.1))
          (found.grown had.0 had.1)))
          (λ else. lot.grown k u v o else.1)
          (at_set p.own.locks.seen l k x v s)

  owner_on : (p : LotStanding V) (l : ℕ) (did : List Access) → IsNewOwner rule.grows names p l
      → IsNewOwner rule.grows names (adding p did) l
  owner_on p l did own = record {
    of_lot = of_lot_on rule.grows names p did own.of_lot;
    idle = own.idle;
    holds = own.holds;
    value = own.value;
    lies = own.lies;
    out = own.out;
  }

  pub owns_after : (p q : LotStanding V) (l : ℕ) (did : List Access) → q ≡ adding p did → IsNewOwner rule.grows names p l
      → IsNewOwner rule.grows names q l
  owns_after p q l did is own = subst (λ (r : LotStanding V). IsNewOwner rule.grows names r l) (sym is) (owner_on p l did own)

  -- whoever got a lock is its new owner
  pub owns_newly : (trace : List Access → Type 0) (p q : LotStanding V) (l : ℕ) → l < names.locks → IsAtRest rule.grows names p
      → GetsBy rule trace p l q
      → IsNewOwner rule.grows names q l
  owns_newly trace p q l near rest got = owns_after (owning_now p l got.value) q l got.did got.is
      (owns_so p l got.value near rest.of_lot rest.idle.0.up rest.idle.0.sweeps rest.idle.0.seeks
      (λ k else holds. rest.out k holds) got.found)

  -- what the callers of lock see
  pub gets_all : (trace : List Access → Type 0) (p q : LotStanding V) (held : HeldView V) (l : ℕ) → l < names.locks
      → IsAtRest rule.grows names p → GetsBy rule trace p l q
      → held.key ≡ l → IsIn q.own.locks l held.value → (after : PassView V) → after ≡ pass_view_of q
      → Gets rule (pass_view_of p) l held after
  gets_all trace p q held l near rest got key_is lies after after_is =
      let seen_there : get_elem? (set p.own.locks.places l (InSlot got.value)) l ≡ some (InSlot got.value) =
      set_here p.own.locks.places l (InSlot got.value) (let w = rest.of_lot.places_long in omega (arith, w)) in
      let same : got.value ≡ held.value = one_lies (set p.own.locks.places l (InSlot got.value)) l got.value held.value seen_there
      (subst (λ (r : LotStanding V). IsIn r.own.locks l held.value) got.is lies) in
      let sees_it : after ≈ owning (pass_view_of p) l held.value =
      alike_at after (owning (pass_view_of p) l held.value) q after_is
      (subst (λ v. pass_view_of q ≈ owning (pass_view_of p) l v) same (sees_owner p q l got.value got.did got.is)) in
      record {
        key_is = key_is;
        kept = subst (rule.keeps l) same got.found.kept;
        grown = λ u s. subst (rule.grows u) same (got.found.grown u s);
        mine = λ u s. got.found.mine u s ∙ ap (rule.part p.thread) same;
        after_is = sees_it;
        owns = subst (λ (r : PassView V). Owns r l) (sym sees_it)
            (get_or-set_same (map is_held p.own.locks.holds) l true false
            (subst (λ n. l < n) (sym (long p.own.locks.holds)) (let w = rest.of_lot.holds_long in omega (arith, w))));
        seen = subst (λ (r : PassView V). get_elem? r.seen l ≡ some held.value) (sym sees_it)
            (set_here p.own.locks.seen l held.value (let w = rest.of_lot.seen_long in omega (arith, w)));
      }
    where
      long : (hs : List Hold) → length (map is_held hs) ≡ length hs
      long [] = refl
      long (h ∷ hs) = ap suc (long hs)

  -- the value that is given back may be left there
  pub may_leave : (p : LotStanding V) (held : HeldView V) (l : ℕ) → held.key ≡ l → l < names.locks → IsAtRest rule.grows names p
      → MayGiveBack rule (pass_view_of p) held
      → (x : V) × HasSeen p.own.locks l x × MayBecome rule l p.thread x held.value
  may_leave p held l is near rest back =
      let had = reads p.own.locks.seen l (let w = rest.of_lot.seen_long in omega (arith, w)) in
      let seen : HasSeen p.own.locks held.key had.0 = subst (λ k. HasSeen p.own.locks k had.0) (sym is) had.1 in (
        had.0,
        had.1,
        record {
          kept = subst (λ k. rule.keeps k held.value) is back.kept;
          grown = back.grown had.0 seen;
          others = λ u else. back.others had.0 u seen else;
        },
      )

module _ {V : Type 0} where
  -- the value that was put into a slot lies there
  pub lies_in : (p q : LotStanding V) (l : ℕ) (value : V) → q ≡ placing p l (InSlot value) → l < length p.own.locks.places
      → IsIn q.own.locks l value
  lies_in p q l value moved near =
      subst (λ (r : LotStanding V). IsIn r.own.locks l value) (sym moved) (set_here p.own.locks.places l (InSlot value) near)
