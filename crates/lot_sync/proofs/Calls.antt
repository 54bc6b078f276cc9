-- What the callers of waits, notifications and permits see, and how the pass stands then.
use Rattle.std.proofs.Common.{◌≡◌, ℕ, ◌+◌, ◌<◌, Bool, true, false, MatchBool, List, [], ◌∷◌, length, map, set}
use Rattle.std.proofs.Common.{slice_index, inl, inr, refl, sym, ap, subst, ◌∙◌, length-set, arith}
use Rattle.std.proofs.lemmas.List.{get_or-set_same, map-set, length-map}
use mathlib.Core.Option.{some}
use lib.ListN.{get_elem?}
use Rattle.atomic_table.proofs.Lists.{set_here}
use Rattle.lot_rights.specs.declared.views.Access.{Access}
use Rattle.lot_words.specs.declared.views.Hold.TheVariants.{NotHeld, Held}
use Rattle.lot_words.specs.declared.views.Place.TheVariants.{InSlot}
use Rattle.lot_words.specs.CallersRule.{CallersRule}
use Rattle.lot_words.specs.Values.{IsIn, HasSeen}
use Rattle.lot_whole.specs.Family.{lock, cond, sem}
use Rattle.lot_whole.specs.Standing.{IsUp}
use Rattle.lot_rights.specs.declared.views.Access.TheVariants.{Finds}
use Rattle.lot_scheme.specs.Standing.{LotStanding, adding, letting_go, enlisted, one_wait_more as stand_one_wait_more}
use Rattle.lot_scheme.specs.Standing.{called_more as stand_called_more, one_permit_more as stand_one_permit_more}
use Rattle.lot_scheme.specs.Standing.{one_permit_less as stand_one_permit_less}
use Rattle.lot_scheme.specs.Traces.{trace_of_all, trace_of_nobody, TookTrace, BusyTrace}
use Rattle.lot_locks.specs.declared.released.Released.{Released}
use Rattle.lot_locks.specs.Standing.{GoesBy}
use Rattle.lot_core.specs.Parts.{IsAmongConds}
use Rattle.lot_waits.specs.Counts.{AreKept, counts_in, called_more}
use Rattle.lot_waits.specs.Waiting.{HasWaited, waited}
use Rattle.lot_waits.specs.Notifying.{FindsNobody, Notifies, NotifiesAll, one_if}
use Rattle.lot_waits.proofs.Taken.{none_called}
use Rattle.lot_permits.specs.declared.permit.Tried.{Tried}
use Rattle.lot_permits.specs.declared.permit.Tried.TheVariants.{Got, Empty, Busy}
use Rattle.lot_permits.specs.Tries.{TriesToGet as Tries}
use Rattle.lot_sync.specs.Lot.{PassView, HeldView, LotView, ◌≈◌, LotNames, Owns, IsCond, owning, letting_go as view_letting_go}
use Rattle.lot_sync.specs.Lot.{one_wait_more as view_one_wait_more, called_more as view_called_more}
use Rattle.lot_sync.specs.Lot.{one_permit_more as view_one_permit_more, one_permit_less as view_one_permit_less}
use Rattle.lot_sync.specs.Permits.{TriesToGet}
use Rattle.lot_sync.specs.Traces.{Adds, NobodyTrace, NotifyTrace, NotifyAllTrace, TryPermitTrace}
use Rattle.lot_sync.specs.Passes.{is_held, pass_view_of, IsAtRest, IsNewOwner}
use Rattle.lot_sync.specs.Values.{Gets}
use Rattle.lot_sync.proofs.Adding.{alike_at, adds_at}
use Rattle.lot_sync.proofs.Rests.{sees_as, sees_stays, one_lies, left_at_rest, leaves_all, owns_so, owns_after, rests_on}

-- ---- notifications
module _ {V : Type 0} where
  -- so many sleepers more were taken, by accesses that make such a trace
  pub record TookMore (trace : ℕ → List Access → Type 0) (p : LotStanding V) (c n : ℕ) (q : LotStanding V) : Type 0 where
    pub did : List Access
    pub told : trace p.thread did
    pub is : q ≡ adding (stand_called_more p c n) did

  nobody_more : (p q : LotStanding V) (c n : ℕ) → FindsNobody p c n q → TookMore (λ t. NobodyTrace t c n) p c n q
  nobody_more p q c n (none, is) = record {
    did = trace_of_nobody p.thread c;
    told = (none, refl);
    is =
        is ∙ ap (λ (r : LotStanding V). adding r (trace_of_nobody p.thread c)) (sym (none_called p c))
        ∙ ap (λ k. adding (stand_called_more p c k) (trace_of_nobody p.thread c)) (sym none);
  }

  pub took_some : (p q : LotStanding V) (c n taken : ℕ) → Notifies p c n taken q → TookMore (λ t. NotifyTrace t c n taken) p c taken q
  took_some p q c n taken (inl nobody) =
      let none = nobody_more p q c taken nobody in record { did = none.did; told = inl none.told; is = none.is }
  took_some p q c n taken (inr (did, trace, is)) = record { did = did; told = inr trace; is = is }

  pub took_all : (p q : LotStanding V) (c taken : ℕ) → NotifiesAll p c taken q → TookMore (λ t. NotifyAllTrace t c taken) p c taken q
  took_all p q c taken (inl nobody) =
      let none = nobody_more p q c taken nobody in record { did = none.did; told = inl none.told; is = none.is }
  took_all p q c taken (inr is) = record { did = trace_of_all p.thread c taken; told = inr refl; is = is }

  pub sees_called : (trace : ℕ → List Access → Type 0) (p q : LotStanding V) (c n : ℕ) → TookMore trace p c n q
      → pass_view_of q ≈ view_called_more (pass_view_of p) c n
  sees_called trace p q c n took = sees_as p q (stand_called_more p c n).own took.did (map is_held p.own.locks.holds) took.is refl

  -- what the callers of a notification see: how the pass stands, and the trace
  pub sees_more : (trace : ℕ → List Access → Type 0) (p q : LotStanding V) (out before : PassView V) (c n : ℕ) → before ≡ pass_view_of p
      → out ≡ pass_view_of q → TookMore trace p c n q
      → (out ≈ view_called_more before c n) × Adds before.made (trace before.thread) out.made
  sees_more trace p q out before c n was is took = (
    subst (λ (v : PassView V). out ≈ view_called_more v c n) (sym was)
        (alike_at out (view_called_more (pass_view_of p) c n) q is (sees_called trace p q c n took)),
    adds_at trace before out p q took.did was is (ap (λ (r : LotStanding V). r.did) took.is) took.told,
  )

  pub sees_called_one : (trace : ℕ → List Access → Type 0) (p q : LotStanding V) (out before : PassView V) (c : ℕ) (one : Bool)
      → before ≡ pass_view_of p → out ≡ pass_view_of q
      → TookMore trace p c (one_if one) q → MatchBool one (out ≈ view_called_more before c 1) (out ≈ before)
  sees_called_one trace p q out before c true was is took = (sees_more trace p q out before c 1 was is took).0
  sees_called_one trace p q out before c false was is took =
      subst (λ (v : PassView V). out ≈ v) (sym was) (alike_at out (pass_view_of p) q is
      (sees_stays p q took.did (took.is ∙ ap (λ (r : LotStanding V). adding r took.did) (none_called p c))))

  -- a permit more
  pub sees_permit : (p q : LotStanding V) (k : ℕ) (did : List Access) → q ≡ adding (stand_one_permit_more p k) did
      → pass_view_of q ≈ view_one_permit_more (pass_view_of p) k
  sees_permit p q k did is = sees_as p q (stand_one_permit_more p k).own did (map is_held p.own.locks.holds) is refl

  -- a permit less
  pub sees_given : (p q : LotStanding V) (k : ℕ) (did : List Access) → q ≡ adding (stand_one_permit_less p k) did
      → pass_view_of q ≈ view_one_permit_less (pass_view_of p) k
  sees_given p q k did is = sees_as p q (stand_one_permit_less p k).own did (map is_held p.own.locks.holds) is refl

  -- what came of a try to get one
  pub sees_tried : {A : Type 0} (p q : LotStanding V) (out before : PassView V) (k : ℕ) (tried : Tried V A) → before ≡ pass_view_of p
      → out ≡ pass_view_of q → Tries p k tried q
      → TriesToGet before k tried out × Adds before.made (TryPermitTrace before.thread k tried) out.made
  sees_tried p q out before k (Got permit) was is (key, thread, (did, trace, now)) = (
    (
      key,
      thread ∙ ap (λ (v : PassView V). v.thread) (sym was),
      subst (λ (v : PassView V). out ≈ view_one_permit_more v k) (sym was)
          (alike_at out (view_one_permit_more (pass_view_of p) k) q is (sees_permit p q k did now)),
    ),
    adds_at (λ t. TookTrace t k) before out p q did was is (ap (λ (r : LotStanding V). r.did) now) trace,
  )
  sees_tried p q out before k Empty was is (word, low, now) = (
    subst (λ (v : PassView V). out ≈ v) (sym was) (alike_at out (pass_view_of p) q is (sees_stays p q (Finds p.thread k word ∷ []) now)),
    adds_at (λ t acts. (w : ℕ) × (w < 2) × (acts ≡ Finds t k w ∷ [])) before out p q (Finds p.thread k word ∷ []) was is
        (ap (λ (r : LotStanding V). r.did) now) (word, low, refl),
  )
  sees_tried p q out before k Busy was is (did, trace, now) = (
    subst (λ (v : PassView V). out ≈ v) (sym was) (alike_at out (pass_view_of p) q is (sees_stays p q did now)),
    adds_at (λ t. BusyTrace t k) before out p q did was is (ap (λ (r : LotStanding V). r.did) now) trace,
  )

  -- what the callers of an unlock see, where the lock's key is that of the value that they gave back
  pub sees_left_at : {by : List Access → Type 0} {p q : LotStanding V} {out before : PassView V} {l k : ℕ} {value : V} → l ≡ k
      → pass_view_of p ≡ before → out ≡ pass_view_of q → IsIn p.own.locks l value → GoesBy by p l q
      → out ≈ view_letting_go before k value
  sees_left_at {by} {p} {q} {out} {before} {l} {k} {value} key same is lies went =
      subst (λ n. out ≈ view_letting_go before n value) key
      (subst (λ (v : PassView V). out ≈ view_letting_go v l value) same
      (alike_at out (view_letting_go (pass_view_of p) l value) q is (leaves_all by p q l value lies went)))

  -- and which accesses the unlock added
  pub adds_left : (trace : ℕ → ℕ → List Access → Type 0) {by : List Access → Type 0} {p q : LotStanding V} {out before : PassView V}
      {l k : ℕ} → l ≡ k → pass_view_of p ≡ before → out ≡ pass_view_of q → (went : GoesBy by p l q)
      → (by went.did → trace p.thread l went.did)
      → Adds before.made (trace before.thread k) out.made
  adds_left trace {by} {p} {q} {out} {before} {l} {k} key same is went told =
      subst (λ n. Adds before.made (trace before.thread n) out.made) key
      (adds_at (λ t. trace t l) before out p q went.did (sym same) is (ap (λ (r : LotStanding V). r.did) went.is) (told went.freed))

-- a condition of the lot is one by the lot's name
pub among_conds : (lot : LotView) {own locks conds c : ℕ} → own ≡ locks → lot.locks ≡ locks → lot.conds ≡ conds → IsCond lot c
    → IsAmongConds own conds c
among_conds lot own of_locks of_conds (above, below) = (omega (arith, own, of_locks, above), omega (arith, own, of_locks, below, of_conds))

-- the tallies, to which what was taken is added
pub kept_called : {V : Type 0} {locks own conds : ℕ} {trace : ℕ → List Access → Type 0} {p q : LotStanding V} {c n : ℕ}
    {called woken now_called now_woken : List ℕ} → own ≡ locks → TookMore trace p c n q → AreKept locks conds (counts_in p) called woken
    → (AreKept own conds (counts_in p) called woken → AreKept own conds (called_more (counts_in p) c n) now_called now_woken)
    → AreKept locks conds (counts_in q) now_called now_woken
kept_called {V} {locks} {own} {conds} {trace} {p} {q} {c} {n} {called} {woken} {now_called} {now_woken} same took kept counts =
    subst (λ m. AreKept locks conds m now_called now_woken) (sym (ap counts_in took.is))
    (subst (λ m. AreKept m conds (called_more (counts_in p) c n) now_called now_woken) same
    (counts (subst (λ m. AreKept m conds (counts_in p) called woken) (sym same) kept)))

module _ {V : Type 0} (grows : V → V → Type 0) (names : LotNames V) where
  pub rests_called : (trace : ℕ → List Access → Type 0) (p q : LotStanding V) (c n : ℕ) → TookMore trace p c n q → IsAtRest grows names p
      → IsAtRest grows names q
  rests_called trace p q c n took rest = rests_on grows names (stand_called_more p c n) q took.did took.is (record {
    of_lot = record {
      is_thread = rest.of_lot.is_thread;
      holds_long = rest.of_lot.holds_long;
      places_long = rest.of_lot.places_long;
      seen_long = rest.of_lot.seen_long;
      called_long = length-set p.own.conds.called c (slice_index p.own.conds.called c + n) ∙ rest.of_lot.called_long;
      woken_long = rest.of_lot.woken_long;
      permits_long = rest.of_lot.permits_long;
      grown = rest.of_lot.grown;
    };
    idle = (
      record { up = up_still rest.idle.0.up; aim = rest.idle.0.aim; sweeps = rest.idle.0.sweeps; seeks = rest.idle.0.seeks },
      rest.idle.1,
    );
    out = rest.out;
  })
    where
      up_still : IsUp p.own → IsUp (stand_called_more p c n).own
      up_still up lock = up lock
      up_still up cond = up cond
      up_still up sem = up sem

-- ---- waits
module _ {V Part : Type 0} (rule : CallersRule V Part) (names : LotNames V) where
  -- the pass, when its thread was woken and wants its lock again
  abbrev woken_at : LotStanding V → ℕ → ℕ → V → LotStanding V
  woken_at p c l y = stand_one_wait_more (letting_go (enlisted p c l) l y) c

  -- whoever waited owns the lock again
  pub owns_waited : (p q : LotStanding V) (c l : ℕ) (value : V) (became : Released) → l < names.locks → IsNewOwner rule.grows names p l
      → IsIn p.own.locks l value
      → ((u : V) → HasSeen p.own.locks l u → rule.grows u value) → HasWaited rule p c l became q → IsNewOwner rule.grows names q l
  owns_waited p q c l value became near own lies grown w =
      let same : w.left ≡ value = one_lies p.own.locks.places l w.left value w.lay lies in
      let left : IsAtRest rule.grows names (letting_go p l w.left) = subst (λ v. IsAtRest rule.grows names (letting_go p l v)) (sym same)
      (left_at_rest rule.grows names rule.grows_on p l value near own grown) in
      owns_after rule names (waited p c l w.left w.found) q l w.did w.is
      (owns_so rule names (woken_at p c l w.left) l w.found near (record {
        is_thread = left.of_lot.is_thread;
        holds_long = left.of_lot.holds_long;
        places_long = left.of_lot.places_long;
        seen_long = left.of_lot.seen_long;
        called_long = left.of_lot.called_long;
        woken_long = length-set p.own.conds.woken c (slice_index p.own.conds.woken c + 1) ∙ left.of_lot.woken_long;
        permits_long = left.of_lot.permits_long;
        grown = left.of_lot.grown;
      }) (up_again w.left own.idle.0.up) own.idle.0.sweeps own.idle.0.seeks (λ k else holds. left.out k holds) w.found_ok)
    where
      up_again : (y : V) → IsUp p.own → IsUp (woken_at p c l y).own
      up_again y up lock = up lock
      up_again y up cond = refl
      up_again y up sem = up sem

  -- what the callers of a wait see
  sees_waited : (p q : LotStanding V) (c l : ℕ) (became : Released) (w : HasWaited rule p c l became q)
      → pass_view_of q ≈ owning (view_one_wait_more (view_letting_go (pass_view_of p) l w.left) c) l w.found
  sees_waited p q c l became w =
      sees_as p q (waited p c l w.left w.found).own w.did (set (set (map is_held p.own.locks.holds) l false) l true) w.is
      (map-set is_held (set p.own.locks.holds l NotHeld) l Held
      ∙ ap (λ owns. set owns l true) (map-set is_held p.own.locks.holds l NotHeld))

  pub gets_waited : (p q : LotStanding V) (held : HeldView V) (c l : ℕ) (value : V) (became : Released) → l < names.locks
      → IsNewOwner rule.grows names p l → IsIn p.own.locks l value
      → HasWaited rule p c l became q → held.key ≡ l → IsIn q.own.locks l held.value → (after : PassView V) → after ≡ pass_view_of q
      → Gets rule (view_one_wait_more (view_letting_go (pass_view_of p) l value) c) l held after
  gets_waited p q held c l value became near own lies w key_is found_in after after_is =
      let left : w.left ≡ value = one_lies p.own.locks.places l w.left value w.lay lies in
      let there : get_elem? (set p.own.locks.places l (InSlot w.found)) l ≡ some (InSlot w.found) =
      set_here p.own.locks.places l (InSlot w.found) (let n = own.of_lot.places_long in omega (arith, n)) in
      let same : w.found ≡ held.value = one_lies (set p.own.locks.places l (InSlot w.found)) l w.found held.value there
      (subst (λ (r : LotStanding V). IsIn r.own.locks l held.value) w.is found_in) in
      let sees_it : after ≈ owning (view_one_wait_more (view_letting_go (pass_view_of p) l value) c) l held.value =
      alike_at after (owning (view_one_wait_more (view_letting_go (pass_view_of p) l value) c) l held.value) q after_is
      (subst (λ v. pass_view_of q ≈ owning (view_one_wait_more (view_letting_go (pass_view_of p) l value) c) l v) same
      (subst (λ v. pass_view_of q ≈ owning (view_one_wait_more (view_letting_go (pass_view_of p) l v) c) l w.found) left
      (sees_waited p q c l became w))) in
      let seen_long : length (set p.own.locks.seen l value) ≡ names.locks = length-set p.own.locks.seen l value ∙ own.of_lot.seen_long in
      let owns_long : length (set (map is_held p.own.locks.holds) l false) ≡ names.locks =
      length-set (map is_held p.own.locks.holds) l false ∙ (length-map p.own.locks.holds is_held ∙ own.of_lot.holds_long) in
      record {
        key_is = key_is;
        kept = subst (rule.keeps l) same w.found_ok.kept;
        grown =
            λ u s.
            subst (rule.grows u) same (w.found_ok.grown u (subst (λ v. get_elem? (set p.own.locks.seen l v) l ≡ some u) (sym left) s));
        mine =
            λ u s. w.found_ok.mine u (subst (λ v. get_elem? (set p.own.locks.seen l v) l ≡ some u) (sym left) s)
            ∙ ap (rule.part p.thread) same;
        after_is = sees_it;
        owns = subst (λ (r : PassView V). Owns r l) (sym sees_it)
            (get_or-set_same (set (map is_held p.own.locks.holds) l false) l true false (omega (arith, owns_long)));
        seen =
            subst (λ (r : PassView V). get_elem? r.seen l ≡ some held.value) (sym sees_it)
            (set_here (set p.own.locks.seen l value) l held.value (omega (arith, seen_long)));
      }
