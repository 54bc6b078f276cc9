-- Letters that are posted with a root, and collected with a pass: of which kind they are, the pass tells.
use Rattle.std.proofs.Common.{◌≡◌, ◌≢◌, ℕ, zero, suc, ◌+◌, ◌<◌, ◌≤◌, Bool, true, false, List, refl, sym}
use Rattle.std.proofs.Common.{ap, subst, inl, inr, arith, Option, Some, None}
use Rattle.std.specs.Prelude.{is_some}
use Rattle.std.specs.List.{Contains}
use mathlib.Core.Option as maybe
use Rattle.lot_rights.specs.declared.views.Access.{Access}
use Rattle.lot_rights.specs.declared.views.Access.TheVariants.{Posts, Collects}
use Rattle.lot_rights.specs.Shown.{PassShown, RootShown}
use Rattle.lot_rights.specs.Layout.{letter_at}
use Rattle.lot_rights.specs.Steps.{Notes, RootNotes, pass_after, root_after, AllowsPass, AllowsRoot}
use Rattle.lot_words.specs.CallersRule.{CallersRule}
use Rattle.lot_words.specs.Calls.{owning, woken as lock_woken, paid_root as lock_paid}
use Rattle.lot_words.specs.declared.views.LockPassView.{LockPassView}
use Rattle.lot_words.specs.declared.views.LockRootView.{LockRootView}
use Rattle.lot_words.proofs.Collecting as lock_letters
use Rattle.lot_words.proofs.Roots as lock_roots
use Rattle.lot_conds.specs.Calls.{one_wait_more, paid_root as cond_paid}
use Rattle.lot_conds.specs.declared.views.CondPassView.{CondPassView}
use Rattle.lot_conds.specs.declared.views.CondRootView.{CondRootView}
use Rattle.lot_conds.proofs.Turns as cond_turns
use Rattle.lot_sems.specs.Calls.{woken as sem_woken, paid_root as sem_paid}
use Rattle.lot_sems.specs.declared.views.SemPassView.{SemPassView}
use Rattle.lot_sems.specs.declared.views.SemRootView.{SemRootView}
use Rattle.lot_sems.proofs.Roots as sem_roots
use Rattle.lot_whole.specs.declared.views.LotPassView.{LotPassView}
use Rattle.lot_whole.specs.Family.{Which, lock, cond, sem, LotSize, lock_size, cond_size, sem_size, RootIn, away}
use Rattle.lot_whole.specs.Lot.{own_of, root_from, LotWorld, LotFits, LotPassIs, LotRootIs, lot_meaning}
use Rattle.lot_whole.specs.Lifts.{part_pass, whole_root, Speaks, Quiet, InPlace, CarriesRoot}
use Rattle.lot_whole.specs.Calls.{RootNotesIn, CollectsIn}
use Rattle.lot_whole.proofs.Carries.{notes_tell, Carried, carry}
use Rattle.lot_whole.proofs.Lifts.{lifts_pass, lifts_root}
use Rattle.lot_whole.proofs.Steps.{root_in}
use Rattle.lot_whole.proofs.Tells.{quiet, quiet_else, lock_debtor, cond_debtor, sem_debtor}

-- ---- an entry of a root tells what it knew then
last_is : {R : Type 0} (q : RootShown R) (own own' : R) (a a' : Access) → RootNotes q own' a' (root_after q own 0 a) → (own ≡ own')
    × (a ≡ a')
last_is {R} q own own' a a' h =
    let t = notes_tell (record { table = q.table; thread = q.key; made = q.made; own = q.own }) own own' a a' (
      h.0,
      ap (λ (y : RootShown R). let p : PassShown R = record { table = y.table; thread = y.key; made = y.made; own = y.own } in p) h.1,
    ) in t

module _ {V Part : Type 0} (rule : CallersRule V Part) (z : LotSize) (xs : List V) where
  -- ---- posting
  carry_root : (j : Which) (q : RootShown (RootIn j)) (u token : ℕ) (paid : RootIn j)
      → ((w : LotWorld rule z xs) (ws : List ℕ) (hs : List (maybe.Option (Option V))) → LotFits rule z xs w ws hs
      → LotRootIs rule z xs w q.key (root_from j q.own) → (u < z.threads) × Quiet rule z xs j w u)
      → CarriesRoot rule z xs j q (λ _. RootNotes q paid (Posts q.key u token))
      (λ _. RootNotesIn j (whole_root j q) paid (Posts q.key u token))
  carry_root j q u token paid debtor n its a told =
      let t = last_is q its paid a (Posts q.key u token) (told 0) in (
        λ w ws hs ok root. subst (Speaks rule z xs j w) (sym t.1) (debtor w ws hs ok root).1,
        λ k. (k, (λ i. root_after (whole_root j q) (root_from j (t.0 i)) k (t.1 i))),
      )

  place_of : (j : Which) (w : LotWorld rule z xs) (u : ℕ) → (u < z.threads) × Quiet rule z xs j w u → InPlace rule z xs j w (letter_at u)
  place_of j w u h = inr (u, (h.0, refl, h.1))

  pub posts_lock : (q : RootShown LockRootView) (u k : ℕ) → q.own.owes ≡ Some (u, k)
      → AllowsRoot (lot_meaning rule z xs) (letter_at u) (λ _. k + 1) (whole_root lock q)
      (λ _. RootNotesIn lock (whole_root lock q) (lock_paid q.own) (Posts q.key u k))
  posts_lock q u k debt =
      let debtor = (λ (w : LotWorld rule z xs) (ws : List ℕ) (hs : List (maybe.Option (Option V))) (ok : LotFits rule z xs w ws hs)
      (root : LotRootIs rule z xs w q.key (root_from lock q.own)).
      lock_debtor rule z xs w ws hs ok q.key u k q.own (root_in rule z xs lock w q.key q.own root).1 debt) in
      lifts_root rule z xs lock (letter_at u) (λ _. k + 1) q (λ _. lock_roots.Pays q u k)
      (λ _. RootNotesIn lock (whole_root lock q) (lock_paid q.own) (Posts q.key u k))
      (lock_roots.posts rule (lock_size z) xs q u k debt) (λ w ws hs ok root. place_of lock w u (debtor w ws hs ok root))
      (carry_root lock q u k (lock_paid q.own) debtor)

  pub posts_cond : (q : RootShown CondRootView) (u : ℕ) → Contains q.own.owes u
      → AllowsRoot (lot_meaning rule z xs) (letter_at u) (λ _. 1) (whole_root cond q)
      (λ _. RootNotesIn cond (whole_root cond q) (cond_paid q.own u) (Posts q.key u 0))
  posts_cond q u debt =
      let debtor = (λ (w : LotWorld rule z xs) (ws : List ℕ) (hs : List (maybe.Option (Option V))) (ok : LotFits rule z xs w ws hs)
      (root : LotRootIs rule z xs w q.key (root_from cond q.own)).
      cond_debtor rule z xs w ws hs ok q.key u q.own (root_in rule z xs cond w q.key q.own root).1 debt) in
      lifts_root rule z xs cond (letter_at u) (λ _. 1) q (λ _. cond_turns.Pays q u)
      (λ _. RootNotesIn cond (whole_root cond q) (cond_paid q.own u) (Posts q.key u 0))
      (cond_turns.posts (cond_size z) q u debt) (λ w ws hs ok root. place_of cond w u (debtor w ws hs ok root))
      (carry_root cond q u 0 (cond_paid q.own u) debtor)

  pub posts_sem : (q : RootShown SemRootView) (u : ℕ) → q.own.owes ≡ Some u
      → AllowsRoot (lot_meaning rule z xs) (letter_at u) (λ _. 1) (whole_root sem q)
      (λ _. RootNotesIn sem (whole_root sem q) (sem_paid q.own) (Posts q.key u 0))
  posts_sem q u debt =
      let debtor = (λ (w : LotWorld rule z xs) (ws : List ℕ) (hs : List (maybe.Option (Option V))) (ok : LotFits rule z xs w ws hs)
      (root : LotRootIs rule z xs w q.key (root_from sem q.own)).
      sem_debtor rule z xs w ws hs ok q.key u q.own (root_in rule z xs sem w q.key q.own root).1 debt) in
      lifts_root rule z xs sem (letter_at u) (λ _. 1) q (λ _. sem_roots.Pays q u)
      (λ _. RootNotesIn sem (whole_root sem q) (sem_paid q.own) (Posts q.key u 0))
      (sem_roots.posts (sem_size z) q u debt) (λ w ws hs ok root. place_of sem w u (debtor w ws hs ok root))
      (carry_root sem q u 0 (sem_paid q.own) debtor)

-- ---- collecting
module _ {V Part : Type 0} (rule : CallersRule V Part) where
  -- what the number found tells, by where the thread is away
  abbrev pub CollectedIn : PassShown (LotPassView V) → Bool → Option ℕ → ℕ → PassShown (LotPassView V) → Type 0
  CollectedIn p asleep out zero q = Notes p p.own (Collects p.thread None) q
  CollectedIn p asleep out (suc token) q = CollectsIn rule p asleep out token q

  abbrev CollectingIn : PassShown (LotPassView V) → Bool → Option ℕ → ℕ → PassShown (LotPassView V) → Type 0
  CollectingIn p asleep out n q = (n ≤ 2) × CollectedIn p asleep out n q

  abbrev pub CollectedHere : PassShown (LotPassView V) → ℕ → PassShown (LotPassView V) → Type 0
  CollectedHere p = CollectedIn p p.own.locks.asleep p.own.conds.out

  -- what the swap tells, by the number found
  abbrev pub Collecting : PassShown (LotPassView V) → ℕ → PassShown (LotPassView V) → Type 0
  Collecting p n q = (n ≤ 2) × CollectedHere p n q

module _ {V Part : Type 0} (rule : CallersRule V Part) (z : LotSize) (xs : List V) (p : PassShown (LotPassView V)) where
  abbrev t : ℕ
  t = p.thread

  abbrev Silent : Which → Type 0
  Silent j = (w : LotWorld rule z xs) (ws : List ℕ) (hs : List (maybe.Option (Option V))) → LotFits rule z xs w ws hs
      → LotPassIs rule z xs w t p.own → Quiet rule z xs j w t

  from_lock : (up : p.own.locks.asleep ≡ true) → Silent lock → (n : ℕ) (own : LockPassView V) (a : Access)
      → lock_letters.Collecting rule (part_pass lock p) n (pass_after (part_pass lock p) own 0 a)
      → Carried rule z xs lock p (CollectingIn rule p true p.own.conds.out n) own a
  from_lock up silent zero own a h =
      carry rule z xs lock p p.own.locks (Collects t None) (CollectingIn rule p true p.own.conds.out 0) (λ e. inl e) silent
      (λ k. (omega arith, (k, refl))) own a h.1
  from_lock up silent (suc zero) own a h =
      carry rule z xs lock p (lock_woken p.own.locks) (Collects t (Some 0)) (CollectingIn rule p true p.own.conds.out 1)
      (λ e. absurd (cc)) silent
      (λ k. (omega arith, (k, refl))) own a h.1.1
  from_lock up silent (suc (suc token)) own a h =
      let l = h.1.2.0 in
      let x = h.1.2.2.0 in
      carry rule z xs lock p (lock_woken (owning p.own.locks l x)) (Collects t (Some 1))
      (CollectingIn rule p true p.own.conds.out (suc (suc token))) (λ e. absurd (cc)) silent
      (λ k. (h.0, (h.1.0, (l, h.1.2.1, (x, h.1.2.2.1, (k, refl)))))) own a h.1.2.2.2

  from_cond : Silent cond → (c n : ℕ) (own : CondPassView) (a : Access)
      → cond_turns.Collecting (part_pass cond p) n (pass_after (part_pass cond p) own 0 a)
      → Carried rule z xs cond p (CollectingIn rule p false (Some c) n) own a
  from_cond silent c zero own a h =
      carry rule z xs cond p p.own.conds (Collects t None) (CollectingIn rule p false (Some c) 0) (λ e. inl e) silent
      (λ k. (omega arith, (k, refl))) own a h.1
  from_cond silent c (suc token) own a h =
      carry rule z xs cond p (one_wait_more p.own.conds h.1.1.0) (Collects t (Some token)) (CollectingIn rule p false (Some c) (suc token))
      (λ e. absurd (cc)) silent
      (λ k. (omega (arith, h.0), (h.1.0, (h.1.1.0, (h.1.1.1.0, (k, refl)))))) own a h.1.1.1.1

  from_sem : Silent sem → (n : ℕ) (own : SemPassView) (a : Access)
      → sem_roots.Collecting (part_pass sem p) n (pass_after (part_pass sem p) own 0 a)
      → Carried rule z xs sem p (CollectingIn rule p false None n) own a
  from_sem silent zero own a h =
      carry rule z xs sem p p.own.sems (Collects t None) (CollectingIn rule p false None 0) (λ e. inl e) silent
      (λ k. (omega arith, (k, refl))) own a h.1
  from_sem silent (suc token) own a h =
      carry rule z xs sem p (sem_woken p.own.sems) (Collects t (Some token)) (CollectingIn rule p false None (suc token))
      (λ e. absurd (cc)) silent
      (λ k. (omega (arith, h.0), (h.1.0, h.1.1, (k, refl)))) own a h.1.2

  still_up : p.own.locks.asleep ≡ false → p.own.conds.out ≡ None → (k : Which) → k ≢ sem → away V k (own_of V p.own k) ≡ false
  still_up up at lock ne = up
  still_up up at cond ne = ap is_some at
  still_up up at sem ne = absurd (ne refl)

  by_pass : (asleep : Bool) (out : Option ℕ) → p.own.locks.asleep ≡ asleep → p.own.conds.out ≡ out
      → AllowsPass (lot_meaning rule z xs) (letter_at t) (λ _. 0) p (CollectingIn rule p asleep out)
  by_pass true out up at =
      let silent : Silent lock = (λ w ws hs ok fit. quiet rule z xs w ws hs ok t p.own fit lock up) in
      subst (λ o. AllowsPass (lot_meaning rule z xs) (letter_at t) (λ _. 0) p (CollectingIn rule p true o)) at
      (lifts_pass rule z xs lock (letter_at t) (λ _. 0) p (lock_letters.Collecting rule (part_pass lock p))
      (CollectingIn rule p true p.own.conds.out)
      (lock_letters.collects rule (lock_size z) xs (part_pass lock p)) (λ w ws hs ok fit. inr (t, (fit.0, refl, silent w ws hs ok fit)))
      (λ n own a told. from_lock up silent n own a (told 0)))
  by_pass false (Some c) up at =
      let silent : Silent cond = (λ w ws hs ok fit. quiet rule z xs w ws hs ok t p.own fit cond (ap is_some at)) in
      lifts_pass rule z xs cond (letter_at t) (λ _. 0) p (cond_turns.Collecting (part_pass cond p)) (CollectingIn rule p false (Some c))
      (cond_turns.collects (cond_size z) (part_pass cond p)) (λ w ws hs ok fit. inr (t, (fit.0, refl, silent w ws hs ok fit)))
      (λ n own a told. from_cond silent c n own a (told 0))
  by_pass false None up at =
      let else_up : (k : Which) → k ≢ sem → away V k (own_of V p.own k) ≡ false = still_up up at in
      let silent : Silent sem = (λ w ws hs ok fit. quiet_else rule z xs w ws hs ok t p.own fit sem else_up) in
      lifts_pass rule z xs sem (letter_at t) (λ _. 0) p (sem_roots.Collecting (part_pass sem p)) (CollectingIn rule p false None)
      (sem_roots.collects (sem_size z) (part_pass sem p)) (λ w ws hs ok fit. inr (t, (fit.0, refl, silent w ws hs ok fit)))
      (λ n own a told. from_sem silent n own a (told 0))

  pub collects : AllowsPass (lot_meaning rule z xs) (letter_at t) (λ _. 0) p (Collecting rule p)
  collects = by_pass p.own.locks.asleep p.own.conds.out refl refl
