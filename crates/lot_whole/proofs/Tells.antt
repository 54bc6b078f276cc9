-- What a pass tells of its thread's point in the state of the whole.
use Rattle.std.proofs.Common.{◌≡◌, ◌≢◌, ℕ, ◌<◌, ◌≤◌, ◌⊎◌, true, false, List, refl, sym, ap, subst, ◌∙◌, inl, inr, ⊎_elim}
use Rattle.std.proofs.Common.{Option, Some, None}
use Rattle.std.specs.Prelude.{◌+◌, ◌==◌, not, is_some}
use Rattle.std.specs.List.{Contains}
use mathlib.Core.Option as maybe
use Rattle.lot_core.specs.Model.{StateView}
use Rattle.lot_core.proofs.Following.{sought_is}
use Rattle.lot_core.specs.Steps.{MayLetGo as LetsGo, seen}
use Rattle.lot_core.specs.Parts.{LockPart, CondPart, SemaphorePart, StandsBefore, wanted, swept_by, sought}
use Rattle.lot_events.specs.declared.events.Event.TheVariants.{Take, Enlist, SemTake}
use Rattle.lot_events.specs.declared.events.Seen.TheVariants.{Bool as Saw}
use Rattle.lot_events.specs.declared.events.Point.{Point}
use Rattle.lot_events.specs.declared.events.Point.TheVariants.{Calm, Wants, Bed, Rest, Sweeps, Seeks}
use Rattle.lot_order.specs.Order.{held_by, AllBelow, MayWait, KeepsOrder}
use Rattle.lot_order.proofs.Circles.{ordered_at}
use Rattle.lot_order.proofs.Orderly.{IsWithin, fewer_keys, fewer_beside}
use Rattle.lot_rights.specs.World.{awake, queued, owed, IsLetter}
use Rattle.lot_words.specs.declared.views.LockPassView.{LockPassView}
use Rattle.lot_words.specs.declared.views.LockRootView.{LockRootView}
use Rattle.lot_words.specs.CallersRule.{CallersRule}
use Rattle.lot_words.specs.World.{Holds, IsHanded}
use Rattle.lot_words.specs.Rule.{wants_of}
use Rattle.lot_words.proofs.Machine.{awake_is as lock_awake}
use Rattle.lot_words.proofs.Letters.{debtor_fits}
use Rattle.lot_words.proofs.Owners.{owner_has, owner_is}
use Rattle.lot_conds.specs.declared.views.CondPassView.{CondPassView}
use Rattle.lot_conds.specs.declared.views.CondRootView.{CondRootView}
use Rattle.lot_conds.proofs.Machine.{awake_is as cond_awake}
use Rattle.lot_conds.proofs.Letters.{waits_out}
use Rattle.lot_sems.specs.declared.views.SemRootView.{SemRootView}
use Rattle.lot_sems.specs.World.{sleeps, NoticeFits}
use Rattle.lot_whole.specs.declared.views.LotPassView.{LotPassView}
use Rattle.lot_whole.specs.declared.views.Stand.TheVariants.{Idle, AtBed, AtRest}
use Rattle.lot_whole.specs.Family.{Which, lock, cond, sem, LotSize, away, meaning_of}
use Rattle.lot_whole.specs.Whole.{stand_of}
use Rattle.lot_whole.specs.Lot.{own_of, LotWorld, PassOk, LotFits, LotPassIs}
use Rattle.lot_whole.specs.Lifts.{Quiet}
use Rattle.lot_whole.specs.Standing.{WantsNothing, IsIdle, keys_of, MayTake, MayWant, MayLetGo, MayLineUp, MayTakePermit, MayWantPermit}
use Rattle.lot_whole.proofs.Family.{not_true, still}

-- ---- points
calm_is : (p : Point) → wanted p ≡ None → swept_by p ≡ None → sought p ≡ None → stand_of p ≡ Idle → p ≡ Calm
calm_is Calm w c s st = refl
calm_is (Wants l) w c s st = absurd (let e : Some l ≡ None = w in cc)
calm_is (Bed d l) w c s st = absurd (let e : AtBed d l ≡ Idle = st in cc)
calm_is (Rest d l) w c s st = absurd (let e : AtRest d l ≡ Idle = st in cc)
calm_is (Sweeps d) w c s st = absurd (let e : Some d ≡ None = c in cc)
calm_is (Seeks k) w c s st = absurd (let e : Some k ≡ None = s in cc)

wants_is : (p : Point) (l : ℕ) → wanted p ≡ Some l → p ≡ Wants l
wants_is (Wants k) l e = let same : k ≡ l = cc in ap Wants same
wants_is _ l e = absurd (cc)

bed_is : (p : Point) (c l : ℕ) → stand_of p ≡ AtBed c l → p ≡ Bed c l
bed_is (Bed d m) c l e = let a : d ≡ c = cc in let b : m ≡ l = cc in (λ i. Bed (a i) (b i))
bed_is (Rest d m) c l e = absurd (let f : AtRest d m ≡ AtBed c l = e in cc)
bed_is _ c l e = absurd (let f : Idle ≡ AtBed c l = e in cc)

rest_is : (p : Point) (c l : ℕ) → stand_of p ≡ AtRest c l → p ≡ Rest c l
rest_is (Bed d m) c l e = absurd (let f : AtBed d m ≡ AtRest c l = e in cc)
rest_is (Rest d m) c l e = let a : d ≡ c = cc in let b : m ≡ l = cc in (λ i. Rest (a i) (b i))
rest_is _ c l e = absurd (let f : Idle ≡ AtRest c l = e in cc)

-- who got what it wanted, a lock or a permit, does not wait for it
pub got_lock : (above : ℕ → ℕ → Type 0) (s : StateView) (t l : ℕ) → Saw true ≡ seen s (Take t l) → KeepsOrder above s (Take t l)
got_lock above s t l saw held = absurd (let e : Saw true ≡ Saw false = saw ∙ ap (λ b. Saw (not b)) held in cc)

pub got_permit : (above : ℕ → ℕ → Type 0) (s : StateView) (t k : ℕ) → Saw true ≡ seen s (SemTake t k) → KeepsOrder above s (SemTake t k)
got_permit above s t k saw none = absurd (let e : Saw true ≡ Saw false = saw ∙ ap (λ n. Saw (not (n == 0))) none in cc)

pub out_none : (o : Option ℕ) → is_some o ≡ false → o ≡ None
out_none None e = refl
out_none (Some x) e = absurd (cc)

module _ {V Part : Type 0} (rule : CallersRule V Part) (z : LotSize) (xs : List V) (w : LotWorld rule z xs) (ws : List ℕ)
    (hs : List (maybe.Option (Option V))) (ok : LotFits rule z xs w ws hs) where
  module _ (t : ℕ) (p : LotPassView V) (fit : LotPassIs rule z xs w t p) where
    pub pass_ok : PassOk rule z xs w t p
    pass_ok = subst (PassOk rule z xs w t) fit.1 (ok.passes t fit.0)

    abbrev at : Point
    at = w.whole.point t

    -- ---- what each kind tells
    is_up : p.locks.asleep ≡ false → (w.each lock).spot t ≡ awake
    is_up up =
        let l = w.each lock in
        lock_awake z.threads l.word l.root t (l.pass t) (l.spot t) ((ok.parts lock).kept.threads t).spot
        (ap (λ (x : LockPassView V). x.asleep) (pass_ok.each lock).1 ∙ up)

    wants : p.locks.asleep ≡ false → wanted at ≡ p.locks.aim
    wants up =
        ap (λ (a : LockPart). a.wants t) (ok.agrees lock)
        ∙ (ap (λ s. wants_of s ((w.each lock).pass t).aim) (is_up up)
        ∙ ap (λ (x : LockPassView V). x.aim) (pass_ok.each lock).1)

    sweeps : swept_by at ≡ p.conds.sweeps
    sweeps = ap (λ (a : CondPart). a.sweeps t) (ok.agrees cond) ∙ ap (λ (x : CondPassView). x.sweeps) (pass_ok.each cond).1

    seeks : sought at ≡ p.sems.seeks
    seeks = ap (λ (a : SemaphorePart). a.seeks t) (ok.agrees sem) ∙ (pass_ok.each sem).seeks

    -- who is enlisted nowhere is in no condition's line
    in_no_line : p.conds.out ≡ None → (c : ℕ) → ¬ Contains (w.whole.conds.line c) t
    in_no_line out c h =
        let v = w.each cond in
        let home = ap (λ (x : CondPassView). x.out) (pass_ok.each cond).1 ∙ out in
        let up : v.spot t ≡ awake = cond_awake z.threads v.root t (v.pass t) (v.spot t) ((ok.parts cond).kept.threads t).spot home in
        let line : v.spot t ≡ queued c = ((ok.parts cond).kept.threads t).in_line c
        (subst (λ (a : CondPart). Contains (a.conds.line c) t) (ok.agrees cond) h) in
        let e : awake ≡ queued c = sym up ∙ line in cc

    -- who holds a lock has it
    pub has : (l : ℕ) → Holds p.locks l → w.whole.locks.has l t ≡ true
    has l h =
        let v = w.each lock in
        ap (λ (a : LockPart). a.locks.has l t) (ok.agrees lock)
        ∙ owner_has (v.word l).owner t
        (((ok.parts lock).kept.threads t).holds l (subst (λ (x : LockPassView V). Holds x l) (sym (pass_ok.each lock).1) h))

    -- and who is up has no other
    pub holds : p.locks.asleep ≡ false → (l : ℕ) → w.whole.locks.has l t ≡ true → Holds p.locks l
    holds up l has_it =
        let v = w.each lock in
        let owner = owner_is (v.word l).owner t (sym (ap (λ (a : LockPart). a.locks.has l t) (ok.agrees lock)) ∙ has_it) in
        ⊎_elim {C = Holds p.locks l} (λ h. subst (λ (x : LockPassView V). Holds x l) (pass_ok.each lock).1 h)
        (λ handed. let none : IsHanded awake l = subst (λ s. IsHanded s l) (is_up up) handed in absurd none)
        (((ok.parts lock).kept.locks l).had t owner).1

    -- ---- where the thread stands
    pub awake_calm : WantsNothing p → p.stand ≡ Idle → at ≡ Calm
    awake_calm up idle = calm_is at (wants (up.up lock) ∙ up.aim) (sweeps ∙ up.sweeps) (seeks ∙ up.seeks) (pass_ok.stand ∙ idle)

    pub idle_calm : IsIdle p → at ≡ Calm
    idle_calm idle = awake_calm idle.0 idle.1

    pub may_line_up : (l : ℕ) → MayLineUp p l → StandsBefore w.whole t l
    may_line_up l may = inl (wants_is at l (wants (may.0 lock) ∙ may.1))

    pub may_take : (l : ℕ) → MayTake p l → (at ≡ Calm) ⊎ StandsBefore w.whole t l
    may_take l may = ⊎_elim {C = (at ≡ Calm) ⊎ StandsBefore w.whole t l}
        (λ h. inr (may_line_up l h))
        (λ h. ⊎_elim {C = (at ≡ Calm) ⊎ StandsBefore w.whole t l} (λ idle. inl (awake_calm h.0 idle))
        (λ rest. inr (inr (rest.0, rest_is at rest.0 l (pass_ok.stand ∙ rest.1), in_no_line (out_none p.conds.out (h.0.up cond)) rest.0)))
        h.1)
        may

    pub may_let_go : (l : ℕ) → MayLetGo p l → LetsGo w.whole t l
    may_let_go l may = ⊎_elim {C = LetsGo w.whole t l} (λ idle. inl (idle_calm idle))
        (λ h. inr (h.2.0, bed_is at h.2.0 l (pass_ok.stand ∙ h.2.1))) may

    pub may_seek : (k : ℕ) → MayTakePermit p k → (at ≡ Calm) ⊎ (at ≡ Seeks k)
    may_seek k may = ⊎_elim {C = (at ≡ Calm) ⊎ (at ≡ Seeks k)} (λ h. inr (sought_is at k (seeks ∙ h.1))) (λ idle. inl (idle_calm idle)) may

    -- ---- the order of keys
    -- who is up has nothing that its pass does not tell
    within : p.locks.asleep ≡ false → IsWithin (held_by w.whole t) (keys_of p)
    within up = record {
      locks = λ j e.
          let q = pass_ok.each lock in
          let l = w.each lock in
          let spot : l.spot t ≡ awake = lock_awake z.threads l.word l.root t (l.pass t) (l.spot t)
          ((ok.parts lock).kept.threads t).spot (ap (λ (x : LockPassView V). x.asleep) q.1 ∙ up) in
          let own = sym (ap (λ (a : LockPart). a.locks.has j t) (ok.agrees lock)) ∙ e in
          ⊎_elim {C = Holds p.locks j} (λ holds. subst (λ (x : LockPassView V). Holds x j) q.1 holds)
          (λ handed. absurd (subst (λ s. IsLetter s j 1) spot handed))
          (((ok.parts lock).kept.locks j).had t (owner_is (l.word j).owner t own)).1;
      permits = λ j some. subst (λ n. 1 ≤ n)
          (ap (λ (a : SemaphorePart). a.sems.out j t) (ok.agrees sem) ∙ (pass_ok.each sem).out j) some;
    }

    -- who stands idle may wait where its pass has only keys that lie below
    below : (k : ℕ) → IsIdle p → AllBelow rule.above (keys_of p) k → AllBelow rule.above (held_by w.whole t) k
    below k idle all j has = all j (fewer_keys (held_by w.whole t) (keys_of p) (within (idle.0.up lock)) j has)

    pub keeps_enlist : (c l : ℕ) → IsIdle p → MayWait rule.above (keys_of p) c l → KeepsOrder rule.above w.whole (Enlist t c l)
    keeps_enlist c l idle may =
        let fewer = fewer_beside (held_by w.whole t) (keys_of p) l (within (idle.0.up lock)) in
        ((λ j has. may.0 j (fewer j has)), (λ j has. may.1 j (fewer j has)))

    -- who wants the lock, or rests with it, is in order; who stands idle has shown it
    pub keeps_take : (l : ℕ) → MayWant rule.above p l → KeepsOrder rule.above w.whole (Take t l)
    keeps_take l may held = ⊎_elim {C = AllBelow rule.above (held_by w.whole t) l}
        (λ h. (ordered_at rule.above w.whole t (Wants l) ok.ordered (wants_is at l (wants (h.0 lock) ∙ h.1))).1)
        (λ h. ⊎_elim {C = AllBelow rule.above (held_by w.whole t) l}
        (λ idle. below l (h.0, idle) (may.1 (h.0, idle)))
        (λ rest. (ordered_at rule.above w.whole t (Rest rest.0 l) ok.ordered (rest_is at rest.0 l (pass_ok.stand ∙ rest.1))).1)
        h.1)
        may.0

    pub keeps_seek : (k : ℕ) → MayWantPermit rule.above p k → KeepsOrder rule.above w.whole (SemTake t k)
    keeps_seek k may none = ⊎_elim {C = AllBelow rule.above (held_by w.whole t) k}
        (λ h. (ordered_at rule.above w.whole t (Seeks k) ok.ordered (sought_is at k (seeks ∙ h.1))).1)
        (λ idle. below k idle (may.1 idle))
        may.0

    -- ---- letters
    -- where no other kind has the thread away, no other has a letter for it
    pub quiet_else : (j : Which) → ((k : Which) → k ≢ j → away V k (own_of V p k) ≡ false) → Quiet rule z xs j w t
    quiet_else j up k ne = still rule z xs k (w.each k) (w.words k) hs (ok.parts k) t (own_of V p k) (pass_ok.each k) (up k ne)

    pub away_alone : (j : Which) → away V j (own_of V p j) ≡ true → (k : Which) → k ≢ j → away V k (own_of V p k) ≡ false
    away_alone j up k ne = not_true (away V k (own_of V p k)) (λ there. ne (pass_ok.apart k j there up))

    pub quiet : (j : Which) → away V j (own_of V p j) ≡ true → Quiet rule z xs j w t
    quiet j up = quiet_else j (away_alone j up)

  -- a thread that is away in the kind j has no letter of another
  debtor : (j : Which) (u : ℕ) → u < z.threads → away V j (own_of V (w.pass u) j) ≡ true → (u < z.threads) × Quiet rule z xs j w u
  debtor j u near up = (near, quiet u (w.pass u) (near, refl) j up)

  -- to whom a root owes a letter is away in that kind
  pub lock_debtor : (l u k : ℕ) (q : LockRootView) → (meaning_of rule z xs lock).RootFits (w.each lock) l q → q.owes ≡ Some (u, k)
      → (u < z.threads) × Quiet rule z xs lock w u
  lock_debtor l u k q root debt =
      let v = w.each lock in
      let d = debtor_fits z.threads z.locks v (ok.parts lock).kept u k l (ap (λ (y : LockRootView). y.owes) root.1 ∙ debt) in
      debtor lock u d.0.0 (ap (λ (x : LockPassView V). x.asleep) (sym ((ok.passes u d.0.0).each lock).1) ∙ d.0.1)

  pub cond_debtor : (c u : ℕ) (q : CondRootView) → (meaning_of rule z xs cond).RootFits (w.each cond) c q → Contains q.owes u
      → (u < z.threads) × Quiet rule z xs cond w u
  cond_debtor c u q root debt =
      let v = w.each cond in
      let d = waits_out z.threads (z.locks + z.conds) v (ok.parts cond).kept u c
      (subst (λ (y : CondRootView). Contains y.owes u) (sym root.1) debt) in
      debtor cond u d.0.0 (ap is_some (ap (λ (x : CondPassView). x.out) (sym ((ok.passes u d.0.0).each cond).1) ∙ d.0.1))

  pub sem_debtor : (k u : ℕ) (q : SemRootView) → (meaning_of rule z xs sem).RootFits (w.each sem) k q → q.owes ≡ Some u → (u < z.threads)
      × Quiet rule z xs sem w u
  sem_debtor k u q root debt =
      let v = w.each sem in
      let n = (ok.parts sem).letters in
      let at : v.spot u ≡ owed k 0 = n.is_owed u k (root.2 ∙ debt) in
      let fits : NoticeFits z.threads v.part.sems.line v.part.seeks v.owes u (owed k 0) =
      subst (NoticeFits z.threads v.part.sems.line v.part.seeks v.owes u) at (n.fits u) in
      debtor sem u fits.0 (sym ((ok.passes u fits.0).each sem).asleep ∙ ap sleeps at)
