-- What the calls of semaphores carry to the lot.
use Rattle.std.proofs.Common.{◌≡◌, ◌≢◌, ℕ, zero, suc, ◌+◌, ◌-◌, ◌%◌, ◌^◌, ◌<◌, ◌==◌, Bool, true, false, List, [], bit_and, refl}
use Rattle.std.proofs.Common.{sym, subst, ◌∙◌, inl, inr, arith, MatchBool, None}
use prog.Atomic.{either}
use Rattle.lot_core.specs.Steps.{SaysMore, first}
use Rattle.lot_events.specs.declared.events.Event.{Event}
use Rattle.lot_events.specs.declared.events.Event.TheVariants.{SemTake, SemMark, SemPark, SemFree, SemPass, SemClear}
use Rattle.lot_events.specs.declared.events.Seen.TheVariants.{Bool as Saw, Done, Sleeper}
use Rattle.lot_rights.specs.declared.views.Access.{Access}
use Rattle.lot_rights.specs.declared.views.Access.TheVariants.{Makes, Finds}
use Rattle.lot_rights.specs.Shown.{PassShown, RootShown}
use Rattle.lot_rights.specs.Layout.{word_at}
use Rattle.lot_rights.specs.Steps.{Notes, pass_after, AllowsPass, AllowsBoth}
use Rattle.lot_rights.proofs.Puts.{by_test}
use Rattle.lot_words.specs.CallersRule.{CallersRule}
use Rattle.lot_sems.specs.declared.taking.Taken.{Taken}
use Rattle.lot_sems.specs.declared.taking.Taken.TheVariants.{Got, Empty, Busy}
use Rattle.lot_sems.specs.declared.views.SemPassView.{SemPassView}
use Rattle.lot_sems.specs.declared.views.SemRootView.{SemRootView}
use Rattle.lot_sems.specs.Calls.{IsCalm, MayTake, IsAnyLeft, IsUnmarked, seeking, one_permit_more, one_permit_less, parked_pass}
use Rattle.lot_sems.specs.Calls.{parked_root, passed_root}
use Rattle.lot_sems.specs.Calls.{raise_of, taken_after}
use Rattle.lot_sems.specs.Calls as sem_calls
use Rattle.lot_sems.proofs.Turns as sems
use Rattle.lot_sems.proofs.Roots as sem_roots
use Rattle.lot_whole.specs.declared.views.LotPassView.{LotPassView}
use Rattle.lot_whole.specs.declared.views.LotRootView.{LotRootView}
use Rattle.lot_whole.specs.Family.{sem, LotSize, sem_size, IsKeyIn}
use Rattle.lot_whole.specs.Lot.{lot_meaning}
use Rattle.lot_whole.specs.Lifts.{part_pass, whole_root}
use Rattle.lot_whole.specs.Standing.{IsIdle, MayTakePermit, MayWantPermit, MaySeek, MayGive}
use Rattle.lot_whole.specs.Calls.{NotesIn, FindsOf, Exchanges, Misses, TakesFrom, TriesPermit, TakesPermit, FreesPermit}
use Rattle.lot_whole.proofs.Carries.{MaySpeak, Carried, carry, carry_both, at_key}
use Rattle.lot_whole.proofs.Lifts.{lifts_pass, lifts_both}
use Rattle.lot_whole.proofs.Tells.{may_seek, idle_calm, got_permit, keeps_seek}

-- ---- what each step tells
module _ {V : Type 0} where
  -- a look at the word of k, by a thread that seeks a permit where none is left
  abbrev pub Seeks : PassShown (LotPassView V) → ℕ → ℕ → PassShown (LotPassView V) → Type 0
  Seeks p k zero q = TakesPermit p k Empty q
  Seeks p k (suc zero) q = TakesPermit p k Empty q
  Seeks p k (suc (suc n)) q = FindsOf p k (suc (suc n)) q

  -- an exchange of the word that was seen
  abbrev pub Swaps : PassShown (LotPassView V) → ℕ → SemPassView → Event → ℕ → ℕ → PassShown (LotPassView V) → Type 0
  Swaps p k own e seen n q = MatchBool (n == seen) (NotesIn sem p own (Makes e (Saw true)) q) (FindsOf p k n q)

  abbrev pub MarksPermit : PassShown (LotPassView V) → ℕ → ℕ → PassShown (LotPassView V) → Type 0
  MarksPermit p k n q = MatchBool (n == 0) (NotesIn sem p p.own.sems (Makes (SemMark p.thread k) Done) q)
      ((x : ℕ) × (x ≢ 0) × FindsOf p k x q)

  abbrev pub ParksSem : PassShown (LotPassView V) → RootShown SemRootView → ℕ → PassShown (LotPassView V) → RootShown LotRootView → Type 0
  ParksSem p q n p' q' = NotesIn sem p (parked_pass p.own.sems (n == 1)) (Makes (SemPark p.thread q.key) (Saw (n == 1))) p'
      × (q' ≡ whole_root sem (record q { own = parked_root q.own p.thread (n == 1) }))

  abbrev pub PassesPermit : PassShown (LotPassView V) → RootShown SemRootView → Bool → PassShown (LotPassView V) → RootShown LotRootView
      → Type 0
  PassesPermit p q more p' q' =
      NotesIn sem p (one_permit_less p.own.sems q.key) (Makes (SemPass p.thread q.key more) (Sleeper (first q.own.line))) p'
      × (q' ≡ whole_root sem (record q { own = passed_root q.own q.own.line }))

  abbrev pub Clears : PassShown (LotPassView V) → RootShown SemRootView → PassShown (LotPassView V) → RootShown LotRootView → Type 0
  Clears p q p' q' = NotesIn sem p p.own.sems (Makes (SemClear p.thread q.key) Done) p' × (q' ≡ whole_root sem q)

  -- ---- what a number found tells the caller
  pub seeks_empty : (p : PassShown (LotPassView V)) (k n : ℕ) (q : PassShown (LotPassView V)) → n < 2 → Seeks p k n q
      → TakesPermit p k Empty q
  seeks_empty p k zero q few h = h
  seeks_empty p k (suc zero) q few h = h
  seeks_empty p k (suc (suc n)) q few h = absurd (omega arith)

  pub seeks_left : (p : PassShown (LotPassView V)) (k n : ℕ) (q : PassShown (LotPassView V)) → IsAnyLeft n → Seeks p k n q → FindsOf p k n q
  seeks_left p k zero q some h = absurd (omega arith)
  seeks_left p k (suc zero) q some h = absurd (omega arith)
  seeks_left p k (suc (suc n)) q some h = h

  pub took : (p : PassShown (LotPassView V)) (k seen n : ℕ) (q : PassShown (LotPassView V))
      → Swaps p k (one_permit_more p.own.sems k) (SemTake p.thread k) seen n q → TakesFrom p k seen (taken_after (n == seen)) q
  took p k seen n q =
      by_test (λ b. MatchBool b (NotesIn sem p (one_permit_more p.own.sems k) (Makes (SemTake p.thread k) (Saw true)) q)
      (FindsOf p k n q) → TakesFrom p k seen (taken_after b) q) n seen (λ is h. h) (λ ne h. (n, ne, h))

  -- ---- a look, by which p became r, and then an exchange
  module _ (p r : PassShown (LotPassView V)) (k seen : ℕ) (look : FindsOf p k seen r) where
    -- what was asked of the pass is so after the look
    pub after_look : (Asks : LotPassView V → Type 0) → Asks p.own → Asks r.own
    after_look Asks may = subst (λ (y : PassShown (LotPassView V)). Asks y.own) (sym look.1) may

    exchanged : (could : ℕ → Type 0) (own : SemPassView → SemPassView) (e : ℕ → Event) (q : PassShown (LotPassView V)) → could seen
        → NotesIn sem r (own r.own.sems) (Makes (e r.thread) (Saw true)) q → Exchanges p k could (own p.own.sems) (e p.thread) q
    exchanged could own e q may note = (
      seen,
      may,
      (
        r,
        look,
        subst (λ (y : PassShown (LotPassView V)). NotesIn sem r (own y.own.sems) (Makes (e y.thread) (Saw true)) q)
            look.1 note,
      ),
    )

    missed : (could : ℕ → Type 0) (n : ℕ) (q : PassShown (LotPassView V)) → could seen → n ≢ seen → FindsOf r k n q → Misses p k could q
    missed could n q may ne found = (seen, n, may, ne, (r, look, found))

    pub tried : IsAnyLeft seen → (became : Taken) (q : PassShown (LotPassView V)) → TakesFrom r k seen became q → TriesPermit p k became q
    tried left Got q h = exchanged IsAnyLeft (λ own. one_permit_more own k) (λ t. SemTake t k) q left h
    tried left Empty q h = absurd h
    tried left Busy q (n, ne, found) = missed IsAnyLeft n q left ne found

    pub taken : IsAnyLeft seen → (became : Taken) (q : PassShown (LotPassView V)) → TakesFrom r k seen became q → TakesPermit p k became q
    taken left Got q h = tried left Got q h
    taken left Empty q h = absurd h
    taken left Busy q h = tried left Busy q h

    pub freed : IsUnmarked seen → (n : ℕ) (q : PassShown (LotPassView V))
        → Swaps r k (one_permit_less r.own.sems k) (SemFree r.thread k) seen n q
        → FreesPermit p k (n == seen) q
    freed clear n q = by_test (λ b. MatchBool b (NotesIn sem r (one_permit_less r.own.sems k) (Makes (SemFree r.thread k) (Saw true)) q)
        (FindsOf r k n q) → FreesPermit p k b q) n seen
        (λ is h. exchanged IsUnmarked (λ own. one_permit_less own k) (λ t. SemFree t k) q clear h)
        (λ ne h. inr (missed IsUnmarked n q clear ne h))

  -- ---- what a kind asks
  pub idle_takes : (p : LotPassView V) (k : ℕ) → IsIdle p → MayTakePermit p k
  idle_takes p k idle = inr idle

  takes_so : (p : LotPassView V) (k : ℕ) → MayTakePermit p k → MayTake p.sems k
  takes_so p k (inl h) = (h.0 sem, inr h.1)
  takes_so p k (inr idle) = (idle.0.up sem, inl idle.0.seeks)

  calms_so : (p : LotPassView V) → IsIdle p → IsCalm p.sems
  calms_so p idle = (idle.0.up sem, idle.0.seeks)

module _ {V Part : Type 0} (rule : CallersRule V Part) (z : LotSize) (xs : List V) where
  module _ (p : PassShown (LotPassView V)) (k : ℕ) (among : IsKeyIn z sem k) where
    -- the word was found to be this
    finds : (n : ℕ) (own : SemPassView) (a : Access)
        → Notes (part_pass sem p) p.own.sems (Finds p.thread k n) (pass_after (part_pass sem p) own 0 a)
        → Carried rule z xs sem p (FindsOf p k n) own a
    finds n = carry rule z xs sem p p.own.sems (Finds p.thread k n) (FindsOf p k n) (λ up. inl up) (λ w ws hs ok fit. among)
        (λ i. (i, refl))

    pub looks : AllowsPass (lot_meaning rule z xs) (word_at k) (λ n. n) p (FindsOf p k)
    looks = lifts_pass rule z xs sem (word_at k) (λ n. n) p (sem_calls.Found (part_pass sem p) k) (FindsOf p k)
        (sems.looks (sem_size z) (part_pass sem p) k among)
        (at_key rule z xs sem p k among) (λ n own a told. finds n own a (told 0))

    -- a SemTake that got a permit, and one that found none
    speaks_got : MayTakePermit p.own k → MaySpeak rule z xs sem p (Makes (SemTake p.thread k) (Saw true))
    speaks_got may w ws hs ok fit =
        (tt, may_seek rule z xs w ws hs ok p.thread p.own fit k may, got_permit rule.above w.whole p.thread k)

    speaks_missed : MayWantPermit rule.above p.own k → MaySpeak rule z xs sem p (Makes (SemTake p.thread k) (Saw false))
    speaks_missed may w ws hs ok fit =
        (tt, may_seek rule z xs w ws hs ok p.thread p.own fit k may.0, λ _. keeps_seek rule z xs w ws hs ok p.thread p.own fit k may)

    carries_seeks : MayWantPermit rule.above p.own k → (n : ℕ) (own : SemPassView) (a : Access)
        → sems.Seeks (part_pass sem p) k n (pass_after (part_pass sem p) own 0 a)
        → Carried rule z xs sem p (Seeks p k n) own a
    carries_seeks may zero own a h =
        carry rule z xs sem p (seeking p.own.sems k) (Makes (SemTake p.thread k) (Saw false)) (Seeks p k 0) (λ up. inl up)
        (speaks_missed may) (λ i. (i, refl)) own a h
    carries_seeks may (suc zero) own a h =
        carry rule z xs sem p (seeking p.own.sems k) (Makes (SemTake p.thread k) (Saw false)) (Seeks p k (suc zero)) (λ up. inl up)
        (speaks_missed may) (λ i. (i, refl)) own a h
    carries_seeks may (suc (suc n)) own a h = finds (suc (suc n)) own a h

    pub seeks : MayWantPermit rule.above p.own k → AllowsPass (lot_meaning rule z xs) (word_at k) (λ n. n) p (Seeks p k)
    seeks may = lifts_pass rule z xs sem (word_at k) (λ n. n) p (sems.Seeks (part_pass sem p) k) (Seeks p k)
        (sems.seeks (sem_size z) (part_pass sem p) k among (takes_so p.own k may.0))
        (at_key rule z xs sem p k among) (λ n own a told. carries_seeks may n own a (told 0))

    -- an exchange, by an event after which the thread is away as before
    carries_swaps : (own' : SemPassView) (e : Event) → own'.asleep ≡ p.own.sems.asleep → MaySpeak rule z xs sem p (Makes e (Saw true))
        → (seen n : ℕ) (own : SemPassView) (a : Access)
        → sems.Swaps (part_pass sem p) k own' e seen n (pass_after (part_pass sem p) own 0 a)
        → Carried rule z xs sem p (Swaps p k own' e seen n) own a
    carries_swaps own' e same speaks seen n own a = by (n == seen)
      where
        by : (b : Bool) → MatchBool b (Notes (part_pass sem p) own' (Makes e (Saw true)) (pass_after (part_pass sem p) own 0 a))
            (Notes (part_pass sem p) p.own.sems (Finds p.thread k n) (pass_after (part_pass sem p) own 0 a))
            → Carried rule z xs sem p (λ q. MatchBool b (NotesIn sem p own' (Makes e (Saw true)) q) (FindsOf p k n q)) own a
        by true h = carry rule z xs sem p own' (Makes e (Saw true)) (NotesIn sem p own' (Makes e (Saw true)))
            (λ up. inl (sym same ∙ up)) speaks (λ i. (i, refl)) own a h
        by false h = finds n own a h

    pub swaps : MayTakePermit p.own k → (seen : ℕ) → IsAnyLeft seen
        → AllowsPass (lot_meaning rule z xs) (word_at k) (λ n. either (n == seen) (seen - 2) n) p
        (Swaps p k (one_permit_more p.own.sems k) (SemTake p.thread k) seen)
    swaps may seen some = lifts_pass rule z xs sem (word_at k) (λ n. either (n == seen) (seen - 2) n) p
        (sems.Swaps (part_pass sem p) k (one_permit_more p.own.sems k) (SemTake p.thread k) seen)
        (Swaps p k (one_permit_more p.own.sems k) (SemTake p.thread k) seen)
        (sems.swaps (sem_size z) (part_pass sem p) k among (takes_so p.own k may) seen some) (at_key rule z xs sem p k among)
        (λ n own a told. carries_swaps (one_permit_more p.own.sems k) (SemTake p.thread k) refl
        (speaks_got may) seen n own a (told 0))

    pub frees : MayGive p.own k → (seen : ℕ) → IsUnmarked seen
        → AllowsPass (lot_meaning rule z xs) (word_at k) (λ n. either (n == seen) ((seen + 2) % 2 ^ 64) n) p
        (Swaps p k (one_permit_less p.own.sems k) (SemFree p.thread k) seen)
    frees may seen clear = lifts_pass rule z xs sem (word_at k) (λ n. either (n == seen) ((seen + 2) % 2 ^ 64) n) p
        (sems.Swaps (part_pass sem p) k (one_permit_less p.own.sems k) (SemFree p.thread k) seen)
        (Swaps p k (one_permit_less p.own.sems k) (SemFree p.thread k) seen)
        (sems.frees (sem_size z) (part_pass sem p) k among (calms_so p.own may.0, may.1) seen clear) (at_key rule z xs sem p k among)
        (λ n own a told. carries_swaps (one_permit_less p.own.sems k) (SemFree p.thread k) refl
        (λ w ws hs ok fit. (tt, idle_calm rule z xs w ws hs ok p.thread p.own fit may.0, λ _. tt)) seen n own a (told 0))

    carries_marks : (n : ℕ) (own : SemPassView) (a : Access) → sems.Marks (part_pass sem p) k n (pass_after (part_pass sem p) own 0 a)
        → Carried rule z xs sem p (MarksPermit p k n) own a
    carries_marks n own a = by (n == 0)
      where
        by : (b : Bool) → MatchBool b (Notes (part_pass sem p) p.own.sems (Makes (SemMark p.thread k) Done)
            (pass_after (part_pass sem p) own 0 a))
            ((x : ℕ) × (x ≢ 0) × Notes (part_pass sem p) p.own.sems (Finds p.thread k x) (pass_after (part_pass sem p) own 0 a))
            → Carried rule z xs sem p (λ q. MatchBool b (NotesIn sem p p.own.sems (Makes (SemMark p.thread k) Done) q)
            ((x : ℕ) × (x ≢ 0) × FindsOf p k x q)) own a
        by true h = carry rule z xs sem p p.own.sems (Makes (SemMark p.thread k) Done)
            (NotesIn sem p p.own.sems (Makes (SemMark p.thread k) Done)) (λ up. inl up)
            (λ w ws hs ok fit. (tt, tt, λ _. tt)) (λ i. (i, refl)) own a h
        by false h = carry rule z xs sem p p.own.sems (Finds p.thread k h.0) (λ q. (x : ℕ) × (x ≢ 0) × FindsOf p k x q) (λ up. inl up)
            (λ w ws hs ok fit. among)
            (λ i. (h.0, h.1, (i, refl))) own a h.2

    pub marks : MaySeek p.own k → AllowsPass (lot_meaning rule z xs) (word_at k) (λ n. either (n == 0) 1 n) p (MarksPermit p k)
    marks may = lifts_pass rule z xs sem (word_at k) (λ n. either (n == 0) 1 n) p (sems.Marks (part_pass sem p) k) (MarksPermit p k)
        (sems.marks (sem_size z) (part_pass sem p) k among (may.0 sem, may.1)) (at_key rule z xs sem p k among)
        (λ n own a told. carries_marks n own a (told 0))

  -- ---- with a root
  module _ (p : PassShown (LotPassView V)) (q : RootShown SemRootView) where
    pub parks : MaySeek p.own q.key → AllowsBoth (lot_meaning rule z xs) (word_at q.key) (λ n. n) p (whole_root sem q) (ParksSem p q)
    parks may = lifts_both rule z xs sem (λ n. n) p q (sem_roots.Parks (part_pass sem p) q) (ParksSem p q)
        (sem_roots.parks (sem_size z) (part_pass sem p) q (may.0 sem, may.1))
        (λ n own its a told. carry_both rule z xs sem p q (parked_pass p.own.sems (n == 1)) (parked_root q.own p.thread (n == 1))
        (Makes (SemPark p.thread q.key) (Saw (n == 1))) (ParksSem p q n)
        (λ up. inr (λ k ne. may.0 k)) (λ w ws hs ok fit root. (tt, tt, λ _. tt)) (λ i. ((i, refl), refl)) own its a (told 0).0 (told 0).1)

    pub passes : MayGive p.own q.key → q.own.owes ≡ None → (more : Bool) → SaysMore q.own.line more → (x : ℕ)
        → x ≡ raise_of (first q.own.line) more
        → AllowsBoth (lot_meaning rule z xs) (word_at q.key) (λ n. (n + x) % 2 ^ 64) p (whole_root sem q) (λ _. PassesPermit p q more)
    passes may paid more says x is =
        lifts_both rule z xs sem (λ n. (n + x) % 2 ^ 64) p q (λ _. sem_roots.Passes (part_pass sem p) q q.own.line more)
        (λ _. PassesPermit p q more)
        (sem_roots.passes (sem_size z) (part_pass sem p) q (calms_so p.own may.0, may.1) paid more says x is)
        (λ n own its a told. carry_both rule z xs sem p q (one_permit_less p.own.sems q.key) (passed_root q.own q.own.line)
        (Makes (SemPass p.thread q.key more) (Sleeper (first q.own.line))) (PassesPermit p q more)
        (λ up. inl up) (λ w ws hs ok fit root. (tt, idle_calm rule z xs w ws hs ok p.thread p.own fit may.0, λ _. tt))
        (λ i. ((i, refl), refl)) own its a (told 0).0 (told 0).1)

    pub clears : IsIdle p.own → q.own.line ≡ []
        → AllowsBoth (lot_meaning rule z xs) (word_at q.key) (λ n. bit_and n (2 ^ 64 - 2)) p (whole_root sem q) (λ _. Clears p q)
    clears idle nobody = lifts_both rule z xs sem (λ n. bit_and n (2 ^ 64 - 2)) p q (λ _. sem_roots.Clears (part_pass sem p) q)
        (λ _. Clears p q)
        (sem_roots.clears (sem_size z) (part_pass sem p) q (calms_so p.own idle) nobody)
        (λ n own its a told. carry_both rule z xs sem p q p.own.sems q.own (Makes (SemClear p.thread q.key) Done) (Clears p q)
        (λ up. inl up) (λ w ws hs ok fit root. (tt, idle_calm rule z xs w ws hs ok p.thread p.own fit idle, λ _. tt))
        (λ i. ((i, refl), refl)) own its a (told 0).0 (told 0).1)
