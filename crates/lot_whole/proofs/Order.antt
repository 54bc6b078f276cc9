-- A letter that a thread collects after it was queued comes after the event that took it from the line.
use Rattle.std.proofs.Common.{◌≡◌, ◌≢◌, ℕ, ◌+◌, ◌-◌, ◌*◌, ◌<◌, ◌==◌, ◌⊎◌, Bool, true, false, cond as either, List, [], ◌∷◌, ◌++◌}
use Rattle.std.proofs.Common.{length, map, append_assoc, length-append, refl, sym, ap, subst, ◌∙◌, inl, inr, ⊎_elim, arith, Some, None}
use Rattle.std.specs.Prelude.{◌&&◌, if◌then◌else◌}
use Rattle.std.specs.List.{Contains}
use Rattle.std.proofs.lemmas.List.{map-append}
use Rattle.std.proofs.lemmas.List.Elements.{Contains-append_left, Contains-append_right, Contains-push}
use mathlib.Core.Logic.{dite}
use native.Mathlib.Decide.{ℕ_discrete}
use Rattle.lot_core.specs.Model.{StateView, Locks, Semaphores, put}
use Rattle.lot_core.specs.Steps.{Allowed, after, after_all, passed_line, permit_given, seeker_woken}
use Rattle.lot_core.proofs.Put.{by_bit, by_line, put_same, put_other}
use Rattle.lot_events.specs.declared.events.Event.{Event}
use Rattle.lot_events.specs.declared.events.Event.TheVariants.{Try, Take, Mark, Park, Free, Pass, Enlist, Look, Call, Lower, Sweep, SemTake}
use Rattle.lot_events.specs.declared.events.Event.TheVariants.{SemMark, SemPark, SemFree, SemPass, SemClear}
use Rattle.lot_events.specs.declared.events.Seen.{Seen}
use Rattle.lot_events.specs.declared.events.Seen.TheVariants.{Bool as Saw}
use Rattle.lot_rights.specs.declared.views.Access.{Access}
use Rattle.lot_rights.specs.declared.views.Access.TheVariants.{Makes, Posts, Collects, Finds, Counts}
use Rattle.lot_rights.specs.declared.views.Entry.{Entry}
use Rattle.lot_rights.specs.History.{maker, doer, entries_of, Telling, no_letters, Happens, NoLetterInLine, Continues, Run, events_in}
use Rattle.lot_rights.specs.History.{CountsRight, AllCountRight}
use Rattle.lot_rights.proofs.Histories.{entries_append, one_of_mine, run_more, counted_at}
use Rattle.lot_rights.proofs.Lines.{in_or_not}
use Rattle.lot_rights.proofs.Puts.{put_elim}
use Rattle.lot_whole.specs.Family.{Which, lock, cond, sem, LotSize}
use Rattle.lot_whole.specs.Whole.{WholeStep, word_in, waiting_in, line_in, line_at, IsQueued, HowMany, counts_in, opening_of}
use Rattle.lot_whole.specs.Headline.{event_of}
use Rattle.lot_whole.proofs.Queueing.{history_balances}
use Rattle.lot_whole.proofs.Whole.{counts_after}
use Rattle.lot_whole.specs.Order.{IsLogOf, state_after, accesses_of, IsQueuing, IsTaking, SeesIn, WasTaken, LettersFollow}
use Rattle.lot_whole.specs.Order.{CountsFollow}

-- ---- parts of a run
module _ {S : Type 0} (Leads : S → Access → S → Type 0) where
  run_parts : (a : S) (k : ℕ) (xs ys : List Entry) (b : S) → Run Leads a k (xs ++ ys) b
      → (c : S) × (Run Leads a k xs c × Run Leads c (k + length xs) ys b)
  run_parts a k [] ys b run = (a, (refl, subst (λ i. Run Leads a i ys b) (omega arith) run))
  run_parts a k (x ∷ xs) ys b run =
      let r = run_parts run.1.0 (k + 1) xs ys b run.1.1.1 in
      (r.0, ((run.0, (run.1.0, (run.1.1.0, r.1.0))), subst (λ i. Run Leads r.0 i ys b) (omega arith) r.1.1))

  run_joined : (a : S) (k : ℕ) (xs ys : List Entry) (b c : S) → Run Leads a k xs b → Run Leads b (k + length xs) ys c
      → Run Leads a k (xs ++ ys) c
  run_joined a k [] ys b c run rest = subst (λ s. Run Leads s k ys c) run (subst (λ i. Run Leads b i ys c) (omega arith) rest)
  run_joined a k (x ∷ xs) ys b c run rest = (
    run.0,
    (run.1.0, (run.1.1.0, run_joined run.1.0 (k + 1) xs ys b c run.1.1.1 (subst (λ i. Run Leads b i ys c) (omega arith) rest))),
  )

  -- the run goes by an entry: from where the entries before it lead, to where those behind it begin
  record GoesBy (a : S) (k : ℕ) (front : List Entry) (entry : Entry) (back : List Entry) (b : S) : Type 0 where
    before : S
    now : S
    run : Run Leads a k front before
    at : entry.at ≡ k + length front
    step : Leads before entry.access now
    rest : Run Leads now (k + length front + 1) back b

  goes_by : (a : S) (k : ℕ) (front : List Entry) (entry : Entry) (back : List Entry) (b : S) → Run Leads a k (front ++ entry ∷ back) b
      → GoesBy a k front entry back b
  goes_by a k front entry back b run =
      let r = run_parts a k front (entry ∷ back) b run in
      record { before = r.0; now = r.1.1.1.0; run = r.1.0; at = r.1.1.0; step = r.1.1.1.1.0; rest = r.1.1.1.1.1 }

-- ---- an access of a right in the log, and what the right has made before and after it
record Placed (i : ℕ) (log : List Entry) (front : List Access) (x : Access) (rest : List Access) : Type 0 where
  before : List Entry
  entry : Entry
  behind : List Entry
  there : log ≡ before ++ entry ∷ behind
  entry_is : entry.access ≡ x
  before_is : accesses_of i before ≡ front
  behind_is : accesses_of i behind ≡ rest

module _ (i : ℕ) (y : Entry) (log : List Entry) (x : Access) (rest : List Access)
    (later : (front : List Access) → accesses_of i log ≡ front ++ x ∷ rest → Placed i log front x rest) where
  abbrev made : Bool → List Entry → List Access
  made b zs = map (λ (z : Entry). z.access) (either b (y ∷ entries_of i zs) (entries_of i zs))

  -- the first entry stands before what is placed in the rest
  after_first : (front all : List Access) (p : Placed i log front x rest) → made (doer y.access == i) p.before ≡ all
      → Placed i (y ∷ log) all x rest
  after_first front all p is = record {
    before = y ∷ p.before;
    entry = p.entry;
    behind = p.behind;
    there = ap (λ zs. y ∷ zs) p.there;
    entry_is = p.entry_is;
    before_is = is;
    behind_is = p.behind_is;
  }

  -- the first entry is the right's own or not
  by_first : (b : Bool) → (doer y.access == i) ≡ b → (front : List Access) → made b log ≡ front ++ x ∷ rest
      → Placed i (y ∷ log) front x rest
  by_first true is [] e = record {
    before = [];
    entry = y;
    behind = log;
    there = refl;
    entry_is = let f : y.access ≡ x = cc in f;
    before_is = refl;
    behind_is = let f : accesses_of i log ≡ rest = cc in f;
  }
  by_first true is (a ∷ front) e =
      let same : y.access ≡ a = cc in
      let p = later front (let f : accesses_of i log ≡ front ++ x ∷ rest = cc in f) in
      after_first front (a ∷ front) p (ap (λ b. made b p.before) is ∙ ((λ k. same k ∷ p.before_is k)))
  by_first false is front e =
      let p = later front e in after_first front front p (ap (λ b. made b p.before) is ∙ p.before_is)

no_more : (front : List Access) (x : Access) (rest : List Access) → [] ≡ front ++ x ∷ rest → ⊥
no_more [] x rest e = cc
no_more (y ∷ front) x rest e = cc

place_of : (i : ℕ) (log : List Entry) (x : Access) (rest front : List Access) → accesses_of i log ≡ front ++ x ∷ rest
    → Placed i log front x rest
place_of i [] x rest front e = absurd (no_more front x rest e)
place_of i (y ∷ log) x rest front e = by_first i y log x rest (place_of i log x rest) (doer y.access == i) refl front e

-- each right shows what was made with it
shows : (front : List Entry) (x : Entry) (back : List Entry) (i : ℕ) → doer x.access ≡ i
    → entries_of i (front ++ x ∷ back) ≡ entries_of i front ++ (x ∷ entries_of i back)
shows front x back i e = entries_append i front (x ∷ back) ∙ ap (λ zs. entries_of i front ++ zs) (one_of_mine i x e back)

there_in : {A : Type 0} (xs : List A) (x : A) (ys : List A) → Contains (xs ++ x ∷ ys) x
there_in xs x ys = Contains-append_right xs (x ∷ ys) x (Contains-append_left (x ∷ []) ys x (Contains-push [] x))

-- ---- lines
module _ (t : ℕ) (line : ℕ → List ℕ) (c : ℕ) where
  -- who is in the line of c is in it after u joined that of d
  after_join : (d u : ℕ) → Contains (line c) t → Contains (put line d (line d ++ u ∷ []) c) t
  after_join d u h = put_elim (λ xs. Contains xs t) line d (line d ++ u ∷ []) c
      (λ e. Contains-append_left (line d) (u ∷ []) t (subst (λ k. Contains (line k) t) e h)) (λ _. h)

  -- and after another line changed
  after_other : (d : ℕ) (xs : List ℕ) → d ≢ c → Contains (line c) t → Contains (put line d xs c) t
  after_other d xs ne h = subst (λ us. Contains us t) (sym (put_other line d xs c (λ e. ne (sym e)))) h

  joins : Contains (put line c (line c ++ t ∷ []) c) t
  joins = subst (λ us. Contains us t) (sym (put_same line c (line c ++ t ∷ []))) (Contains-push (line c) t)

module _ (t c : ℕ) (s : StateView) where
  -- an event leaves the thread in the line, or it is one by which threads are taken from there
  abbrev Stays : Which → Event → Seen → Type 0
  Stays j e saw = IsTaking j c (Makes e saw) ⊎ Contains (line_in (after s e) j c) t

  if_other : (j : Which) (e : Event) (saw : Seen) (d : ℕ) → (d ≡ c → IsTaking j c (Makes e saw))
      → (d ≢ c → Contains (line_in (after s e) j c) t) → Stays j e saw
  if_other j e saw d here there = dite (ℕ_discrete d c) (λ is. inl (here is)) (λ ne. inr (there ne))

  stays : (j : Which) (e : Event) (saw : Seen) → Contains (line_in s j c) t → Stays j e saw
  stays lock (Try u d) saw h =
      let taken : Locks = record s.locks { held = put s.locks.held d true; has = put s.locks.has d (put (s.locks.has d) u true) } in
      inr (by_bit (λ b. Contains ((if b then s.locks else taken).line c) t) (s.locks.held d) (λ _. h) (λ _. h))
  stays lock (Take u d) saw h =
      let taken : Locks = record s.locks { held = put s.locks.held d true; has = put s.locks.has d (put (s.locks.has d) u true) } in
      inr (by_bit (λ b. Contains ((if b then s.locks else taken).line c) t) (s.locks.held d) (λ _. h) (λ _. h))
  stays lock (Park u d) saw h =
      let more : Locks = record s.locks { line = put s.locks.line d (s.locks.line d ++ u ∷ []) } in
      inr (by_bit (λ b. Contains ((if b then more else s.locks).line c) t) (s.locks.held d && s.locks.parked d)
      (λ _. after_join t s.locks.line c d u h) (λ _. h))
  stays lock (Free u d) saw h =
      let let_go : Locks = record s.locks { held = put s.locks.held d false; has = put s.locks.has d (put (s.locks.has d) u false) } in
      inr (by_bit (λ b. Contains ((if b then s.locks else let_go).line c) t) (s.locks.parked d) (λ _. h) (λ _. h))
  stays lock (Pass u d fair more) saw h = if_other lock (Pass u d fair more) saw d (λ e. e) (λ ne.
      by_line (λ us. Contains ((passed_line s.locks u d fair more us).line c) t) (s.locks.line d) (λ _. h)
      (λ v rest _. by_bit (λ b. Contains ((passed_line s.locks u d b more (v ∷ rest)).line c) t) fair
      (λ _. after_other t s.locks.line c d rest ne h) (λ _. after_other t s.locks.line c d rest ne h)))
  stays cond (Enlist u d l) saw h = inr (after_join t s.conds.line c d u h)
  stays cond (Call u d n more) saw h = if_other cond (Call u d n more) saw d (λ e. e) (λ ne. after_other t s.conds.line c d _ ne h)
  stays cond (Sweep u d) saw h = if_other cond (Sweep u d) saw d (λ e. e) (λ ne. after_other t s.conds.line c d _ ne h)
  stays sem (SemTake u d) saw h =
      let taken : Semaphores = record s.sems {
        left = put s.sems.left d (s.sems.left d - 1);
        out = put s.sems.out d (put (s.sems.out d) u (s.sems.out d u + 1));
      } in
      inr (by_bit (λ b. Contains ((if b then s.sems else taken).line c) t) (s.sems.left d == 0) (λ _. h) (λ _. h))
  stays sem (SemPark u d) saw h =
      let more : Semaphores = record s.sems { line = put s.sems.line d (s.sems.line d ++ u ∷ []) } in
      inr (by_bit (λ b. Contains ((if b then more else s.sems).line c) t) ((s.sems.left d == 0) && s.sems.parked d)
      (λ _. after_join t s.sems.line c d u h) (λ _. h))
  stays sem (SemFree u d) saw h = inr (by_bit (λ b. Contains ((if b then s.sems else permit_given s.sems u d).line c) t)
      (s.sems.parked d) (λ _. h) (λ _. h))
  stays sem (SemPass u d more) saw h = if_other sem (SemPass u d more) saw d (λ e. e) (λ ne.
      by_line (λ us. Contains ((seeker_woken (permit_given s.sems u d) d more us).line c) t) (s.sems.line d) (λ _. h)
      (λ v rest _. after_other t s.sems.line c d rest ne h))
  stays _ _ saw h = inr h

-- ---- steps of the history
maker_near : (s : StateView) (e : Event) → Allowed s e → maker e < s.threads
maker_near s (Try t l) h = h.0
maker_near s (Take t l) h = h.0
maker_near s (Mark t l) h = h.0
maker_near s (Park t l) h = h.0
maker_near s (Free t l) h = h.0
maker_near s (Pass t l fair more) h = h.0
maker_near s (Enlist t c l) h = h.0
maker_near s (Look t c) h = h.0
maker_near s (Call t c n more) h = h.0
maker_near s (Lower t c) h = h.0
maker_near s (Sweep t c) h = h.0
maker_near s (SemTake t k) h = h.0
maker_near s (SemMark t k) h = h.0
maker_near s (SemPark t k) h = h.0
maker_near s (SemFree t k) h = h.0
maker_near s (SemPass t k more) h = h.0
maker_near s (SemClear t k) h = h.0

counts_all : (s : StateView) (events : List Event) → counts_in (after_all s events) ≡ counts_in s
counts_all s [] = refl
counts_all s (e ∷ events) = counts_all (after s e) events ∙ counts_after s e

module _ (z : LotSize) where
  abbrev Goes : Telling StateView → Access → Telling StateView → Type 0
  Goes = Continues WholeStep (word_in z) (waiting_in z) IsQueued

  -- who was in the line and is not was taken from it, by an event of a thread
  abbrev Taking : Which → ℕ → Telling StateView → Access → Type 0
  Taking j c a x = IsTaking j c x × ((u : ℕ) × (u < a.part.threads) × (doer x ≡ 2 * u))

  same_line : (j : Which) (t c : ℕ) (a b : Telling StateView) → b.part ≡ a.part → Contains (line_in a.part j c) t
      → ¬ Contains (line_in b.part j c) t → ⊥
  same_line j t c a b same here gone = gone (subst (λ s. Contains (line_in s j c) t) (sym same) here)

  was_taken : (j : Which) (t c : ℕ) (a : Telling StateView) (x : Access) (b : Telling StateView)
      → Happens WholeStep (word_in z) (waiting_in z) a x b → Contains (line_in a.part j c) t → ¬ Contains (line_in b.part j c) t
      → Taking j c a x
  was_taken j t c a (Makes e saw) b step here gone = ⊎_elim {C = Taking j c a (Makes e saw)}
      (λ d. (d, (maker e, maker_near a.part e step.0.0, refl)))
      (λ still. absurd (gone (subst (λ s. Contains (line_in s j c) t) (sym step.0.2) still))) (stays t c a.part j e saw here)
  was_taken j t c a (Posts d u n) b step here gone = absurd (same_line j t c a b (λ i. (step.1 i).part) here gone)
  was_taken j t c a (Collects u None) b step here gone = absurd (same_line j t c a b (λ i. (step.1 i).part) here gone)
  was_taken j t c a (Collects u (Some n)) b step here gone = absurd (same_line j t c a b (λ i. (step.1 i).part) here gone)
  was_taken j t c a (Finds u d n) b step here gone = absurd (same_line j t c a b (λ i. (step.1 i).part) here gone)
  was_taken j t c a (Counts u d told handed waiting) b step here gone = absurd (same_line j t c a b (λ i. (step.1 i).part) here gone)

  -- who was queued is in the line
  was_queued : (j : Which) (t c : ℕ) (a : Telling StateView) (x : Access) (b : Telling StateView)
      → Happens WholeStep (word_in z) (waiting_in z) a x b → IsQueuing j t c x → Contains (line_in b.part j c) t
  was_queued lock t c a x b step is =
      let h = subst (λ y. Happens WholeStep (word_in z) (waiting_in z) a y b) is step in
      let s : Locks = a.part.locks in
      let more : Locks = record s { line = put s.line c (s.line c ++ t ∷ []) } in
      let both : true ≡ (s.held c && s.parked c) = (let e : Saw true ≡ Saw (s.held c && s.parked c) = h.0.1 in cc) in
      subst (λ (y : StateView). Contains (y.locks.line c) t) (sym h.0.2)
      (subst (λ b. Contains ((if b then more else s).line c) t) both (joins t s.line c))
  was_queued cond t c a x b step is =
      let h = subst (λ y. Happens WholeStep (word_in z) (waiting_in z) a y b) is.1 step in
      subst (λ (y : StateView). Contains (y.conds.line c) t) (sym h.0.2) (joins t a.part.conds.line c)
  was_queued sem t c a x b step is =
      let h = subst (λ y. Happens WholeStep (word_in z) (waiting_in z) a y b) is step in
      let s : Semaphores = a.part.sems in
      let more : Semaphores = record s { line = put s.line c (s.line c ++ t ∷ []) } in
      let both : true ≡ ((s.left c == 0) && s.parked c) = (let e : Saw true ≡ Saw ((s.left c == 0) && s.parked c) = h.0.1 in cc) in
      subst (λ (y : StateView). Contains (y.sems.line c) t) (sym h.0.2)
      (subst (λ b. Contains ((if b then more else s).line c) t) both (joins t s.line c))

  -- an event sees what the model's sees
  sees_by : (a : Telling StateView) (x : Access) (b : Telling StateView) → Happens WholeStep (word_in z) (waiting_in z) a x b
      → SeesIn a.part x
  sees_by a (Makes e saw) b step = step.0.1
  sees_by a (Posts d u n) b step = tt
  sees_by a (Collects u found) b step = tt
  sees_by a (Finds u d n) b step = tt
  sees_by a (Counts u d told handed waiting) b step = tt

  -- where a letter is collected, it lay
  letter_lay : (t token : ℕ) (a : Telling StateView) (x : Access) (b : Telling StateView)
      → Happens WholeStep (word_in z) (waiting_in z) a x b
      → x ≡ Collects t (Some token) → a.letters t ≡ token + 1
  letter_lay t token a x b step is = (subst (λ y. Happens WholeStep (word_in z) (waiting_in z) a y b) is step).0

  -- the state is the one to which the events lead
  abbrev led : StateView → List Entry → StateView
  led s log = after_all s (map event_of (events_in log))

  led_by : (a : Telling StateView) (x : Access) (b : Telling StateView) (log : List Entry) (end : StateView)
      → Happens WholeStep (word_in z) (waiting_in z) a x b → end ≡ led b.part log → (k : ℕ)
      → end ≡ led a.part ((record { at = k; access = x }) ∷ log)
  led_by a (Makes e saw) b log end step is k = is ∙ (λ i. led (step.0.2 i) log)
  led_by a (Posts d u n) b log end step is k = is ∙ (λ i. led (step.1 i).part log)
  led_by a (Collects u None) b log end step is k = is ∙ (λ i. led (step.1 i).part log)
  led_by a (Collects u (Some n)) b log end step is k = is ∙ (λ i. led (step.1 i).part log)
  led_by a (Finds u d n) b log end step is k = is ∙ (λ i. led (step.1 i).part log)
  led_by a (Counts u d told handed waiting) b log end step is k = is ∙ (λ i. led (step.1 i).part log)

  state_is : (a : Telling StateView) (k : ℕ) (log : List Entry) (b : Telling StateView) → Run Goes a k log b → b.part ≡ led a.part log
  state_is a k [] b run = λ i. (run i).part
  state_is a k (x ∷ log) b run =
      led_by a x.access run.1.0 log b.part run.1.1.0.0 (state_is run.1.0 (k + 1) log b run.1.1.1) x.at

  -- at each moment no letter lies for a thread in a line
  still_none : (a : Telling StateView) (k : ℕ) (log : List Entry) (b : Telling StateView) → Run Goes a k log b → NoLetterInLine IsQueued a
      → NoLetterInLine IsQueued b
  still_none a k [] b run none = subst (NoLetterInLine IsQueued) (sym run) none
  still_none a k (x ∷ log) b run none = still_none run.1.0 (k + 1) log b run.1.1.1 run.1.1.0.1

  -- ---- a run at whose beginning the thread is in the line, and at whose end it is not
  module _ (j : Which) (t c : ℕ) where
    record Leaves (a : Telling StateView) (k : ℕ) (log : List Entry) : Type 0 where
      entry : Entry
      front : List Entry
      back : List Entry
      before : Telling StateView
      now : Telling StateView
      there : log ≡ front ++ entry ∷ back
      at : entry.at ≡ k + length front
      run : Run Goes a k front before
      step : Goes before entry.access now
      was_in : Contains (line_in before.part j c) t
      is_out : ¬ Contains (line_in now.part j c) t

    leaves : (a : Telling StateView) (k : ℕ) (log : List Entry) (b : Telling StateView) → Run Goes a k log b
        → Contains (line_in a.part j c) t
        → ¬ Contains (line_in b.part j c) t → Leaves a k log
    leaves a k [] b run here gone = absurd (gone (subst (λ (y : Telling StateView). Contains (line_in y.part j c) t) (sym run) here))
    leaves a k (x ∷ log) b run here gone = ⊎_elim {C = Leaves a k (x ∷ log)}
        (λ still. let r = leaves run.1.0 (k + 1) log b run.1.1.1 still gone in record {
          entry = r.entry;
          front = x ∷ r.front;
          back = r.back;
          before = r.before;
          now = r.now;
          there = ap (λ zs. x ∷ zs) r.there;
          at = omega (arith, r.at);
          run = (run.0, (run.1.0, (run.1.1.0, r.run)));
          step = r.step;
          was_in = r.was_in;
          is_out = r.is_out;
        })
        (λ out. record {
          entry = x;
          front = [];
          back = log;
          before = a;
          now = run.1.0;
          there = refl;
          at = omega (arith, run.0);
          run = refl;
          step = run.1.1.0;
          was_in = here;
          is_out = out;
        })
        (in_or_not (line_in run.1.0.part j c) t)

-- ---- the law
-- in the log of a lot the thread t was queued at the key c by its access x, and collected a letter by its later access
-- y
module _ (z : LotSize) (log : List Entry) (b : Telling StateView) (run : IsLogOf z log b) (j : Which) (t c token : ℕ) (front : List Access)
    (x : Access) (between : List Access) (y : Access) (back : List Access)
    (mine : accesses_of (2 * t) log ≡ front ++ x ∷ (between ++ y ∷ back)) (queues : IsQueuing j t c x)
    (collects : y ≡ Collects t (Some token)) where
  abbrev start : Telling StateView
  start = no_letters (opening_of z)

  -- the entry of x, and behind it the one of y
  at_x : Placed (2 * t) log front x (between ++ y ∷ back)
  at_x = place_of (2 * t) log x (between ++ y ∷ back) front mine

  at_y : Placed (2 * t) at_x.behind between y back
  at_y = place_of (2 * t) at_x.behind y back between at_x.behind_is

  -- the run goes by both
  by_x : GoesBy (Goes z) start 0 at_x.before at_x.entry at_x.behind b
  by_x = goes_by (Goes z) start 0 at_x.before at_x.entry at_x.behind b (subst (λ es. Run (Goes z) start 0 es b) at_x.there run)

  abbrev past_x : ℕ
  past_x = 0 + length at_x.before + 1

  by_y : GoesBy (Goes z) by_x.now past_x at_y.before at_y.entry at_y.behind b
  by_y = goes_by (Goes z) by_x.now past_x at_y.before at_y.entry at_y.behind b
      (subst (λ es. Run (Goes z) by_x.now past_x es b) at_y.there by_x.rest)

  -- after x the thread is in the line
  is_in : Contains (line_in by_x.now.part j c) t
  is_in = was_queued z j t c by_x.before at_x.entry.access by_x.now by_x.step.0 (subst (IsQueuing j t c) (sym at_x.entry_is) queues)

  -- and before y it is not, since a letter lies for it
  is_not_in : ¬ Contains (line_in by_y.before.part j c) t
  is_not_in h =
      let none = still_none z by_x.now past_x at_y.before by_y.before by_y.run by_x.step.1 t (j, c, h) in
      let lay = letter_lay z t token by_y.before at_y.entry.access by_y.now by_y.step.0 (at_y.entry_is ∙ collects) in
      absurd (omega arith)

  -- so it leaves the line by an entry between them
  leaving : Leaves z j t c by_x.now past_x at_y.before
  leaving = leaves z j t c by_x.now past_x at_y.before by_y.before by_y.run is_in is_not_in

  -- what the log has before that entry, and behind it
  abbrev until : List Entry
  until = at_x.before ++ at_x.entry ∷ leaving.front

  abbrev since : List Entry
  since = leaving.back ++ at_y.entry ∷ at_y.behind

  -- the log is these
  in_log : log ≡ at_x.before ++ at_x.entry ∷ (leaving.front ++ leaving.entry ∷ since)
  in_log = at_x.there ∙ ap (λ es. at_x.before ++ at_x.entry ∷ es) (at_y.there ∙ (ap (λ es. es ++ at_y.entry ∷ at_y.behind) leaving.there
      ∙ append_assoc leaving.front (leaving.entry ∷ leaving.back) (at_y.entry ∷ at_y.behind)))

  -- the run up to it, and past it
  run_until : Run (Goes z) start 0 until leaving.before
  run_until = run_joined (Goes z) start 0 at_x.before (at_x.entry ∷ leaving.front) by_x.before leaving.before by_x.run
      (by_x.at, (by_x.now, (by_x.step, leaving.run)))

  run_past : Run (Goes z) start 0 (until ++ leaving.entry ∷ []) leaving.now
  run_past =
      let at : leaving.entry.at ≡ 0 + length until
      = omega (arith, leaving.at, length-append at_x.before (at_x.entry ∷ leaving.front)) in
      run_more (Goes z) start 0 until leaving.before leaving.entry leaving.now run_until at leaving.step

  -- the state before it is the one to which the log leads
  state_until : leaving.before.part ≡ state_after z until
  state_until = state_is z start 0 until leaving.before run_until

  -- it takes threads from the line, and is an event of a thread
  is_taking : Taking z j c leaving.before leaving.entry.access
  is_taking = was_taken z j t c leaving.before leaving.entry.access leaving.now leaving.step.0 leaving.was_in leaving.is_out

  abbrev taker : ℕ
  taker = is_taking.1.0

  -- the thread is one of the lot
  taker_near : taker < z.threads
  taker_near = subst (λ n. taker < n) (ap (λ (n : HowMany). n.threads)
      (ap counts_in state_until ∙ counts_all (opening_of z) (map event_of (events_in until)))) is_taking.1.1

  -- and its pass shows the entry
  taker_shows : entries_of (2 * taker) log ≡ entries_of (2 * taker) until ++ (leaving.entry ∷ entries_of (2 * taker) since)
  taker_shows = ap (entries_of (2 * taker)) (in_log ∙ sym (append_assoc at_x.before (at_x.entry ∷ leaving.front) (leaving.entry ∷ since)))
      ∙ shows until leaving.entry since (2 * taker) is_taking.1.2

  -- so between x and y the thread was taken from the line
  letter_follows : WasTaken z j t c log front x between y
  letter_follows = record {
    before = at_x.before;
    first = at_x.entry;
    waiting = leaving.front;
    taking = leaving.entry;
    since = leaving.back;
    last = at_y.entry;
    after = at_y.behind;
    there = in_log;
    front_is = at_x.before_is;
    first_is = at_x.entry_is;
    between_is = subst (λ es. accesses_of (2 * t) es ≡ between) leaving.there at_y.before_is;
    last_is = at_y.entry_is;
    takes = is_taking.0;
    saw = subst (λ s. SeesIn s leaving.entry.access) state_until
        (sees_by z leaving.before leaving.entry.access leaving.now leaving.step.0);
    was_in = subst (λ s. Contains (line_in s j c) t) state_until leaving.was_in;
    is_out = subst (λ s. ¬ Contains (line_in s j c) t)
        (state_is z start 0 (until ++ leaving.entry ∷ []) leaving.now run_past) leaving.is_out;
    maker = taker;
    is_thread = taker_near;
    made_by = is_taking.1.2;
    shown = subst (λ es. Contains es leaving.entry) (sym taker_shows)
        (there_in (entries_of (2 * taker) until) leaving.entry (entries_of (2 * taker) since));
    made = subst (λ es. Contains es leaving.entry.access)
        (sym (ap (map (λ (e : Entry). e.access)) taker_shows
        ∙ map-append (λ (e : Entry). e.access) (entries_of (2 * taker) until) (leaving.entry ∷ entries_of (2 * taker) since)))
        (there_in (accesses_of (2 * taker) until) leaving.entry.access (accesses_of (2 * taker) since));
  }

pub letters_follow : LettersFollow
letters_follow = letter_follows

-- ---- what was counted
pub counts_follow : CountsFollow
counts_follow z log b run right t c told handed waiting front back mine =
    let x : Access = Counts t c told handed waiting in
    let placed = place_of (2 * t) log x back front mine in
    let start : Telling StateView = no_letters (opening_of z) in
    let by : GoesBy (Goes z) start 0 placed.before placed.entry placed.behind b =
    goes_by (Goes z) start 0 placed.before placed.entry placed.behind b (subst (λ es. Run (Goes z) start 0 es b) placed.there run) in
    let here = subst (CountsRight placed.before) placed.entry_is
    (counted_at [] placed.before placed.entry placed.behind (subst (AllCountRight []) placed.there right)) in
    let step = subst (λ y. Happens WholeStep (word_in z) (waiting_in z) by.before y by.now) placed.entry_is by.step.0 in
    record {
      before = placed.before;
      entry = placed.entry;
      after = placed.behind;
      there = placed.there;
      front_is = placed.before_is;
      entry_is = placed.entry_is;
      told_are = here.0;
      handed_are = here.1;
      waiting_are = step.0 ∙ ap (λ s. length (line_at z s c)) (state_is z start 0 placed.before by.before by.run);
      queued_are = omega (arith, history_balances z c placed.before by.before by.run, here.2, step.0);
    }
