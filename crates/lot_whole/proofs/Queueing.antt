-- Of each key, as many threads were queued as were taken from its line and are in it still.
use Rattle.std.proofs.Common.{◌≡◌, ◌≢◌, ℕ, ◌+◌, ◌-◌, ◌<◌, ◌≤◌, ◌==◌, true, false, cond as either, List, [], ◌∷◌, ◌++◌, length, drop}
use Rattle.std.proofs.Common.{length-append, refl, sym, ap, subst, ◌∙◌, ⊎_elim, arith, ne_eqb, Some, None}
use Rattle.std.specs.Prelude.{◌&&◌, if◌then◌else◌, nat_lt}
use Rattle.std.proofs.lemmas.Bool.{cases_lt}
use Rattle.std.proofs.lemmas.List.{length-drop}
use Rattle.std.proofs.lemmas.List.Sums.{sum_by-cons}
use Rattle.lot_core.specs.Model.{StateView, Locks, Semaphores, put}
use Rattle.lot_core.specs.Steps.{Allowed, after, seen, first, passed_line, permit_given, seeker_woken}
use Rattle.lot_core.proofs.Put.{by_bit, by_line}
use Rattle.lot_events.specs.declared.events.Event.{Event}
use Rattle.lot_events.specs.declared.events.Event.TheVariants.{Try, Take, Mark, Park, Free, Pass, Enlist, Look, Call, Lower, Sweep, SemTake}
use Rattle.lot_events.specs.declared.events.Event.TheVariants.{SemMark, SemPark, SemFree, SemPass, SemClear}
use Rattle.lot_events.specs.declared.events.Seen.TheVariants.{Bool as Saw}
use Rattle.lot_rights.specs.declared.views.Access.{Access}
use Rattle.lot_rights.specs.declared.views.Access.TheVariants.{Makes, Posts, Collects, Finds, Counts}
use Rattle.lot_rights.specs.declared.views.Entry.{Entry}
use Rattle.lot_rights.specs.History.{Telling, no_letters, Happens, Continues, Run, taken_at, taken_by, taken_in}
use Rattle.lot_rights.specs.World.{number_of}
use Rattle.lot_rights.proofs.Owing.{no_more}
use Rattle.lot_rights.proofs.Puts.{by_test}
use Rattle.lot_whole.specs.Family.{Which, lock, cond, sem, LotSize}
use Rattle.lot_whole.specs.Whole.{WholeStep, word_in, waiting_in, line_in, line_at, IsQueued, HowMany, counts_in, counts_of}
use Rattle.lot_whole.specs.Whole.{opening_of}
use Rattle.lot_whole.specs.Order.{IsLogOf, queued_at, queued_by, queued_in}
use Rattle.lot_whole.proofs.Family.{line_is, line_behind}
use Rattle.lot_whole.proofs.Whole.{counts_after}

module _ (c : ℕ) where
  -- ---- one line
  module _ (line : ℕ → List ℕ) (d : ℕ) where
    -- somebody joins the line of d
    joined : (u : ℕ) → either (c == d) 1 0 + length (line c) ≡ 0 + length (put line d (line d ++ u ∷ []) c)
    joined u = by_test (λ b. either b 1 0 + length (line c) ≡ 0 + length (either b (line d ++ u ∷ []) (line c))) c d
        (λ e. let long = length-append (line d) (u ∷ []) in let same = ap (λ k. length (line k)) e in omega (arith, long, same))
        (λ _. refl)

    -- n leave it
    left : (n : ℕ) (rest : List ℕ) → length (line d) ≡ n + length rest
        → 0 + length (line c) ≡ either (c == d) n 0 + length (put line d rest c)
    left n rest are = by_test (λ b. 0 + length (line c) ≡ either b n 0 + length (either b rest (line c))) c d
        (λ e. let same = ap (λ k. length (line k)) e in omega (arith, are, same)) (λ _. refl)

  -- ---- a line, of whichever key, that stays as it was
  nothing : (d n m : ℕ) → (c ≢ d) → either (c == d) n 0 + m ≡ 0 + m
  nothing d n m ne = ap (λ b. either b n 0 + m) (ne_eqb c d ne)

  idle : (d m : ℕ) → either (c == d) 0 0 + m ≡ 0 + m
  idle d m = ap (λ n. n + m) (no_more (c == d))

  module _ (s : StateView) where
    -- the event queues as many at c as it takes from there, or c's line is longer by the difference
    abbrev Balances : Which → Event → Type 0
    Balances j e = queued_at c e (seen s e) + length (line_in s j c) ≡ taken_at c e (seen s e) + length (line_in (after s e) j c)

    lock_balances : (e : Event) → c < s.lock_count → Allowed s e → Balances lock e
    lock_balances (Try u d) near may =
        let taken : Locks = record s.locks { held = put s.locks.held d true; has = put s.locks.has d (put (s.locks.has d) u true) } in
        by_bit (λ b. 0 + length (s.locks.line c) ≡ 0 + length ((if b then s.locks else taken).line c)) (s.locks.held d) (λ _. refl)
        (λ _. refl)
    lock_balances (Take u d) near may =
        let taken : Locks = record s.locks { held = put s.locks.held d true; has = put s.locks.has d (put (s.locks.has d) u true) } in
        by_bit (λ b. 0 + length (s.locks.line c) ≡ 0 + length ((if b then s.locks else taken).line c)) (s.locks.held d) (λ _. refl)
        (λ _. refl)
    lock_balances (Mark u d) near may = refl
    lock_balances (Park u d) near may =
        let more : Locks = record s.locks { line = put s.locks.line d (s.locks.line d ++ u ∷ []) } in
        by_bit (λ b. queued_at c (Park u d) (Saw b) + length (s.locks.line c) ≡ 0 + length ((if b then more else s.locks).line c))
        (s.locks.held d && s.locks.parked d) (λ _. joined s.locks.line d u) (λ _. idle d (length (s.locks.line c)))
    lock_balances (Free u d) near may =
        let let_go : Locks = record s.locks { held = put s.locks.held d false; has = put s.locks.has d (put (s.locks.has d) u false) } in
        by_bit (λ b. 0 + length (s.locks.line c) ≡ 0 + length ((if b then s.locks else let_go).line c)) (s.locks.parked d) (λ _. refl)
        (λ _. refl)
    lock_balances (Pass u d fair more) near may =
        by_line (λ us. s.locks.line d ≡ us → 0 + length (s.locks.line c)
        ≡ either (c == d) (number_of (first us)) 0 + length ((passed_line s.locks u d fair more us).line c)) (s.locks.line d)
        (λ is _. sym (idle d (length (s.locks.line c))))
        (λ v rest _ is. by_bit (λ b. 0 + length (s.locks.line c)
        ≡ either (c == d) 1 0 + length ((passed_line s.locks u d b more (v ∷ rest)).line c)) fair
        (λ _. left s.locks.line d 1 rest (omega (arith, ap length is)))
        (λ _. left s.locks.line d 1 rest (omega (arith, ap length is)))) refl
    lock_balances (Enlist u d l) near may = nothing d 1 (length (s.locks.line c)) (λ e. omega (arith, near, may.1.0))
    lock_balances (Look u d) near may = refl
    lock_balances (Call u d n more) near may = sym (nothing d _ (length (s.locks.line c)) (λ e. omega (arith, near, may.1.0)))
    lock_balances (Lower u d) near may = refl
    lock_balances (Sweep u d) near may = sym (nothing d _ (length (s.locks.line c)) (λ e. omega (arith, near, may.1.0)))
    lock_balances (SemTake u d) near may = refl
    lock_balances (SemMark u d) near may = refl
    lock_balances (SemPark u d) near may = nothing d _ (length (s.locks.line c)) (λ e. omega (arith, near, may.1.0))
    lock_balances (SemFree u d) near may = refl
    lock_balances (SemPass u d more) near may = sym (nothing d _ (length (s.locks.line c)) (λ e. omega (arith, near, may.1.0)))
    lock_balances (SemClear u d) near may = refl

    cond_balances : (e : Event) → s.lock_count ≤ c → c < s.lock_count + s.cond_count → Allowed s e → Balances cond e
    cond_balances (Try u d) far near may = refl
    cond_balances (Take u d) far near may = refl
    cond_balances (Mark u d) far near may = refl
    cond_balances (Park u d) far near may = nothing d _ (length (s.conds.line c)) (λ e. omega (arith, far, may.1))
    cond_balances (Free u d) far near may = refl
    cond_balances (Pass u d fair more) far near may = sym (nothing d _ (length (s.conds.line c)) (λ e. omega (arith, far, may.1)))
    cond_balances (Enlist u d l) far near may = joined s.conds.line d u
    cond_balances (Look u d) far near may = refl
    cond_balances (Call u d n more) far near may = left s.conds.line d _ (drop n (s.conds.line d))
        (let long = length-drop n (s.conds.line d) in omega (arith, long))
    cond_balances (Lower u d) far near may = refl
    cond_balances (Sweep u d) far near may =
        left s.conds.line d (length (s.conds.line d)) (drop (length (s.conds.line d)) (s.conds.line d))
        (let long = length-drop (length (s.conds.line d)) (s.conds.line d) in omega (arith, long))
    cond_balances (SemTake u d) far near may = refl
    cond_balances (SemMark u d) far near may = refl
    cond_balances (SemPark u d) far near may = nothing d _ (length (s.conds.line c)) (λ e. omega (arith, near, may.1.0))
    cond_balances (SemFree u d) far near may = refl
    cond_balances (SemPass u d more) far near may = sym (nothing d _ (length (s.conds.line c)) (λ e. omega (arith, near, may.1.0)))
    cond_balances (SemClear u d) far near may = refl

    sem_balances : (e : Event) → s.lock_count + s.cond_count ≤ c → Allowed s e → Balances sem e
    sem_balances (Try u d) far may = refl
    sem_balances (Take u d) far may = refl
    sem_balances (Mark u d) far may = refl
    sem_balances (Park u d) far may = nothing d _ (length (s.sems.line c)) (λ e. omega (arith, far, may.1))
    sem_balances (Free u d) far may = refl
    sem_balances (Pass u d fair more) far may = sym (nothing d _ (length (s.sems.line c)) (λ e. omega (arith, far, may.1)))
    sem_balances (Enlist u d l) far may = nothing d 1 (length (s.sems.line c)) (λ e. omega (arith, far, may.1.1))
    sem_balances (Look u d) far may = refl
    sem_balances (Call u d n more) far may = sym (nothing d _ (length (s.sems.line c)) (λ e. omega (arith, far, may.1.1)))
    sem_balances (Lower u d) far may = refl
    sem_balances (Sweep u d) far may = sym (nothing d _ (length (s.sems.line c)) (λ e. omega (arith, far, may.1.1)))
    sem_balances (SemTake u d) far may =
        let taken : Semaphores = record s.sems {
          left = put s.sems.left d (s.sems.left d - 1);
          out = put s.sems.out d (put (s.sems.out d) u (s.sems.out d u + 1));
        } in
        by_bit (λ b. 0 + length (s.sems.line c) ≡ 0 + length ((if b then s.sems else taken).line c)) (s.sems.left d == 0) (λ _. refl)
        (λ _. refl)
    sem_balances (SemMark u d) far may = refl
    sem_balances (SemPark u d) far may =
        let more : Semaphores = record s.sems { line = put s.sems.line d (s.sems.line d ++ u ∷ []) } in
        by_bit (λ b. queued_at c (SemPark u d) (Saw b) + length (s.sems.line c) ≡ 0 + length ((if b then more else s.sems).line c))
        ((s.sems.left d == 0) && s.sems.parked d) (λ _. joined s.sems.line d u) (λ _. idle d (length (s.sems.line c)))
    sem_balances (SemFree u d) far may =
        by_bit (λ b. 0 + length (s.sems.line c) ≡ 0 + length ((if b then s.sems else permit_given s.sems u d).line c)) (s.sems.parked d)
        (λ _. refl) (λ _. refl)
    sem_balances (SemPass u d more) far may =
        by_line (λ us. s.sems.line d ≡ us → 0 + length (s.sems.line c)
        ≡ either (c == d) (number_of (first us)) 0 + length ((seeker_woken (permit_given s.sems u d) d more us).line c)) (s.sems.line d)
        (λ is _. sym (idle d (length (s.sems.line c))))
        (λ v rest _ is. left s.sems.line d 1 rest (omega (arith, ap length is))) refl
    sem_balances (SemClear u d) far may = refl

-- ---- a history
module _ (z : LotSize) (c : ℕ) where
  abbrev waits : StateView → ℕ
  waits s = length (line_at z s c)

  -- the line is that of the key's kind
  balances : (s : StateView) (e : Event) → counts_in s ≡ counts_of z → Allowed s e
      → queued_at c e (seen s e) + waits s ≡ taken_at c e (seen s e) + waits (after s e)
  balances s e same may =
      let locks : s.lock_count ≡ z.locks = ap (λ (h : HowMany). h.locks) same in
      let conds : s.cond_count ≡ z.conds = ap (λ (h : HowMany). h.conds) same in
      ⊎_elim {C = queued_at c e (seen s e) + waits s ≡ taken_at c e (seen s e) + waits (after s e)}
      (λ here. by_line_of lock (λ r. line_is z lock r c (omega arith, omega arith)) (lock_balances c s e (omega arith) may))
      (λ past. ⊎_elim {C = queued_at c e (seen s e) + waits s ≡ taken_at c e (seen s e) + waits (after s e)}
      (λ here. by_line_of cond (λ r. line_is z cond r c (past, here)) (cond_balances c s e (omega arith) (omega arith) may))
      (λ behind. by_line_of sem (λ r. line_behind z r c behind) (sem_balances c s e (omega arith) may))
      (cases_lt c (z.locks + z.conds)))
      (cases_lt c z.locks)
    where
      by_line_of : (j : Which) → ((r : StateView) → line_at z r c ≡ line_in r j c) → Balances c s j e
          → queued_at c e (seen s e) + waits s ≡ taken_at c e (seen s e) + waits (after s e)
      by_line_of j is balanced = omega (arith, ap length (is s), ap length (is (after s e)), balanced)

  rests : (s r : StateView) → r ≡ s → 0 + waits s ≡ 0 + waits r
  rests s r same = ap (λ y. 0 + waits y) (sym same)

  by_access : (a : Telling StateView) (x : Access) (b : Telling StateView) → Happens WholeStep (word_in z) (waiting_in z) a x b
      → counts_in a.part ≡ counts_of z
      → (queued_by c x + waits a.part ≡ taken_by c x + waits b.part) × (counts_in b.part ≡ counts_of z)
  by_access a (Makes e saw) b step same = (
    subst (λ y. queued_at c e y + waits a.part ≡ taken_at c e y + waits b.part) (sym step.0.1)
        (subst (λ y. queued_at c e (seen a.part e) + waits a.part ≡ taken_at c e (seen a.part e) + waits y) (sym step.0.2)
        (balances a.part e same step.0.0)),
    ap counts_in step.0.2 ∙ (counts_after a.part e ∙ same),
  )
  by_access a (Posts d t token) b step same = let is : b.part ≡ a.part = (λ i. (step.1 i).part) in
      (rests a.part b.part is, ap counts_in is ∙ same)
  by_access a (Collects t None) b step same = let is : b.part ≡ a.part = (λ i. (step.1 i).part) in
      (rests a.part b.part is, ap counts_in is ∙ same)
  by_access a (Collects t (Some token)) b step same =
      let is : b.part ≡ a.part = (λ i. (step.1 i).part) in (rests a.part b.part is, ap counts_in is ∙ same)
  by_access a (Finds t d n) b step same = let is : b.part ≡ a.part = (λ i. (step.1 i).part) in
      (rests a.part b.part is, ap counts_in is ∙ same)
  by_access a (Counts t d told handed waiting) b step same =
      let is : b.part ≡ a.part = (λ i. (step.1 i).part) in (rests a.part b.part is, ap counts_in is ∙ same)

  by_log : (a : Telling StateView) (k : ℕ) (log : List Entry) (b : Telling StateView)
      → Run (Continues WholeStep (word_in z) (waiting_in z) IsQueued) a k log b → counts_in a.part ≡ counts_of z
      → queued_in c log + waits a.part ≡ taken_in c log + waits b.part
  by_log a k [] b run same = let is : waits b.part ≡ waits a.part = ap (λ (y : Telling StateView). waits y.part) run in omega (arith, is)
  by_log a k (x ∷ log) b run same =
      let one = by_access a x.access run.1.0 run.1.1.0.0 same in
      let more = by_log run.1.0 (k + 1) log b run.1.1.1 one.1 in
      let queued = sum_by-cons (λ (y : Entry). queued_by c y.access) x log in
      let taken = sum_by-cons (λ (y : Entry). taken_by c y.access) x log in
      omega (arith, one.0, more, queued, taken)

  none_waits : waits (opening_of z) ≡ 0
  none_waits = by_bit (λ b. length {A = ℕ} (if b then [] else (if nat_lt c (z.locks + z.conds) then [] else [])) ≡ 0) (nat_lt c z.locks)
      (λ _. refl)
      (λ _. by_bit (λ b. length {A = ℕ} (if b then [] else []) ≡ 0) (nat_lt c (z.locks + z.conds)) (λ _. refl) (λ _. refl))

  pub history_balances : (log : List Entry) (b : Telling StateView) → IsLogOf z log b → queued_in c log ≡ taken_in c log + waits b.part
  history_balances log b run = omega (arith, by_log (no_letters (opening_of z)) 0 log b run refl, none_waits)
