-- The three parts of a state follow each event of the whole.
use Rattle.std.proofs.Common.{◌≡◌, ◌⊎◌, ◌+◌, ℕ, true, false, List, [], ◌∷◌, Option, Some, None, refl, subst, sym, ap, ◌∙◌, inl, inr}
use Rattle.std.specs.Prelude.{if◌then◌else◌}
use Rattle.std.specs.List.{Contains}
use Rattle.lot_events.specs.declared.events.Point.{Point}
use Rattle.lot_events.specs.declared.events.Point.TheVariants.{Calm, Wants, Bed, Rest, Sweeps, Seeks}
use Rattle.lot_events.specs.declared.events.Event.{Event}
use Rattle.lot_events.specs.declared.events.Event.TheVariants.{Try, Take, Mark, Park, Free, Pass, Enlist, Look, Call, Lower, Sweep, SemTake}
use Rattle.lot_events.specs.declared.events.Event.TheVariants.{SemMark, SemPark, SemFree, SemPass, SemClear}
use Rattle.lot_core.specs.Model.{StateView, Locks, Conds, Semaphores, put}
use Rattle.lot_core.specs.Steps.{IsTrying, IsSeeking, MayLetGo, Allowed, after, seen, released, let_go, handed, none_left, permit_taken}
use Rattle.lot_core.specs.Sound.{IsSound, Waits}
use Rattle.lot_core.specs.Parts.{LockPart, CondPart, SemaphorePart, wanted, swept_by, sought, lock_part, condition_part, semaphore_part}
use Rattle.lot_core.specs.Parts.{MayTry, LockAllowed, served, lock_part_after, lock_seen, IsCalmIn, CondAllowed, cond_part_after, cond_seen}
use Rattle.lot_core.specs.Parts.{PartSeeks, SemaphoreAllowed, semaphore_part_after, semaphore_seen}
use Rattle.lot_core.specs.Parts.{IsLockEvent, IsCondEvent, IsSemaphoreEvent, StandsBefore, AsksOfThread}
use Rattle.lot_core.specs.Parts.{LockPartAllows, CondPartAllows, SemaphorePartAllows, LockPartFollows, CondPartFollows}
use Rattle.lot_core.specs.Parts.{SemaphorePartFollows}
use Rattle.lot_core.specs.Rows.{told}
use Rattle.lot_core.proofs.Put.{by_bit, told_put, told_same}
use Rattle.lot_core.proofs.Members.{in_head}
use Rattle.lot_core.proofs.Permits.{IsKeptPart, part_kept}

-- the parts with another word on points
pub lock_part_by : (s : StateView) (locks : Locks) (point : ℕ → Point) (wants : ℕ → Option ℕ) → told wanted point ≡ wants →
    lock_part (record s { locks = locks; point = point }) ≡ record { locks = locks; wants = wants }
lock_part_by s locks point wants e = ap (λ (w : ℕ → Option ℕ). let a : LockPart = record { locks = locks; wants = w } in a) e

pub cond_part_by : (s : StateView) (conds : Conds) (point : ℕ → Point) (sweeps : ℕ → Option ℕ) → told swept_by point ≡ sweeps →
    condition_part (record s { conds = conds; point = point }) ≡ record { conds = conds; sweeps = sweeps }
cond_part_by s conds point sweeps e = ap (λ (w : ℕ → Option ℕ). let a : CondPart = record { conds = conds; sweeps = w } in a) e

pub semaphore_part_by : (s : StateView) (sems : Semaphores) (point : ℕ → Point) (seeks : ℕ → Option ℕ) → told sought point ≡ seeks →
    semaphore_part (record s { sems = sems; point = point }) ≡ record { sems = sems; seeks = seeks }
semaphore_part_by s sems point seeks e = ap (λ (w : ℕ → Option ℕ). let a : SemaphorePart = record { sems = sems; seeks = w } in a) e

-- f tells nothing of the points at which a lock event's thread can stand
pub record IsBlind (f : Point → Option ℕ) : Type 0 where
  pub calm : f Calm ≡ None
  pub wants : (l : ℕ) → f (Wants l) ≡ None
  pub bed : (c l : ℕ) → f (Bed c l) ≡ None
  pub rest : (c l : ℕ) → f (Rest c l) ≡ None

pub swept_blind : IsBlind swept_by
swept_blind = record { calm = refl; wants = λ l. refl; bed = λ c l. refl; rest = λ c l. refl }

pub sought_blind : IsBlind sought
sought_blind = record { calm = refl; wants = λ l. refl; bed = λ c l. refl; rest = λ c l. refl }

-- a lock that is let go
pub blind_released : (f : Point → Option ℕ) → IsBlind f → (p : Point) → f (released p) ≡ f p
blind_released f blind (Bed c l) = blind.rest c l ∙ sym (blind.bed c l)
blind_released f blind _ = refl

pub wanted_released : (p : Point) → wanted (released p) ≡ wanted p
wanted_released (Bed c l) = refl
wanted_released _ = refl

pub told_released : (f : Point → Option ℕ) → ((p : Point) → f (released p) ≡ f p) → (s : StateView) (t : ℕ)
    → told f (let_go s.point t) ≡ told f s.point
told_released f same s t = told_same f s.point t (released (s.point t)) (same (s.point t))

-- the threads in the locks' lines stand where they want that lock
abbrev pub SleepersWant : StateView → Type 0
SleepersWant s = (l t : ℕ) → Contains (s.locks.line l) t → s.point t ≡ Wants l

pub taker_untold : (f : Point → Option ℕ) → IsBlind f → (s : StateView) (t l : ℕ) → ((s.point t ≡ Calm) ⊎ IsTrying s t l)
    → f (s.point t) ≡ None
taker_untold f blind s t l (inl calm) = ap f calm ∙ blind.calm
taker_untold f blind s t l (inr (inl x)) = ap f x.0 ∙ blind.wants l
taker_untold f blind s t l (inr (inr x)) = ap f x.1 ∙ blind.rest x.0 l

-- the first of a line, to whom a lock is handed
pub handed_untold : (f : Point → Option ℕ) → IsBlind f → (s : StateView) (t l : ℕ) (xs : List ℕ) → SleepersWant s → s.locks.line l ≡ xs →
    told f (handed (let_go s.point t) xs) ≡ told f s.point
handed_untold f blind s t l [] wants is = told_released f (blind_released f blind) s t
handed_untold f blind s t l (u ∷ rest) wants is =
    let same : told f (let_go s.point t) ≡ told f s.point = told_released f (blind_released f blind) s t in
    let at : s.point u ≡ Wants l = wants l u (subst (λ ys. Contains ys u) (sym is) (in_head u rest)) in
    let before : f (let_go s.point t u) ≡ None = ap (λ (g : ℕ → Option ℕ). g u) same ∙ ap f at ∙ blind.wants l in
    told_same f (let_go s.point t) u Calm (blind.calm ∙ sym before) ∙ same

-- so such an f tells nothing of a lock event
pub take_untold : (f : Point → Option ℕ) → IsBlind f → (s : StateView) (t l : ℕ) → ((s.point t ≡ Calm) ⊎ IsTrying s t l) →
    told f (put s.point t (if s.locks.held l then Wants l else Calm)) ≡ told f s.point
take_untold f blind s t l may =
    told_same f s.point t (if s.locks.held l then Wants l else Calm)
    (by_bit (λ b. f (if b then Wants l else Calm) ≡ None) (s.locks.held l) (λ e. blind.wants l) (λ e. blind.calm)
    ∙ sym (taker_untold f blind s t l may))

pub free_untold : (f : Point → Option ℕ) → ((p : Point) → f (released p) ≡ f p) → (s : StateView) (t l : ℕ) →
    told f (if s.locks.parked l then s.point else let_go s.point t) ≡ told f s.point
free_untold f same s t l =
    by_bit (λ b. told f (if b then s.point else let_go s.point t) ≡ told f s.point) (s.locks.parked l) (λ e. refl)
    (λ e. told_released f same s t)

-- a thread that seeks a permit, or is calm, goes to one of these points
pub sem_take_untold : (f : Point → Option ℕ) → f Calm ≡ None → ((k : ℕ) → f (Seeks k) ≡ None) → (s : StateView) (t k : ℕ) →
    ((s.point t ≡ Calm) ⊎ IsSeeking s t k) → told f (put s.point t (if none_left s.sems k then Seeks k else Calm)) ≡ told f s.point
sem_take_untold f calm seeks s t k may =
    told_same f s.point t (if none_left s.sems k then Seeks k else Calm)
    (by_bit (λ b. f (if b then Seeks k else Calm) ≡ None) (none_left s.sems k) (λ e. seeks k) (λ e. calm) ∙ sym (before may))
  where
    before : ((s.point t ≡ Calm) ⊎ IsSeeking s t k) → f (s.point t) ≡ None
    before (inl is) = ap f is ∙ calm
    before (inr x) = ap f x.0 ∙ seeks k

-- Changes.

pub wants_served : (s : StateView) (t : ℕ) (xs : List ℕ) →
    told wanted (handed (let_go s.point t) xs) ≡ served (told wanted s.point) xs
wants_served s t [] = told_released wanted wanted_released s t
wants_served s t (u ∷ rest) =
    told_put wanted (let_go s.point t) u Calm ∙ ap (λ (w : ℕ → Option ℕ). put w u None) (told_released wanted wanted_released s t)

pub lock_part_follows : (s : StateView) (e : Event) → Allowed s e → lock_part (after s e) ≡ lock_part_after (lock_part s) e
lock_part_follows s (Take t l) ok = lock_part_by s _ _ _
    (told_put wanted s.point t (if s.locks.held l then Wants l else Calm)
    ∙ ap (put (told wanted s.point) t)
    (by_bit (λ b. wanted (if b then Wants l else Calm) ≡ (if b then Some l else None)) (s.locks.held l) (λ e. refl) (λ e. refl)))
lock_part_follows s (Free t l) ok = lock_part_by s _ _ _ (free_untold wanted wanted_released s t l)
lock_part_follows s (Pass t l true more) ok = lock_part_by s _ _ _ (wants_served s t (s.locks.line l))
lock_part_follows s (Pass t l false more) ok = lock_part_by s _ _ _ (told_released wanted wanted_released s t)
lock_part_follows s (Enlist t c l) ok = lock_part_by s _ _ _ (told_same wanted s.point t (Bed c l) (sym (ap wanted ok.3)))
lock_part_follows s (Lower t c) ok = lock_part_by s _ _ _ (told_same wanted s.point t (Sweeps c) (sym (ap wanted ok.2)))
lock_part_follows s (Sweep t c) ok = lock_part_by s _ _ _ (told_same wanted s.point t Calm (sym (ap wanted ok.2)))
lock_part_follows s (SemTake t k) ok = lock_part_by s _ _ _ (sem_take_untold wanted refl (λ k. refl) s t k ok.2)
lock_part_follows s _ ok = refl

pub cond_part_follows : (s : StateView) (e : Event) → SleepersWant s → Allowed s e → condition_part (after s e) ≡ cond_part_after (condition_part s) e
cond_part_follows s (Take t l) h ok = cond_part_by s _ _ _ (take_untold swept_by swept_blind s t l ok.2)
cond_part_follows s (Free t l) h ok = cond_part_by s _ _ _ (free_untold swept_by (blind_released swept_by swept_blind) s t l)
cond_part_follows s (Pass t l true more) h ok = cond_part_by s _ _ _ (handed_untold swept_by swept_blind s t l (s.locks.line l) h refl)
cond_part_follows s (Pass t l false more) h ok = cond_part_by s _ _ _ (told_released swept_by (blind_released swept_by swept_blind) s t)
cond_part_follows s (Enlist t c l) h ok = cond_part_by s _ _ _ (told_same swept_by s.point t (Bed c l) (sym (ap swept_by ok.3)))
cond_part_follows s (Lower t c) h ok = cond_part_by s _ _ _ (told_put swept_by s.point t (Sweeps c))
cond_part_follows s (Sweep t c) h ok = cond_part_by s _ _ _ (told_put swept_by s.point t Calm)
cond_part_follows s (SemTake t k) h ok = cond_part_by s _ _ _ (sem_take_untold swept_by refl (λ k. refl) s t k ok.2)
cond_part_follows s _ h ok = refl

pub semaphore_part_follows : (s : StateView) (e : Event) → SleepersWant s → Allowed s e
    → semaphore_part (after s e) ≡ semaphore_part_after (semaphore_part s) e
semaphore_part_follows s (Take t l) h ok = semaphore_part_by s _ _ _ (take_untold sought sought_blind s t l ok.2)
semaphore_part_follows s (Free t l) h ok = semaphore_part_by s _ _ _ (free_untold sought (blind_released sought sought_blind) s t l)
semaphore_part_follows s (Pass t l true more) h ok =
    semaphore_part_by s _ _ _ (handed_untold sought sought_blind s t l (s.locks.line l) h refl)
semaphore_part_follows s (Pass t l false more) h ok =
    semaphore_part_by s _ _ _ (told_released sought (blind_released sought sought_blind) s t)
semaphore_part_follows s (Enlist t c l) h ok = semaphore_part_by s _ _ _ (told_same sought s.point t (Bed c l) (sym (ap sought ok.3)))
semaphore_part_follows s (Lower t c) h ok = semaphore_part_by s _ _ _ (told_same sought s.point t (Sweeps c) (sym (ap sought ok.2)))
semaphore_part_follows s (Sweep t c) h ok = semaphore_part_by s _ _ _ (told_same sought s.point t Calm (sym (ap sought ok.2)))
semaphore_part_follows s (SemTake t k) h ok = semaphore_part_by s (permit_taken s.sems t k) _ _
    (told_put sought s.point t (if none_left s.sems k then Seeks k else Calm)
    ∙ ap (put (told sought s.point) t)
    (by_bit (λ b. sought (if b then Seeks k else Calm) ≡ (if b then Some k else None)) (none_left s.sems k) (λ e. refl) (λ e. refl)))
semaphore_part_follows s _ h ok = refl

-- What is seen.

pub lock_seen_follows : (s : StateView) (e : Event) → IsLockEvent e → seen s e ≡ lock_seen (lock_part s) e
lock_seen_follows s (Try t l) is = refl
lock_seen_follows s (Take t l) is = refl
lock_seen_follows s (Mark t l) is = refl
lock_seen_follows s (Park t l) is = refl
lock_seen_follows s (Free t l) is = refl
lock_seen_follows s (Pass t l fair more) is = refl
lock_seen_follows s _ is = absurd is

pub cond_seen_follows : (s : StateView) (e : Event) → IsCondEvent e → seen s e ≡ cond_seen (condition_part s) e
cond_seen_follows s (Enlist t c l) is = refl
cond_seen_follows s (Look t c) is = refl
cond_seen_follows s (Call t c n more) is = refl
cond_seen_follows s (Lower t c) is = refl
cond_seen_follows s (Sweep t c) is = refl
cond_seen_follows s _ is = absurd is

pub semaphore_seen_follows : (s : StateView) (e : Event) → IsSemaphoreEvent e → seen s e ≡ semaphore_seen (semaphore_part s) e
semaphore_seen_follows s (SemTake t k) is = refl
semaphore_seen_follows s (SemMark t k) is = refl
semaphore_seen_follows s (SemPark t k) is = refl
semaphore_seen_follows s (SemFree t k) is = refl
semaphore_seen_follows s (SemPass t k more) is = refl
semaphore_seen_follows s (SemClear t k) is = refl
semaphore_seen_follows s _ is = absurd is

-- An event of another kind leaves a part as it is.

pub lock_part_stays : (a : LockPart) (e : Event) → (IsLockEvent e → ⊥) → lock_part_after a e ≡ a
lock_part_stays a (Try t l) other = absurd (other tt)
lock_part_stays a (Take t l) other = absurd (other tt)
lock_part_stays a (Mark t l) other = absurd (other tt)
lock_part_stays a (Park t l) other = absurd (other tt)
lock_part_stays a (Free t l) other = absurd (other tt)
lock_part_stays a (Pass t l fair more) other = absurd (other tt)
lock_part_stays a _ other = refl

pub cond_part_stays : (a : CondPart) (e : Event) → (IsCondEvent e → ⊥) → cond_part_after a e ≡ a
cond_part_stays a (Enlist t c l) other = absurd (other tt)
cond_part_stays a (Look t c) other = absurd (other tt)
cond_part_stays a (Call t c n more) other = absurd (other tt)
cond_part_stays a (Lower t c) other = absurd (other tt)
cond_part_stays a (Sweep t c) other = absurd (other tt)
cond_part_stays a _ other = refl

pub semaphore_part_stays : (a : SemaphorePart) (e : Event) → (IsSemaphoreEvent e → ⊥) → semaphore_part_after a e ≡ a
semaphore_part_stays a (SemTake t k) other = absurd (other tt)
semaphore_part_stays a (SemMark t k) other = absurd (other tt)
semaphore_part_stays a (SemPark t k) other = absurd (other tt)
semaphore_part_stays a (SemFree t k) other = absurd (other tt)
semaphore_part_stays a (SemPass t k more) other = absurd (other tt)
semaphore_part_stays a (SemClear t k) other = absurd (other tt)
semaphore_part_stays a _ other = refl

-- Where an event is allowed.

pub may_try : (s : StateView) (t l : ℕ) → IsTrying s t l → MayTry (lock_part s) t l
may_try s t l (inl x) = inr (ap wanted x.0, x.1)
may_try s t l (inr x) = inl (ap wanted x.1)

pub may_take : (s : StateView) (t l : ℕ) → ((s.point t ≡ Calm) ⊎ IsTrying s t l) → MayTry (lock_part s) t l
may_take s t l (inl calm) = inl (ap wanted calm)
may_take s t l (inr try) = may_try s t l try

pub releaser_wants : (s : StateView) (t l : ℕ) → MayLetGo s t l → wanted (s.point t) ≡ None
releaser_wants s t l (inl calm) = ap wanted calm
releaser_wants s t l (inr (c, bed)) = ap wanted bed

pub part_seeks : (s : StateView) (t k : ℕ) → IsSeeking s t k → PartSeeks (semaphore_part s) t k
part_seeks s t k x = (ap sought x.0, x.1)

pub may_seek : (s : StateView) (t k : ℕ) → ((s.point t ≡ Calm) ⊎ IsSeeking s t k) → (sought (s.point t) ≡ None)
    ⊎ PartSeeks (semaphore_part s) t k
may_seek s t k (inl calm) = inl (ap sought calm)
may_seek s t k (inr x) = inr (part_seeks s t k x)

pub lock_allowed : (s : StateView) (e : Event) → Allowed s e → IsLockEvent e → LockAllowed s.threads s.lock_count (lock_part s) e
lock_allowed s (Try t l) ok is = (ok.0, ok.1, ap wanted ok.2)
lock_allowed s (Take t l) ok is = (ok.0, ok.1, may_take s t l ok.2)
lock_allowed s (Mark t l) ok is = (ok.0, ok.1, may_try s t l ok.2, ok.3)
lock_allowed s (Park t l) ok is = (ok.0, ok.1, ap wanted ok.2, ok.3)
lock_allowed s (Free t l) ok is = (ok.0, ok.1, ok.2, releaser_wants s t l ok.3)
lock_allowed s (Pass t l fair more) ok is = (ok.0, ok.1, ok.2, ok.3, releaser_wants s t l ok.4, ok.5)
lock_allowed s _ ok is = absurd is

-- who waits on a condition is not calm
at_no_point : (c l : ℕ) (p : Point) → ((p ≡ Bed c l) ⊎ (p ≡ Rest c l)) → p ≡ Calm → ⊥
at_no_point c l p (inl bed) calm = let e : Bed c l ≡ Calm = sym bed ∙ calm in cc
at_no_point c l p (inr rest) calm = let e : Rest c l ≡ Calm = sym rest ∙ calm in cc

-- who is calm in a sound state is so in the condition part
calm_in : (s : StateView) (t : ℕ) → ((c u : ℕ) → Contains (s.conds.line c) u → Waits s.point c u) → s.point t ≡ Calm
    → IsCalmIn (condition_part s) t
calm_in s t waits calm = (ap swept_by calm, (λ c h. at_no_point c (waits c t h).0 (s.point t) (waits c t h).1 calm))

pub cond_allowed : (s : StateView) (e : Event) → ((c u : ℕ) → Contains (s.conds.line c) u → Waits s.point c u) → Allowed s e
    → IsCondEvent e →
    CondAllowed s.threads s.lock_count s.cond_count (condition_part s) e
cond_allowed s (Enlist t c l) waits ok is = (ok.0, ok.1, ok.2, calm_in s t waits ok.3)
cond_allowed s (Look t c) waits ok is = (ok.0, ok.1, calm_in s t waits ok.2)
cond_allowed s (Call t c n more) waits ok is = (ok.0, ok.1, calm_in s t waits ok.2, ok.3, ok.4)
cond_allowed s (Lower t c) waits ok is = (ok.0, ok.1, calm_in s t waits ok.2)
cond_allowed s (Sweep t c) waits ok is = (ok.0, ok.1, ap swept_by ok.2)
cond_allowed s _ waits ok is = absurd is

pub semaphore_allowed : (s : StateView) (e : Event) → Allowed s e → IsSemaphoreEvent e →
    SemaphoreAllowed s.threads (s.lock_count + s.cond_count) s.sem_count (semaphore_part s) e
semaphore_allowed s (SemTake t k) ok is = (ok.0, ok.1, may_seek s t k ok.2)
semaphore_allowed s (SemMark t k) ok is = (ok.0, ok.1, part_seeks s t k ok.2, ok.3)
semaphore_allowed s (SemPark t k) ok is = (ok.0, ok.1, part_seeks s t k ok.2)
semaphore_allowed s (SemFree t k) ok is = (ok.0, ok.1, ap sought ok.2, ok.3)
semaphore_allowed s (SemPass t k more) ok is = (ok.0, ok.1, ap sought ok.2, ok.3, ok.4)
semaphore_allowed s (SemClear t k) ok is = (ok.0, ok.1, ap sought ok.2, ok.3)
semaphore_allowed s _ ok is = absurd is

-- the other way round: the part and the thread allow the event
wanted_is : (p : Point) (l : ℕ) → wanted p ≡ Some l → p ≡ Wants l
wanted_is (Wants k) l e = let same : k ≡ l = cc in ap Wants same
wanted_is _ l e = absurd (cc)

swept_by_is : (p : Point) (c : ℕ) → swept_by p ≡ Some c → p ≡ Sweeps c
swept_by_is (Sweeps d) c e = let same : d ≡ c = cc in ap Sweeps same
swept_by_is _ c e = absurd (cc)

pub sought_is : (p : Point) (k : ℕ) → sought p ≡ Some k → p ≡ Seeks k
sought_is (Seeks j) k e = let same : j ≡ k = cc in ap Seeks same
sought_is _ k e = absurd (cc)

stands_before : (s : StateView) (t l : ℕ) → IsTrying s t l → StandsBefore s t l
stands_before s t l (inl x) = inl x.0
stands_before s t l (inr x) = inr x

tries : (s : StateView) (t l : ℕ) → MayTry (lock_part s) t l → StandsBefore s t l → IsTrying s t l
tries s t l (inl none) (inl wants) = let some = ap wanted wants in absurd (cc)
tries s t l (inr x) (inl wants) = inl (wants, x.1)
tries s t l may (inr rests) = inr rests

takes_asked : (s : StateView) (t l : ℕ) → ((s.point t ≡ Calm) ⊎ IsTrying s t l) → (s.point t ≡ Calm) ⊎ StandsBefore s t l
takes_asked s t l (inl calm) = inl calm
takes_asked s t l (inr try) = inr (stands_before s t l try)

takes : (s : StateView) (t l : ℕ) → MayTry (lock_part s) t l → ((s.point t ≡ Calm) ⊎ StandsBefore s t l)
    → (s.point t ≡ Calm) ⊎ IsTrying s t l
takes s t l may (inl calm) = inl calm
takes s t l may (inr stands) = inr (tries s t l may stands)

sem_takes_asked : (s : StateView) (t k : ℕ) → ((s.point t ≡ Calm) ⊎ IsSeeking s t k) → (s.point t ≡ Calm) ⊎ (s.point t ≡ Seeks k)
sem_takes_asked s t k (inl calm) = inl calm
sem_takes_asked s t k (inr x) = inr x.0

sem_takes : (s : StateView) (t k : ℕ) → (sought (s.point t) ≡ None) ⊎ PartSeeks (semaphore_part s) t k
    → ((s.point t ≡ Calm) ⊎ (s.point t ≡ Seeks k)) →
    (s.point t ≡ Calm) ⊎ IsSeeking s t k
sem_takes s t k may (inl calm) = inl calm
sem_takes s t k (inl none) (inr seeks) = let some = ap sought seeks in absurd (cc)
sem_takes s t k (inr x) (inr seeks) = inr (seeks, x.1)

seeks_alone : (s : StateView) (t k : ℕ) → PartSeeks (semaphore_part s) t k → IsSeeking s t k
seeks_alone s t k x = (sought_is (s.point t) k x.0, x.1)

asked : (s : StateView) (e : Event) → Allowed s e → AsksOfThread s e
asked s (Take t l) ok = takes_asked s t l ok.2
asked s (Mark t l) ok = stands_before s t l ok.2
asked s (Park t l) ok = tt
asked s (Free t l) ok = ok.3
asked s (Pass t l fair more) ok = ok.4
asked s (Enlist t c l) ok = (ok.3, ok.4)
asked s (Sweep t c) ok = tt
asked s (SemTake t k) ok = sem_takes_asked s t k ok.2
asked s (SemMark t k) ok = tt
asked s (SemPark t k) ok = tt
asked s _ ok = ok.2

lock_allows : (s : StateView) (e : Event) → LockAllowed s.threads s.lock_count (lock_part s) e → AsksOfThread s e → Allowed s e
lock_allows s (Try t l) ok asks = (ok.0, ok.1, asks)
lock_allows s (Take t l) ok asks = (ok.0, ok.1, takes s t l ok.2 asks)
lock_allows s (Mark t l) ok asks = (ok.0, ok.1, tries s t l ok.2 asks, ok.3)
lock_allows s (Park t l) ok asks = (ok.0, ok.1, wanted_is (s.point t) l ok.2, ok.3)
lock_allows s (Free t l) ok asks = (ok.0, ok.1, ok.2, asks)
lock_allows s (Pass t l fair more) ok asks = (ok.0, ok.1, ok.2, ok.3, asks, ok.5)
lock_allows s _ ok asks = absurd ok

cond_allows : (s : StateView) (e : Event) → CondAllowed s.threads s.lock_count s.cond_count (condition_part s) e → AsksOfThread s e → Allowed s e
cond_allows s (Enlist t c l) ok asks = (ok.0, ok.1, ok.2, asks.0, asks.1)
cond_allows s (Look t c) ok asks = (ok.0, ok.1, asks)
cond_allows s (Call t c n more) ok asks = (ok.0, ok.1, asks, ok.3, ok.4)
cond_allows s (Lower t c) ok asks = (ok.0, ok.1, asks)
cond_allows s (Sweep t c) ok asks = (ok.0, ok.1, swept_by_is (s.point t) c ok.2)
cond_allows s _ ok asks = absurd ok

semaphore_allows : (s : StateView) (e : Event) → SemaphoreAllowed s.threads (s.lock_count + s.cond_count) s.sem_count (semaphore_part s) e →
    AsksOfThread s e → Allowed s e
semaphore_allows s (SemTake t k) ok asks = (ok.0, ok.1, sem_takes s t k ok.2 asks)
semaphore_allows s (SemMark t k) ok asks = (ok.0, ok.1, seeks_alone s t k ok.2, ok.3)
semaphore_allows s (SemPark t k) ok asks = (ok.0, ok.1, seeks_alone s t k ok.2)
semaphore_allows s (SemFree t k) ok asks = (ok.0, ok.1, asks, ok.3)
semaphore_allows s (SemPass t k more) ok asks = (ok.0, ok.1, asks, ok.3, ok.4)
semaphore_allows s (SemClear t k) ok asks = (ok.0, ok.1, asks, ok.3)
semaphore_allows s _ ok asks = absurd ok

-- The laws.

pub lock_follows : (s : StateView) (e : Event) → Allowed s e → LockPartFollows s e
lock_follows s e ok = record {
  steps = λ is. (lock_allowed s e ok is, lock_seen_follows s e is, lock_part_follows s e ok);
  stays = λ other. lock_part_follows s e ok ∙ lock_part_stays (lock_part s) e other;
}

sleepers_want : (s : StateView) → IsSound s → SleepersWant s
sleepers_want s h l t inside = (h.one_line_each.wants l t inside).1

sleepers_wait : (s : StateView) → IsSound s → (c t : ℕ) → Contains (s.conds.line c) t → Waits s.point c t
sleepers_wait s h c t inside = (h.one_line_each.waits c t inside).1

pub cond_follows : (s : StateView) (e : Event) → IsSound s → Allowed s e → CondPartFollows s e
cond_follows s e h ok =
    let follows = cond_part_follows s e (sleepers_want s h) ok in
    record {
      steps = λ is. (cond_allowed s e (sleepers_wait s h) ok is, cond_seen_follows s e is, follows);
      stays = λ other. follows ∙ cond_part_stays (condition_part s) e other;
    }

pub semaphore_follows : (s : StateView) (e : Event) → IsSound s → Allowed s e → SemaphorePartFollows s e
semaphore_follows s e h ok =
    let follows = semaphore_part_follows s e (sleepers_want s h) ok in
    record {
      steps = λ is. (semaphore_allowed s e ok is, semaphore_seen_follows s e is, follows);
      stays = λ other. follows ∙ semaphore_part_stays (semaphore_part s) e other;
    }

pub lock_part_allows : (s : StateView) (e : Event) → LockPartAllows s e
lock_part_allows s e is = ((λ ok. (lock_allowed s e ok is, asked s e ok)), (λ both. lock_allows s e both.0 both.1))

pub cond_part_allows : (s : StateView) (e : Event) → IsSound s → CondPartAllows s e
cond_part_allows s e h is = ((λ ok. (cond_allowed s e (sleepers_wait s h) ok is, asked s e ok)), (λ both. cond_allows s e both.0 both.1))

pub semaphore_part_allows : (s : StateView) (e : Event) → SemaphorePartAllows s e
semaphore_part_allows s e is = ((λ ok. (semaphore_allowed s e ok is, asked s e ok)), (λ both. semaphore_allows s e both.0 both.1))

-- an event of the whole keeps the semaphore part
pub part_after : (s : StateView) (e : Event) → IsKeptPart s.threads s.permits (semaphore_part s) → Allowed s e →
    IsKeptPart s.threads s.permits (semaphore_part_after (semaphore_part s) e)
part_after s (SemTake t k) h ok =
    part_kept s.threads _ s.sem_count s.permits (semaphore_part s) (SemTake t k) h (semaphore_allowed s (SemTake t k) ok tt)
part_after s (SemMark t k) h ok =
    part_kept s.threads _ s.sem_count s.permits (semaphore_part s) (SemMark t k) h (semaphore_allowed s (SemMark t k) ok tt)
part_after s (SemPark t k) h ok =
    part_kept s.threads _ s.sem_count s.permits (semaphore_part s) (SemPark t k) h (semaphore_allowed s (SemPark t k) ok tt)
part_after s (SemFree t k) h ok =
    part_kept s.threads _ s.sem_count s.permits (semaphore_part s) (SemFree t k) h (semaphore_allowed s (SemFree t k) ok tt)
part_after s (SemPass t k more) h ok = part_kept s.threads _ s.sem_count s.permits (semaphore_part s) (SemPass t k more) h
    (semaphore_allowed s (SemPass t k more) ok tt)
part_after s (SemClear t k) h ok =
    part_kept s.threads _ s.sem_count s.permits (semaphore_part s) (SemClear t k) h (semaphore_allowed s (SemClear t k) ok tt)
part_after s _ h ok = h
