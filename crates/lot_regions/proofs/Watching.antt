-- What an event that keeps the watch leaves.
use Rattle.std.proofs.Common.{◌≡◌, ◌≢◌, ℕ, zero, suc, ◌≤◌, ◌++◌, Bool, true, false, List, [], ◌∷◌, length, take, drop, Option, Some, None}
use Rattle.std.proofs.Common.{refl, subst, sym, ap, ◌∙◌, inl, inr, ◌⊎◌, arith}
use Rattle.std.proofs.Math.Seq.{drop-nil, drop-length}
use Rattle.std.specs.Prelude.{if◌then◌else◌, ◌==◌, ◌&&◌, not, nat_eq}
use Rattle.std.specs.List.{Contains, list_any}
use Rattle.std.proofs.lemmas.List.{take-append-drop}
use Rattle.std.proofs.lemmas.List.Elements.{Contains-append_left}
use Rattle.std.proofs.lemmas.List.Elements.{Contains-append_cases, Contains-push_cases}
use Rattle.lot_events.specs.declared.events.Point.{Point}
use Rattle.lot_events.specs.declared.events.Point.TheVariants.{Calm, Wants, Bed, Rest, Sweeps, Seeks}
use Rattle.lot_events.specs.declared.events.Event.{Event}
use Rattle.lot_events.specs.declared.events.Event.TheVariants.{Try, Take, Mark, Park, Free, Pass, Enlist, Look, Call, Lower, Sweep, SemTake}
use Rattle.lot_events.specs.declared.events.Event.TheVariants.{SemMark, SemPark, SemFree, SemPass, SemClear}
use Rattle.lot_core.specs.Model.{StateView, Locks, Semaphores, put, opening_with}
use Rattle.lot_core.specs.Steps.{IsThread, IsTrying, IsSeeking, Allowed, after, none_left, released, let_go, handed}
use Rattle.lot_core.specs.Sound.{IsSound, IsOnce, Waits}
use Rattle.lot_core.proofs.Put.{at_all, put_same, put_other}
use Rattle.lot_core.proofs.Members.{in_head, in_none, in_drop, head_left, once_tail}
use Rattle.lot_core.proofs.Kept.{joined}
use Rattle.lot_core.proofs.Permits.{found, not_found}
use Rattle.lot_core.proofs.Law.{sound_kept}
use Rattle.lot_regions.specs.Watch.{Watch, is_calm, IsCalmOrSweeps, opening_watch, OwesNothing, pays, IsDueFor, state_after, called_beside}
use Rattle.lot_regions.specs.Watch.{leaves, watch_after, KeepsWatch, IsWatched, WatchedRun, watch_after_all, NoneIsForgotten}

-- ---- lines
in_first : (x : ℕ) (xs : List ℕ) (u : ℕ) → Contains (x ∷ xs) u → (x ≡ u) ⊎ Contains xs u
in_first x xs u inside = elim (Contains-append_cases (x ∷ []) xs u inside) [
  | inl one ↦ elim (Contains-push_cases [] x u one) [ inl none ↦ absurd (in_none u none) | inr e ↦ inl e ]
  | inr rest ↦ inr rest
]

-- who is among the first n is not behind them
first_not_behind : (n : ℕ) (xs : List ℕ) (u : ℕ) → IsOnce xs → Contains (take n xs) u → Contains (drop n xs) u → ⊥
first_not_behind zero xs u once first behind = in_none u first
first_not_behind (suc n) [] u once first behind = in_none u first
first_not_behind (suc n) (x ∷ xs) u once first behind = elim (in_first x (take n xs) u first) [
  | inl e ↦ head_left x xs once (subst (Contains xs) (sym e) (in_drop n xs u behind))
  | inr rest ↦ first_not_behind n xs u (once_tail x xs once) rest behind
]

in_take : (n : ℕ) (xs : List ℕ) (u : ℕ) → Contains (take n xs) u → Contains xs u
in_take n xs u inside = subst (λ ys. Contains ys u) (take-append-drop n xs) (Contains-append_left (take n xs) (drop n xs) u inside)

-- of a line in which somebody stands, somebody is among the first n
some_first : (n : ℕ) (xs : List ℕ) → 1 ≤ n → xs ≢ [] → (u : ℕ) × Contains (take n xs) u
some_first zero xs one some = absurd (omega (arith, one))
some_first (suc n) [] one some = absurd (some refl)
some_first (suc n) (x ∷ xs) one some = (x, in_head x (take n xs))

-- ---- points
-- each thread that sweeps stays as it is, and each that is awake stays awake
record IsSteady (point point' : ℕ → Point) : Type 0 where
  sweeping : (u c : ℕ) → point u ≡ Sweeps c → point' u ≡ Sweeps c
  waking : (u : ℕ) → IsCalmOrSweeps (point u) → IsCalmOrSweeps (point' u)

same_points : (point : ℕ → Point) → IsSteady point point
same_points point = record { sweeping = λ u c is. is; waking = λ u awake. awake }

steady_twice : (a b c : ℕ → Point) → IsSteady a b → IsSteady b c → IsSteady a c
steady_twice a b c x y = record {
  sweeping = λ u d is. y.sweeping u d (x.sweeping u d is);
  waking = λ u awake. y.waking u (x.waking u awake);
}

let_go_steady : (point : ℕ → Point) (t : ℕ) → IsSteady point (let_go point t)
let_go_steady point t = record {
  sweeping = λ u c. at_all (λ u b. point u ≡ Sweeps c → (if b then released (point t) else point u) ≡ Sweeps c) t
      (λ is. ap released is) (λ u ne is. is) u;
  waking = at_all (λ u b. IsCalmOrSweeps (point u) → IsCalmOrSweeps (if b then released (point t) else point u)) t
      (λ awake. elim awake [ inl e ↦ inl (ap released e) | inr x ↦ inr (x.0, ap released x.1) ]) (λ u ne awake. awake);
}

-- one that sweeps nothing becomes calm
calmed_steady : (point : ℕ → Point) (t : ℕ) → ((c : ℕ) → point t ≡ Sweeps c → ⊥) → IsSteady point (put point t Calm)
calmed_steady point t not_sweeping = record {
  sweeping = λ u c. at_all (λ u b. point u ≡ Sweeps c → (if b then Calm else point u) ≡ Sweeps c) t
      (λ is. absurd (not_sweeping c is)) (λ u ne is. is) u;
  waking = at_all (λ u b. IsCalmOrSweeps (point u) → IsCalmOrSweeps (if b then Calm else point u)) t
      (λ awake. inl refl) (λ u ne awake. awake);
}

handed_steady : (point : ℕ → Point) (xs : List ℕ) → ((u c : ℕ) → Contains xs u → point u ≡ Sweeps c → ⊥) → IsSteady point (handed point xs)
handed_steady point [] out = same_points point
handed_steady point (u ∷ rest) out = calmed_steady point u (λ c. out u c (in_head u rest))

-- after a pass of l
passed_steady : (s : StateView) (t l : ℕ) (fair : Bool) → IsSound s
    → IsSteady s.point (if fair then handed (let_go s.point t) (s.locks.line l) else let_go s.point t)
passed_steady s t l true sound =
    steady_twice s.point (let_go s.point t) (handed (let_go s.point t) (s.locks.line l)) (let_go_steady s.point t)
    (handed_steady (let_go s.point t) (s.locks.line l) (λ u c inside sweeps.
    let wants : s.point u ≡ Wants l = (sound.one_line_each.wants l u inside).1 in
    at_all (λ u b. s.point u ≡ Wants l → (if b then released (s.point t) else s.point u) ≡ Sweeps c → ⊥) t
    (λ is at. let e : Wants l ≡ Sweeps c = sym (ap released is) ∙ at in absurd (cc))
    (λ u ne is at. let e : Wants l ≡ Sweeps c = sym is ∙ at in absurd (cc)) u wants sweeps))
passed_steady s t l false sound = let_go_steady s.point t

is_calm_true : (p : Point) → is_calm p ≡ true → p ≡ Calm
is_calm_true Calm is = refl
is_calm_true (Wants l) is = absurd (cc)
is_calm_true (Bed c l) is = absurd (cc)
is_calm_true (Rest c l) is = absurd (cc)
is_calm_true (Sweeps c) is = absurd (cc)
is_calm_true (Seeks k) is = absurd (cc)

waits_not_awake : (s : StateView) (t c : ℕ) → Waits s.point c t → IsCalmOrSweeps (s.point t) → ⊥
waits_not_awake s t c (l, w) (inl calm) = elim w [ inl e ↦ absurd (cc) | inr e ↦ absurd (cc) ]
waits_not_awake s t c (l, w) (inr (d, at)) = elim w [ inl e ↦ absurd (cc) | inr e ↦ absurd (cc) ]

-- who is awake stands in no condition's line
not_in_line : (s : StateView) (t c : ℕ) → IsSound s → IsCalmOrSweeps (s.point t) → Contains (s.conds.line c) t → ⊥
not_in_line s t c sound awake inside = waits_not_awake s t c (sound.one_line_each.waits c t inside).1 awake

-- who stands in the lines of two conditions stands in one
one_line : (s : StateView) (t c d : ℕ) → IsSound s → Contains (s.conds.line c) t → Contains (s.conds.line d) t → c ≡ d
one_line s t c d sound here there = both (sound.one_line_each.waits c t here).1 (sound.one_line_each.waits d t there).1
  where
    both : Waits s.point c t → Waits s.point d t → c ≡ d
    both (l, inl a) (k, inl b) = cc
    both (l, inl a) (k, inr b) = absurd (cc)
    both (l, inr a) (k, inl b) = absurd (cc)
    both (l, inr a) (k, inr b) = cc

takes_not_sweeping : (s : StateView) (t l c : ℕ) → (s.point t ≡ Calm) ⊎ IsTrying s t l → s.point t ≡ Sweeps c → ⊥
takes_not_sweeping s t l c (inl calm) sweeps = absurd (cc)
takes_not_sweeping s t l c (inr (inl x)) sweeps = let at = x.0 in absurd (cc)
takes_not_sweeping s t l c (inr (inr x)) sweeps = let at = x.1 in absurd (cc)

seeks_not_sweeping : (s : StateView) (t k c : ℕ) → (s.point t ≡ Calm) ⊎ IsSeeking s t k → s.point t ≡ Sweeps c → ⊥
seeks_not_sweeping s t k c (inl calm) sweeps = absurd (cc)
seeks_not_sweeping s t k c (inr x) sweeps = let at = x.0 in absurd (cc)

calm_apart : (s : StateView) (t u c : ℕ) → s.point t ≡ Calm → s.point u ≡ Sweeps c → u ≢ t
calm_apart s t u c calm sweeps e = let at : s.point t ≡ Sweeps c = subst (λ w. s.point w ≡ Sweeps c) e sweeps in absurd (cc)

module _ {V : Type 0} where
  -- what is owed after t paid c was owed before; and what was owed before is owed still, or it was that
  owed_before : (g : Watch V) (t c u d : ℕ) → (pays g t c).owes u d ≡ true → g.owes u d ≡ true
  owed_before g t c u d =
      at_all (λ u b. (if b then put (g.owes t) c false else g.owes u) d ≡ true → g.owes u d ≡ true) t
      (at_all (λ d b. (if b then false else g.owes t d) ≡ true → g.owes t d ≡ true) c (λ e. absurd (cc)) (λ d ne e. e) d) (λ u ne e. e) u

  owed_still : (g : Watch V) (t c u d : ℕ) → g.owes u d ≡ true → ((u ≡ t) × (d ≡ c)) ⊎ ((pays g t c).owes u d ≡ true)
  owed_still g t c u d =
      at_all (λ w b. g.owes w d ≡ true → ((w ≡ t) × (d ≡ c)) ⊎ ((if b then put (g.owes t) c false else g.owes w) d ≡ true)) t
      (at_all (λ e b. g.owes t e ≡ true → ((t ≡ t) × (e ≡ c)) ⊎ ((if b then false else g.owes t e) ≡ true)) c
      (λ is. inl (refl, refl)) (λ e ne is. inr is) d) (λ w ne is. inr is) u

  -- who owed nothing is not who owes
  another : (g : Watch V) (t u d : ℕ) → OwesNothing g t → g.owes u d ≡ true → u ≢ t
  another g t u d nothing owes e = let none : g.owes u d ≡ false = subst (λ w. g.owes w d ≡ false) (sym e) (nothing d) in absurd (cc)

module _ {V : Type 0} (lock_of : ℕ → ℕ) (ready : ℕ → V → Bool) where
  -- ---- events that change no line
  -- nobody began to owe
  steady : (s : StateView) (g : Watch V) (locks : Locks) (sems : Semaphores) (point : ℕ → Point)
      → ((u c : ℕ) → s.point u ≡ Sweeps c → point u ≡ Sweeps c)
      → ((u c : ℕ) → g.owes u c ≡ true → IsCalmOrSweeps (s.point u) → IsCalmOrSweeps (point u)) → IsWatched lock_of ready s g
      → IsWatched lock_of ready (record s { locks = locks; sems = sems; point = point }) g
  steady s g locks sems point sweeping waking h = record {
    due = λ c is some. let w = h.due c is some in (
      w.0,
      w.1,
      elim w.2 [
        | inl owes ↦ inl owes
        | inr x ↦ elim x [ inl called ↦ inr (inl called) | inr sweeps ↦ inr (inr (sweeping w.0 c sweeps)) ]
      ],
    );
    outside = h.outside;
    awake = λ t c owes. waking t c owes (h.awake t c owes);
  }

  -- nobody moved
  untouched : (s : StateView) (g : Watch V) (locks : Locks) (sems : Semaphores) → IsWatched lock_of ready s g
      → IsWatched lock_of ready (record s { locks = locks; sems = sems }) g
  untouched s g locks sems h = steady s g locks sems s.point (λ u c is. is) (λ u c owes awake. awake) h

  -- a thread that owes nothing and sweeps nothing went somewhere
  gone : (s : StateView) (g : Watch V) (locks : Locks) (sems : Semaphores) (t : ℕ) (p : Point) → OwesNothing g t
      → ((c : ℕ) → s.point t ≡ Sweeps c → ⊥) → IsWatched lock_of ready s g
      → IsWatched lock_of ready (record s { locks = locks; sems = sems; point = put s.point t p }) g
  gone s g locks sems t p nothing not_sweeping h =
      steady s g locks sems (put s.point t p)
      (λ u c. at_all (λ u b. s.point u ≡ Sweeps c → (if b then p else s.point u) ≡ Sweeps c) t
      (λ is. absurd (not_sweeping c is)) (λ u ne is. is) u)
      (λ u c owes. at_all (λ w b. w ≡ u → IsCalmOrSweeps (s.point w) → IsCalmOrSweeps (if b then p else s.point w)) t
      (λ e awake. absurd (another g t u c nothing owes (sym e))) (λ w ne e awake. awake) u refl) h

  -- t let l go, where it left v
  left : (s : StateView) (g : Watch V) (locks : Locks) (point : ℕ → Point) (t l : ℕ) (v : V) → IsThread s t → s.point t ≡ Calm
      → OwesNothing g t → IsSteady s.point point → IsWatched lock_of ready s g
      → IsWatched lock_of ready (record s { locks = locks; point = point }) (leaves lock_of ready g t l v)
  left s g locks point t l v thread calm nothing still h = record {
    due = λ c. at_all (λ k b. lock_of c ≡ k → (lock_of c == l) ≡ b → ready c (if b then v else g.value k) ≡ true → s.conds.line c ≢ []
        → (u : ℕ) × IsThread s u × IsDueFor (record s { locks = locks; point = point }) (leaves lock_of ready g t l v) u c) l
        (λ e same is some. (
          t,
          thread,
          inl (ap (λ f. f c) (put_same g.owes t (λ c. (lock_of c == l) && ready c v))
              ∙ (ap (λ b. b && ready c v) same ∙ is)),
        ))
        (λ k ne e same is some.
        let w = h.due c (subst (λ j. ready c (g.value j) ≡ true) (sym e) is) some in (w.0, w.1, due_still c w.0 same w.2))
        (lock_of c) refl refl;
    outside = λ c u inside.
        at_all (λ w b. g.called w ≡ None → (if b then called_beside lock_of ready l (g.called t) else g.called w) ≡ None) t
        (λ none. ap (called_beside lock_of ready l) none) (λ w ne none. none) u (h.outside c u inside);
    awake = λ u c.
        at_all (λ w b. (if b then (λ c. (lock_of c == l) && ready c v) else g.owes w) c ≡ true → IsCalmOrSweeps (point w)) t
        (λ owes. still.waking t (inl calm)) (λ w ne owes. still.waking w (h.awake w c owes)) u;
  }
    where
      due_still : (c u : ℕ) → (lock_of c == l) ≡ false → IsDueFor s g u c
          → IsDueFor (record s { locks = locks; point = point }) (leaves lock_of ready g t l v) u c
      due_still c u other (inl owes) =
          inl (ap (λ f. f c) (put_other g.owes t (λ c. (lock_of c == l) && ready c v) u (another g t u c nothing owes)) ∙ owes)
      due_still c u other (inr (inl called)) =
          inr (inl (at_all (λ w b. g.called w ≡ Some c → (if b then called_beside lock_of ready l (g.called t) else g.called w) ≡ Some c) t
          (λ is. ap (called_beside lock_of ready l) is ∙ ap (λ b. if b then None else Some c) other) (λ w ne is. is) u called))
      due_still c u other (inr (inr sweeps)) = inr (inr (still.sweeping u c sweeps))

  freed : (s : StateView) (g : Watch V) (locks : Locks) (t l : ℕ) (v : V) (parked calm : Bool) → IsThread s t → is_calm (s.point t) ≡ calm
      → OwesNothing g t → IsWatched lock_of ready s g
      → IsWatched lock_of ready (record s { locks = locks; point = if parked then s.point else let_go s.point t })
      (if calm && not parked then leaves lock_of ready g t l v else g)
  freed s g locks t l v true true thread calm nothing h =
      untouched s g locks s.sems h
  freed s g locks t l v true false thread calm nothing h =
      untouched s g locks s.sems h
  freed s g locks t l v false true thread calm nothing h =
      left s g locks (let_go s.point t) t l v thread (is_calm_true (s.point t) calm) nothing (let_go_steady s.point t) h
  freed s g locks t l v false false thread calm nothing h =
      let still = let_go_steady s.point t in
      steady s g locks s.sems (let_go s.point t) still.sweeping (λ u c owes. still.waking u) h

  passed_on : (s : StateView) (g : Watch V) (locks : Locks) (point : ℕ → Point) (t l : ℕ) (v : V) (calm : Bool) → IsThread s t
      → is_calm (s.point t) ≡ calm → OwesNothing g t → IsSteady s.point point → IsWatched lock_of ready s g
      → IsWatched lock_of ready (record s { locks = locks; point = point }) (if calm then leaves lock_of ready g t l v else g)
  passed_on s g locks point t l v true thread calm nothing still h =
      left s g locks point t l v thread (is_calm_true (s.point t) calm) nothing still h
  passed_on s g locks point t l v false thread calm nothing still h =
      steady s g locks s.sems point still.sweeping (λ u c owes. still.waking u) h

  -- ---- conditions
  enlisted : (s : StateView) (g : Watch V) (t c l : ℕ) (v : V) → s.point t ≡ Calm → KeepsWatch lock_of ready g (Enlist t c l)
      → IsWatched lock_of ready s g
      → IsWatched lock_of ready (after s (Enlist t c l)) (watch_after lock_of ready s g (Enlist t c l) v)
  enlisted s g t c l v calm keeps h = record {
    due = λ d. at_all (λ d b. ready d (g.value (lock_of d)) ≡ true → (if b then s.conds.line c ++ t ∷ [] else s.conds.line d) ≢ []
        → (u : ℕ) × IsThread s u × IsDueFor (after s (Enlist t c l)) (watch_after lock_of ready s g (Enlist t c l) v) u d) c
        (λ is some. let not_so : ready c (g.value (lock_of c)) ≡ false = subst (λ k. ready c (g.value k) ≡ false) (sym keeps.1) keeps.2 in
        absurd (cc))
        (λ d ne is some. let w = h.due d is some in (w.0, w.1, due_still d w.0 ne w.2)) d;
    outside = λ d u inside.
        at_all (λ w b. w ≡ u → (if b then None else g.called w) ≡ None) t (λ e. refl)
        (λ w ne e. elim (joined s.conds.line c t d u inside) [
          | inl before ↦ ap g.called e ∙ h.outside d u before
          | inr x ↦ absurd (ne (e ∙ x.1))
        ]) u refl;
    awake = λ u d owes.
        at_all (λ w b. w ≡ u → IsCalmOrSweeps (s.point w) → IsCalmOrSweeps (if b then Bed c l else s.point w)) t
        (λ e awake. absurd (another g t u d keeps.0 owes (sym e))) (λ w ne e awake. awake) u refl (h.awake u d owes);
  }
    where
      due_still : (d u : ℕ) → d ≢ c → IsDueFor s g u d
          → IsDueFor (after s (Enlist t c l)) (watch_after lock_of ready s g (Enlist t c l) v) u d
      due_still d u ne (inl owes) = inl owes
      due_still d u ne (inr (inl called)) =
          inr (inl (put_other g.called t None u (λ e. ne (keeps.3 d (subst (λ w. g.called w ≡ Some d) e called))) ∙ called))
      due_still d u ne (inr (inr sweeps)) =
          inr (inr (put_other s.point t (Bed c l) u (λ e. let at : s.point t ≡ Sweeps d = subst (λ w. s.point w ≡ Sweeps d) e sweeps in
          absurd (cc)) ∙ sweeps))

  looked : (s : StateView) (g : Watch V) (t c : ℕ) (flag : Bool) → s.conds.flag c ≡ flag → IsSound s → IsWatched lock_of ready s g
      → IsWatched lock_of ready s (if flag then g else pays g t c)
  looked s g t c true flag sound h = h
  looked s g t c false flag sound h = record {
    due = λ d is some. let w = h.due d is some in elim w.2 [
      | inl owes ↦ elim (owed_still g t c w.0 d owes) [
        | inl x ↦ let by = sound.someone_sweeps d (subst (λ e. s.conds.flag e ≡ false) (sym x.1) flag) some in
            (by.0, by.1, inr (inr by.2))
        | inr still ↦ (w.0, w.1, inl still)
      ]
      | inr x ↦ (w.0, w.1, inr x)
    ];
    outside = h.outside;
    awake = λ u d owes. h.awake u d (owed_before g t c u d owes);
  }

  -- some of c's line were taken, and none of them stands there still
  taken_from : (s : StateView) (g : Watch V) (flag : ℕ → Bool) (rest taken : List ℕ) (point : ℕ → Point) (t c : ℕ) (owes : ℕ → ℕ → Bool)
      → IsSound s → IsWatched lock_of ready s g → ((u : ℕ) → Contains taken u → Contains (s.conds.line c) u)
      → ((u : ℕ) → Contains rest u → Contains (s.conds.line c) u)
      → ((u : ℕ) → Contains taken u → Contains rest u → ⊥) → (rest ≢ [] → (u : ℕ) × Contains taken u)
      → ((u d : ℕ) → d ≢ c → g.owes u d ≡ true → owes u d ≡ true) → ((u d : ℕ) → owes u d ≡ true → IsCalmOrSweeps (point u))
      → ((u d : ℕ) → d ≢ c → s.point u ≡ Sweeps d → point u ≡ Sweeps d)
      → IsWatched lock_of ready (record s { conds = record { flag = flag; line = put s.conds.line c rest }; point = point })
      (record { value = g.value; owes = owes; called = λ u. if list_any (nat_eq u) taken then Some c else g.called u })
  taken_from s g flag rest taken point t c owes sound h were stay apart first owing awake sweeping = record {
    due = λ d. at_all (λ d b. ready d (g.value (lock_of d)) ≡ true → (if b then rest else s.conds.line d) ≢ []
        → (u : ℕ) × IsThread s u × IsDueFor s' g' u d) c
        (λ is some. let w = first some in (
          w.0,
          (sound.one_line_each.waits c w.0 (were w.0 w.1)).0,
          inr (inl (ap (λ b. if b then Some c else g.called w.0) (found w.0 taken w.1))),
        ))
        (λ d ne is some. let w = h.due d is some in (w.0, w.1, due_still d w.0 ne w.2)) d;
    outside = λ d u. at_all (λ d b. Contains (if b then rest else s.conds.line d) u → g'.called u ≡ None) c
        (λ inside. stays u (λ there. apart u there inside) (h.outside c u (stay u inside)))
        (λ d ne inside. stays u (λ there. ne (one_line s u d c sound inside (were u there))) (h.outside d u inside)) d;
    awake = awake;
  }
    where
      s' : StateView
      s' = record s { conds = record { flag = flag; line = put s.conds.line c rest }; point = point }

      g' : Watch V
      g' = record { value = g.value; owes = owes; called = λ u. if list_any (nat_eq u) taken then Some c else g.called u }

      stays : {o : Option ℕ} (u : ℕ) → (Contains taken u → ⊥) → g.called u ≡ o
          → (if list_any (nat_eq u) taken then Some c else g.called u) ≡ o
      stays u out is = ap (λ b. if b then Some c else g.called u) (not_found u taken out) ∙ is

      due_still : (d u : ℕ) → d ≢ c → IsDueFor s g u d
          → (owes u d ≡ true) ⊎ (((if list_any (nat_eq u) taken then Some c else g.called u) ≡ Some d) ⊎ (point u ≡ Sweeps d))
      due_still d u ne (inl is) = inl (owing u d ne is)
      due_still d u ne (inr (inl called)) =
          inr (inl (stays u (λ there. let none : g.called u ≡ None = h.outside c u (were u there) in absurd (cc)) called))
      due_still d u ne (inr (inr sweeps)) = inr (inr (sweeping u d ne sweeps))

  -- ---- each event
  pub watch_kept : (s : StateView) (g : Watch V) (e : Event) (v : V) → IsSound s → IsWatched lock_of ready s g → Allowed s e
      → KeepsWatch lock_of ready g e → IsWatched lock_of ready (after s e) (watch_after lock_of ready s g e v)
  watch_kept s g (Try t l) v sound h ok keeps = untouched s g (after s (Try t l)).locks s.sems h
  watch_kept s g (Take t l) v sound h ok keeps =
      gone s g (after s (Take t l)).locks s.sems t (if s.locks.held l then Wants l else Calm) keeps (λ c. takes_not_sweeping s t l c ok.2) h
  watch_kept s g (Mark t l) v sound h ok keeps = untouched s g (after s (Mark t l)).locks s.sems h
  watch_kept s g (Park t l) v sound h ok keeps = untouched s g (after s (Park t l)).locks s.sems h
  watch_kept s g (Free t l) v sound h ok keeps =
      freed s g (after s (Free t l)).locks t l v (s.locks.parked l) (is_calm (s.point t)) ok.0 refl keeps h
  watch_kept s g (Pass t l fair more) v sound h ok keeps =
      passed_on s g (after s (Pass t l fair more)).locks (after s (Pass t l fair more)).point t l v (is_calm (s.point t)) ok.0 refl keeps
      (passed_steady s t l fair sound) h
  watch_kept s g (Enlist t c l) v sound h ok keeps = enlisted s g t c l v ok.3 keeps h
  watch_kept s g (Look t c) v sound h ok keeps = looked s g t c (s.conds.flag c) refl sound h
  watch_kept s g (Call t c n more) v sound h ok keeps =
      taken_from s g (after s (Call t c n more)).conds.flag (drop n (s.conds.line c)) (take n (s.conds.line c)) s.point t c
      (pays g t c).owes
      sound h (in_take n (s.conds.line c)) (in_drop n (s.conds.line c))
      (λ u. first_not_behind n (s.conds.line c) u (sound.one_line_each.cond_once c))
      (λ some. some_first n (s.conds.line c) ok.3.0 (λ none. some (ap (drop n) none ∙ drop-nil n)))
      (λ u d ne owes. elim (owed_still g t c u d owes) [ inl x ↦ absurd (ne x.1) | inr still ↦ still ])
      (λ u d owes. h.awake u d (owed_before g t c u d owes)) (λ u d ne is. is)
  watch_kept s g (Lower t c) v sound h ok keeps = record {
    due = λ d is some. let w = h.due d is some in elim w.2 [
      | inl owes ↦ elim (owed_still g t c w.0 d owes) [
        | inl x ↦ (t, ok.0, inr (inr (put_same s.point t (Sweeps c) ∙ ap Sweeps (sym x.1))))
        | inr still ↦ (w.0, w.1, inl still)
      ]
      | inr x ↦ elim x [
        | inl called ↦ (w.0, w.1, inr (inl called))
        | inr sweeps ↦ (w.0, w.1, inr (inr (put_other s.point t (Sweeps c) w.0 (calm_apart s t w.0 d ok.2 sweeps) ∙ sweeps)))
      ]
    ];
    outside = h.outside;
    awake = λ u d owes.
        at_all (λ w b. IsCalmOrSweeps (s.point w) → IsCalmOrSweeps (if b then Sweeps c else s.point w)) t
        (λ awake. inr (c, refl)) (λ w ne awake. awake) u
        (h.awake u d (owed_before g t c u d owes));
  }
  watch_kept s g (Sweep t c) v sound h ok keeps =
      taken_from s g s.conds.flag (drop (length (s.conds.line c)) (s.conds.line c)) (s.conds.line c) (put s.point t Calm) t c g.owes
      sound h (λ u inside. inside) (in_drop (length (s.conds.line c)) (s.conds.line c))
      (λ u inside behind. in_none u (subst (λ ys. Contains ys u) (drop-length (s.conds.line c)) behind))
      (λ some. absurd (some (drop-length (s.conds.line c))))
      (λ u d ne owes. owes)
      (λ u d owes. at_all (λ w b. IsCalmOrSweeps (s.point w) → IsCalmOrSweeps (if b then Calm else s.point w)) t (λ awake. inl refl)
      (λ w ne awake. awake) u
      (h.awake u d owes))
      (λ u d ne is. put_other s.point t Calm u (λ e. let at : s.point t ≡ Sweeps d = subst (λ w. s.point w ≡ Sweeps d) e is in
      let sweeps : s.point t ≡ Sweeps c = ok.2 in let same : d ≡ c = cc in ne same) ∙ is)
  watch_kept s g (SemTake t k) v sound h ok keeps =
      gone s g s.locks (after s (SemTake t k)).sems t (if none_left s.sems k then Seeks k else Calm) keeps
      (λ c. seeks_not_sweeping s t k c ok.2) h
  watch_kept s g (SemMark t k) v sound h ok keeps = untouched s g s.locks (after s (SemMark t k)).sems h
  watch_kept s g (SemPark t k) v sound h ok keeps = untouched s g s.locks (after s (SemPark t k)).sems h
  watch_kept s g (SemFree t k) v sound h ok keeps = untouched s g s.locks (after s (SemFree t k)).sems h
  watch_kept s g (SemPass t k more) v sound h ok keeps = untouched s g s.locks (after s (SemPass t k more)).sems h
  watch_kept s g (SemClear t k) v sound h ok keeps = untouched s g s.locks (after s (SemClear t k)).sems h

  pub none_forgotten : (s : StateView) (g : Watch V) → IsSound s → IsWatched lock_of ready s g → NoneIsForgotten lock_of ready s g
  none_forgotten s g sound h c is some =
      let w = h.due c is some in (w.0, w.1, (λ inside. stands w.0 inside w.2), w.2)
    where
      stands : (u : ℕ) → Contains (s.conds.line c) u → IsDueFor s g u c → ⊥
      stands u inside (inl owes) = not_in_line s u c sound (h.awake u c owes) inside
      stands u inside (inr (inl called)) = let none : g.called u ≡ None = h.outside c u inside in absurd (cc)
      stands u inside (inr (inr sweeps)) = not_in_line s u c sound (inr (c, sweeps)) inside

  pub run_watched : (s : StateView) (g : Watch V) (events : List (Event × V)) → IsSound s → IsWatched lock_of ready s g
      → WatchedRun lock_of ready s g events
      → NoneIsForgotten lock_of ready (state_after s events) (watch_after_all lock_of ready s g events)
  run_watched s g [] sound h run = none_forgotten s g sound h
  run_watched s g (x ∷ rest) sound h run =
      run_watched (after s x.0) (watch_after lock_of ready s g x.0 x.1) rest (sound_kept s x.0 sound run.0)
      (watch_kept s g x.0 x.1 sound h run.0 run.1) run.2

  pub opening_watched : (threads locks conds : ℕ) (permits : List ℕ) (values : ℕ → V)
      → IsWatched lock_of ready (opening_with threads locks conds permits) (opening_watch values)
  opening_watched threads locks conds permits values = record {
    due = λ c is some. absurd (some refl);
    outside = λ c t inside. refl;
    awake = λ t c owes. inl refl;
  }
