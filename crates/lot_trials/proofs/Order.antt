-- One wait and one notification: the notification stands in the one history of the lot before the letter that the wait
-- collected.
use Rattle.std.proofs.Common.{◌≡◌, ◌≢◌, ℕ, ◌+◌, ◌*◌, ◌<◌, Bool, true, false, List, [], ◌∷◌, ◌++◌, ◌⊎◌, min, length, Some}
use Rattle.std.proofs.Common.{inl, inr, refl, sym, ap, subst, ◌∙◌, append_assoc, arith}
use Rattle.std.specs.List.{All, Contains}
use Rattle.std.proofs.lemmas.List.Elements.{All-nil, All-cons, All-head, All-tail, All-push, All-append, All-weaker, All-contains}
use mathlib.Core.Logic.{dite}
use native.Mathlib.Decide.{ℕ_discrete}
use Rattle.lot_core.specs.Model.{StateView}
use Rattle.lot_core.specs.Steps.{dequeued_count}
use Rattle.lot_events.specs.declared.events.Event.TheVariants.{Try, Take, Mark, Park, Free, Pass, Enlist, Look, Call, Lower, Sweep}
use Rattle.lot_events.specs.declared.events.Event.TheVariants.{SemTake, SemMark, SemPark, SemFree, SemPass, SemClear}
use Rattle.lot_events.specs.declared.events.Seen.TheVariants.{Bool as Saw, Done, Sleeper, Count}
use Rattle.lot_rights.specs.declared.views.Access.{Access}
use Rattle.lot_rights.specs.declared.views.Access.TheVariants.{Makes, Posts, Collects, Finds, Counts}
use Rattle.lot_rights.specs.declared.views.Entry.{Entry}
use Rattle.lot_rights.specs.History.{doer, tokens_of, handed_in}
use Rattle.lot_whole.specs.Family.{cond}
use Rattle.lot_whole.specs.Order.{LettersFollow, CountsFollow, SeesIn, accesses_of, state_after}
use Rattle.lot_scheme.specs.declared.contention.Contention.{Contention}
use Rattle.lot_scheme.specs.Roots.{size_named}
use Rattle.lot_scheme.specs.Counts.{IsContention, CountTrace}
use Rattle.lot_scheme.specs.Traces.{IsSeek, IsGot, GetTrace, IsVain}
use Rattle.lot_locks.specs.declared.released.Released.{Released}
use Rattle.lot_locks.specs.Released.{FreeTrace}
use Rattle.lot_waits.specs.Waiting.{WaitTrace}
use Rattle.lot_sync.specs.Lot.{PassView, LotNames}
use Rattle.lot_sync.specs.Traces.{Adds, WaitedTrace, NotifyTrace}
use Rattle.lot_sync.specs.Closing.{HasOneRun}
use Rattle.lot_trials.specs.Order.{TakesNone, IsOwnCall, HasTakenNone, HasCalled, HasWaited, IsNotifiedFirst, IsToldOf}

-- ---- traces that take nobody from the line of a condition
seek_none : (c t l : ℕ) (a : Access) → IsSeek t l a ⊎ IsGot t l a → TakesNone c a
seek_none c t l (Makes (Try u k) saw) h d' = d'
seek_none c t l (Makes (Take u k) saw) h d' = d'
seek_none c t l (Makes (Mark u k) saw) h d' = d'
seek_none c t l (Makes (Park u k) saw) h d' = d'
seek_none c t l (Makes (Free u k) saw) h d' = d'
seek_none c t l (Makes (Pass u k fair more) saw) h d' = d'
seek_none c t l (Makes (Enlist u d k) saw) h d' = d'
seek_none c t l (Makes (Look u d) saw) h d' = d'
seek_none c t l (Makes (Call u d n more) saw) (inl h) d' = h
seek_none c t l (Makes (Call u d n more) saw) (inr h) d' = h
seek_none c t l (Makes (Lower u d) saw) h d' = d'
seek_none c t l (Makes (Sweep u d) saw) (inl h) d' = h
seek_none c t l (Makes (Sweep u d) saw) (inr h) d' = h
seek_none c t l (Makes (SemTake u k) saw) h d' = d'
seek_none c t l (Makes (SemMark u k) saw) h d' = d'
seek_none c t l (Makes (SemPark u k) saw) h d' = d'
seek_none c t l (Makes (SemFree u k) saw) h d' = d'
seek_none c t l (Makes (SemPass u k more) saw) h d' = d'
seek_none c t l (Makes (SemClear u k) saw) h d' = d'
seek_none c t l (Posts k u token) h d' = d'
seek_none c t l (Collects u found) h d' = d'
seek_none c t l (Finds u k word) h d' = d'
seek_none c t l (Counts u k told handed waiting) h d' = d'

vain_none : (c t : ℕ) (a : Access) → IsVain t a → TakesNone c a
vain_none c t (Makes e saw) h d = h
vain_none c t (Posts k u token) h d = d
vain_none c t (Collects u found) h d = d
vain_none c t (Finds u k word) h d = d
vain_none c t (Counts u k told handed waiting) h d = d

get_none : (c t l : ℕ) (acts : List Access) → GetTrace t l acts → All (TakesNone c) acts
get_none c t l acts (front, last, sought, got, is) = subst (All (TakesNone c)) (sym is)
    (All-push (TakesNone c) front last (All-weaker (IsSeek t l) (TakesNone c) (λ a h. seek_none c t l a (inl h)) front sought)
    (seek_none c t l last (inr got)))

one_none : (c : ℕ) (a : Access) → TakesNone c a → All (TakesNone c) (a ∷ [])
one_none c a none = All-cons (TakesNone c) a [] none (All-nil (TakesNone c))

free_none : (c t l : ℕ) (became : Released) (acts : List Access) → FreeTrace t l became acts → All (TakesNone c) acts
free_none c t l became acts (inl (quiet, is)) = subst (All (TakesNone c)) (sym is) (one_none c (Makes (Free t l) (Saw true)) (λ d. d))
free_none c t l became acts (inr (more, rest, (first, fair, decided, says, passed), is)) = subst (All (TakesNone c))
    (sym (is ∙ ap (λ xs. Makes (Free t l) (Saw false) ∷ xs) passed))
    (All-cons (TakesNone c) (Makes (Free t l) (Saw false)) (Makes (Pass t l fair more) (Sleeper first) ∷ []) (λ d. d)
    (one_none c (Makes (Pass t l fair more) (Sleeper first)) (λ d. d)))

wait_none : (c k t l : ℕ) (became : Released) (acts : List Access) → WaitTrace t k l became acts → All (TakesNone c) acts
wait_none c k t l became acts w = subst (All (TakesNone c)) (sym w.is)
    (All-cons (TakesNone c) (Makes (Enlist t k l) Done) (w.free ++ (w.looks ++ (Collects t (Some 0) ∷ w.get))) (λ d. d)
    (All-append (TakesNone c) w.free (w.looks ++ (Collects t (Some 0) ∷ w.get)) (free_none c t l became w.free w.freed)
    (All-append (TakesNone c) w.looks (Collects t (Some 0) ∷ w.get)
    (All-weaker (IsVain t) (TakesNone c) (vain_none c t) w.looks w.vain)
    (All-cons (TakesNone c) (Collects t (Some 0)) w.get (λ d. d) (get_none c t l w.get w.got)))))

-- ---- one notification more: it takes nobody, or by a Call of its own
own_trace : (c t n : ℕ) (acts : List Access) → NotifyTrace t c 1 n acts → All (IsOwnCall c t) acts
own_trace c t n acts (inl (none, is)) = subst (All (IsOwnCall c t)) (sym is)
    (All-cons (IsOwnCall c t) (Makes (Look t c) (Saw false)) [] (λ d. absurd d) (All-nil (IsOwnCall c t)))
own_trace c t n acts (inr (more, says, is)) = subst (All (IsOwnCall c t)) (sym is)
    (All-cons (IsOwnCall c t) (Makes (Look t c) (Saw true)) (Makes (Call t c 1 more) (Count n) ∷ []) (λ d. absurd d)
    (All-cons (IsOwnCall c t) (Makes (Call t c 1 more) (Count n)) [] (λ d. (more, n, refl)) (All-nil (IsOwnCall c t))))

-- ---- one wait, from the lock that was got to the lock that was let go
regroup : (f : List Access) (e : Access) (w l : List Access) (x : Access) (g r : List Access)
    → (f ++ (e ∷ (w ++ (l ++ (x ∷ g))))) ++ r ≡ f ++ (e ∷ ((w ++ l) ++ (x ∷ (g ++ r))))
regroup f e w l x g r =
    append_assoc f (e ∷ (w ++ (l ++ (x ∷ g)))) r
    ∙ ap (λ zs. f ++ (e ∷ zs)) (append_assoc w (l ++ (x ∷ g)) r
    ∙ (ap (λ zs. w ++ zs) (append_assoc l (x ∷ g) r) ∙ sym (append_assoc w l (x ∷ (g ++ r)))))

module _ {V : Type 0} where
  pub waits_once : (p q r s : PassView V) (c k l m now : ℕ) (became : Released) → q.thread ≡ p.thread
      → r.thread ≡ p.thread → s.thread ≡ p.thread
      → Adds p.made (GetTrace p.thread k) q.made → Adds q.made (WaitedTrace q.thread c l now) r.made
      → Adds r.made (FreeTrace r.thread m became) s.made
      → HasWaited c s × (HasTakenNone c p → HasTakenNone c s)
  waits_once p q r s c k l m now became of_q of_r of_s (get, got, get_word) (did, slept, (ended, fits, w)) (free, freed, free_word) = (
    record {
      lock = l;
      front = p.made ++ get;
      between = w.free ++ w.looks;
      back = w.get ++ free;
      made =
          subst
          (λ t. s.made ≡ (p.made ++ get) ++ Makes (Enlist t c l) Done ∷ ((w.free ++ w.looks) ++ Collects t (Some 0) ∷ (w.get ++ free)))
          (of_q ∙ sym of_s)
          (whole ∙ regroup (p.made ++ get) (Makes (Enlist q.thread c l) Done) w.free w.looks (Collects q.thread (Some 0)) w.get free);
    },
    λ none. subst (All (TakesNone c)) (sym whole)
        (All-append (TakesNone c)
        ((p.made ++ get) ++ (Makes (Enlist q.thread c l) Done ∷ (w.free ++ (w.looks ++ (Collects q.thread (Some 0) ∷ w.get))))) free
        (All-append (TakesNone c) (p.made ++ get)
        (Makes (Enlist q.thread c l) Done ∷ (w.free ++ (w.looks ++ (Collects q.thread (Some 0) ∷ w.get))))
        (All-append (TakesNone c) p.made get none (get_none c p.thread k get get_word))
        (subst (All (TakesNone c)) w.is (wait_none c c q.thread l ended did w)))
        (free_none c r.thread m became free free_word)),
  )
    where
      whole : s.made
          ≡ ((p.made ++ get) ++ (Makes (Enlist q.thread c l) Done ∷ (w.free ++ (w.looks ++ (Collects q.thread (Some 0) ∷ w.get))))) ++ free
      whole = freed ∙ ap (λ zs. zs ++ free) (slept ∙ (ap (λ zs. zs ++ did) got ∙ ap (λ zs. (p.made ++ get) ++ zs) w.is))

  -- ---- one notification more
  pub calls_more : (p q : PassView V) (c n : ℕ) → q.thread ≡ p.thread → Adds p.made (NotifyTrace p.thread c 1 n) q.made
      → HasCalled c p → HasCalled c q
  calls_more p q c n same (did, is, trace) called = subst (λ t. All (IsOwnCall c t) q.made) (sym same)
      (subst (All (IsOwnCall c p.thread)) (sym is) (All-append (IsOwnCall c p.thread) p.made did called (own_trace c p.thread n did trace)))

  pub calls_none : (p : PassView V) (c : ℕ) → HasTakenNone c p → HasCalled c p
  calls_none p c none = All-weaker (TakesNone c) (IsOwnCall c p.thread) (λ a h d. absurd (h d)) p.made none

-- ---- the order
some_there : (xs : List ℕ) (t : ℕ) → Contains xs t → min 1 (length xs) ≡ 1
some_there xs t (k, near, is) = omega (arith, near)

count_is : (n m : ℕ) → Count n ≡ Count m → n ≡ m
count_is n m e = cc

module _ {V : Type 0} (names : LotNames V) (a b : PassView V) (c : ℕ) (has : HasOneRun names (a ∷ b ∷ [])) where
  abbrev log : List Entry
  log = has.told.recounted.log

  abbrev Own : PassView V → Type 0
  Own p = p.made ≡ accesses_of (2 * p.thread) log

  own_a : Own a
  own_a = All-head Own a (b ∷ []) has.made

  own_b : Own b
  own_b = All-head Own b [] (All-tail Own a (b ∷ []) has.made)

  -- what is so of all that was made with a pass is so of an access of its thread
  made_so : (P : Access → Type 0) (p : PassView V) → Own p → All P p.made → (v : ℕ) → v ≡ p.thread → (x : Access)
      → Contains (accesses_of (2 * v) log) x → P x
  made_so P p own all v is x made =
      All-contains P p.made x all (subst (λ xs. Contains xs x) (sym own) (subst (λ u. Contains (accesses_of (2 * u) log) x) is made))

  -- a Call of one that took the thread from the line saw one
  saw_one : (s : StateView) (t u n : ℕ) (more : Bool) (x : Access) → x ≡ Makes (Call u c 1 more) (Count n) → SeesIn s x
      → Contains (s.conds.line c) t
      → x ≡ Makes (Call u c 1 more) (Count 1)
  saw_one s t u n more x is saw there =
      let e : Count n ≡ Count (dequeued_count 1 (s.conds.line c)) = subst (SeesIn s) is saw in
      is ∙ ap (λ m. Makes (Call u c 1 more) (Count m))
      (count_is n (dequeued_count 1 (s.conds.line c)) e ∙ some_there (s.conds.line c) t there)

  pub notified_first : LettersFollow → names.threads ≡ 2 → a.thread < 2 → b.thread < 2 → a.thread ≢ b.thread → HasWaited c a
      → HasTakenNone c a → HasCalled c b
      → IsNotifiedFirst names a.thread b.thread c
  notified_first law two low high apart waited none called =
      let z = size_named names.threads names.locks names.conds names.permits in
      let w =
      law z log _ has.told.recounted.history cond a.thread c 0 waited.front (Makes (Enlist a.thread c waited.lock) Done) waited.between
      (Collects a.thread (Some 0)) waited.back (sym own_a ∙ waited.made) (waited.lock, refl) refl in
      let by : w.maker ≡ b.thread = dite {C = w.maker ≡ b.thread} (ℕ_discrete w.maker a.thread)
      (λ e. absurd (made_so (TakesNone c) a own_a none w.maker e w.taking.access w.made w.takes))
      (λ else. let near = w.is_thread in omega (arith, two, low, high, apart, near, else)) in
      let call = made_so (IsOwnCall c b.thread) b own_b called w.maker by w.taking.access w.made w.takes in
      record {
        log = log;
        end = _;
        history = has.told.recounted.history;
        before = w.before ++ w.first ∷ w.waiting;
        call = w.taking;
        between = w.since;
        letter = w.last;
        after = w.after;
        there = w.there ∙ sym (append_assoc w.before (w.first ∷ w.waiting) (w.taking ∷ (w.since ++ w.last ∷ w.after)));
        more = call.0;
        called =
            saw_one (state_after z (w.before ++ w.first ∷ w.waiting)) a.thread b.thread call.1 call.0 w.taking.access call.2 w.saw w.was_in;
        collected = w.last_is;
      }

-- ---- a count, with the one pass of a lot
module _ {V : Type 0} (names : LotNames V) where
  pub told_of : (p q : PassView V) (key : ℕ) (c : Contention) → CountsFollow → q.thread ≡ p.thread
      → Adds p.made (CountTrace p.thread key c) q.made → HasOneRun names (q ∷ []) → IsToldOf names p.thread key c
  told_of p q key c law same (did, is, (told, handed, waiting, so, acts)) has =
      let z = size_named names.threads names.locks names.conds names.permits in
      let log = has.told.recounted.log in
      let t : ℕ = q.thread in
      let count : Access = Counts t key told handed waiting in
      let mine : accesses_of (2 * t) log ≡ p.made ++ count ∷ [] =
      sym (All-head (λ (r : PassView V). r.made ≡ accesses_of (2 * r.thread) log) q [] has.made)
      ∙ (is ∙ ap (λ xs. p.made ++ xs) (acts ∙ ap (λ u. Counts u key told handed waiting ∷ []) (sym same))) in
      let w = law z log _ has.told.recounted.history has.told.recounted.counted t key told handed waiting p.made [] mine in
      record {
        log = log;
        end = _;
        history = has.told.recounted.history;
        before = w.before;
        count = w.entry;
        after = w.after;
        there = w.there;
        made = ap doer w.entry_is ∙ ap (λ u. 2 * u) same;
        told = subst (λ n. IsContention n (length (tokens_of key w.before)) (handed_in (tokens_of key w.before)) c) w.queued_are
            (subst (λ n. IsContention (told + waiting) n (handed_in (tokens_of key w.before)) c) w.told_are
            (subst (λ n. IsContention (told + waiting) told n c) w.handed_are so));
      }

-- it is so of the threads that these are
pub first_of : {V : Type 0} (names : LotNames V) (a b t u c : ℕ) → a ≡ t → b ≡ u → IsNotifiedFirst names a b c → IsNotifiedFirst names t u c
first_of names a b t u c of_a of_b is =
    subst (λ x. IsNotifiedFirst names x u c) of_a (subst (λ y. IsNotifiedFirst names a y c) of_b is)
