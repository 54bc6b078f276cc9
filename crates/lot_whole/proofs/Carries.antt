-- What each call of a pass carries from its kind to the lot: the one entry tells the access, its thread stands as the
-- event asks, and the lot tells the same.
use Rattle.std.proofs.Common.{◌≡◌, ◌≢◌, ℕ, ◌<◌, ◌⊎◌, ◌==◌, ◌++◌, Bool, true, false, List, [], ◌∷◌, length, bit_and, bit_or, refl, sym, ap}
use Rattle.std.proofs.Common.{subst, ◌∙◌, inl, inr, arith, MatchBool, Option, Some, None}
use mathlib.Core.Option as maybe
use prog.Atomic.{either}
use Rattle.lot_core.specs.Steps.{IsCallCount, SaysMore, SaysMoreBehind, dequeued_count, first}
use Rattle.lot_order.specs.Order.{MayWait}
use Rattle.lot_events.specs.declared.events.Event.TheVariants.{Try, Take, Mark, Park, Free, Pass, Enlist, Look, Call, Lower, Sweep}
use Rattle.lot_events.specs.declared.events.Seen.TheVariants.{Bool as Saw, Done, Sleeper, Count}
use Rattle.lot_rights.specs.declared.views.Access.{Access}
use Rattle.lot_rights.specs.declared.views.Access.TheVariants.{Makes, Finds}
use Rattle.lot_rights.specs.declared.views.Entry.{Entry}
use Rattle.lot_rights.specs.Shown.{PassShown, RootShown}
use Rattle.lot_rights.specs.Layout.{word_at}
use Rattle.lot_rights.specs.Steps.{Notes, pass_after, AllowsPass, AllowsBoth}
use Rattle.lot_words.specs.CallersRule.{CallersRule}
use Rattle.lot_words.specs.World.{Holds, HoldsParked}
use Rattle.lot_words.specs.Values.{IsIn, FoundOk}
use Rattle.lot_words.specs.Calls.{owning, wanting, letting_go, finding_parked, parked_pass, parked_root, passed_root, word_left, Aims}
use Rattle.lot_words.specs.declared.views.LockPassView.{LockPassView}
use Rattle.lot_words.specs.declared.views.LockRootView.{LockRootView}
use Rattle.lot_words.proofs.Machine.{no_aim}
use Rattle.lot_words.proofs.Turns as locks
use Rattle.lot_words.proofs.Roots as lock_roots
use Rattle.lot_conds.specs.Calls.{IsCalm, enlisted, lowering, called_more, swept_pass, enlisted_root, called_root, swept_root}
use Rattle.lot_conds.specs.declared.views.CondRootView.{CondRootView}
use Rattle.lot_conds.proofs.Turns as conds
use Rattle.lot_whole.specs.declared.views.LotPassView.{LotPassView}
use Rattle.lot_whole.specs.declared.views.LotRootView.{LotRootView}
use Rattle.lot_whole.specs.Family.{Which, lock, cond, LotSize, lock_size, cond_size, IsKeyIn, PassIn, RootIn}
use Rattle.lot_whole.specs.Lot.{root_from, LotWorld, LotFits, LotPassIs, LotRootIs, lot_meaning}
use Rattle.lot_whole.specs.Lifts.{part_pass, whole_root, lot_own, MayBeAway, Speaks, InPlace, CarriesPass, CarriesBoth}
use Rattle.lot_whole.specs.Standing.{IsUp, IsIdle, keys_of, MayTake, MayWant, MayLetGo, MayLineUp, MaySweep}
use Rattle.lot_whole.specs.Calls.{NotesIn, FindsOf, GetsBy}
use Rattle.lot_whole.proofs.Tells.{out_none, may_take, may_let_go, may_line_up, idle_calm, has, got_lock, keeps_take, keeps_enlist}
use Rattle.lot_whole.proofs.Lifts.{lifts_pass, lifts_both}

-- ---- an entry tells what was known then, and the access
abbrev last_access : Access → List Entry → Access
last_access a [] = a
last_access a (x ∷ xs) = last_access x.access xs

last_is : (a : Access) (xs : List Entry) (x : Entry) → last_access a (xs ++ x ∷ []) ≡ x.access
last_is a [] x = refl
last_is a (y ∷ xs) x = last_is y.access xs x

pub notes_tell : {P : Type 0} (p : PassShown P) (own own' : P) (a a' : Access) → Notes p own' a' (pass_after p own 0 a) → (own ≡ own')
    × (a ≡ a')
notes_tell {P} p own own' a a' h = (
  ap (λ (q : PassShown P). q.own) h.1,
  sym (last_is a p.made (record { at = 0; access = a }))
      ∙ (ap (λ (q : PassShown P). last_access a q.made) h.1 ∙ last_is a p.made (record { at = h.0; access = a' })),
)

-- ---- what each step tells of the lot's pass
module _ {V Part : Type 0} (rule : CallersRule V Part) where
  abbrev pub Takes : PassShown (LotPassView V) → ℕ → ℕ → PassShown (LotPassView V) → Type 0
  Takes p l n q = MatchBool (bit_and n 1 == 0) (GetsBy rule p l (Makes (Take p.thread l) (Saw true)) q)
      (NotesIn lock p (wanting p.own.locks l) (Makes (Take p.thread l) (Saw false)) q)

  abbrev pub Tries : PassShown (LotPassView V) → ℕ → ℕ → PassShown (LotPassView V) → Type 0
  Tries p l n q = MatchBool (bit_and n 1 == 0) (GetsBy rule p l (Makes (Try p.thread l) (Saw true)) q)
      (NotesIn lock p p.own.locks (Makes (Try p.thread l) (Saw false)) q)

  abbrev pub TakesFree : PassShown (LotPassView V) → ℕ → ℕ → PassShown (LotPassView V) → Type 0
  TakesFree p l n q = MatchBool (n == 0) (GetsBy rule p l (Makes (Take p.thread l) (Saw true)) q) (FindsOf p l n q)

  pub got_free : (p : PassShown (LotPassView V)) (l n : ℕ) (q : PassShown (LotPassView V)) → n ≡ 0 → TakesFree p l n q
      → GetsBy rule p l (Makes (Take p.thread l) (Saw true)) q
  got_free p l n q free told = subst (λ m. TakesFree p l m q) free told

  pub missed_free : (p : PassShown (LotPassView V)) (l n : ℕ) (q : PassShown (LotPassView V)) → n ≢ 0 → TakesFree p l n q
      → FindsOf p l n q
  missed_free p l n q other told =
      locks.where_not (GetsBy rule p l (Makes (Take p.thread l) (Saw true)) q) (FindsOf p l n q) n 0 other told

abbrev pub Marks : {V : Type 0} → PassShown (LotPassView V) → ℕ → ℕ → PassShown (LotPassView V) → Type 0
Marks p l n q = MatchBool (n == 1) (NotesIn lock p p.own.locks (Makes (Mark p.thread l) Done) q) ((x : ℕ) × (x ≢ 1) × FindsOf p l x q)

abbrev pub Frees : {V : Type 0} → PassShown (LotPassView V) → ℕ → ℕ → PassShown (LotPassView V) → Type 0
Frees {V} p l n q = MatchBool (n == 1)
    ((y : V) → IsIn p.own.locks l y → NotesIn lock p (letting_go p.own.locks l y) (Makes (Free p.thread l) (Saw true)) q)
    (NotesIn lock p (finding_parked p.own.locks l) (Makes (Free p.thread l) (Saw false)) q)

abbrev pub Parks : {V : Type 0} → PassShown (LotPassView V) → RootShown LockRootView → ℕ → PassShown (LotPassView V) → RootShown LotRootView
    → Type 0
Parks p q n p' q' = NotesIn lock p (parked_pass p.own.locks (n == 3)) (Makes (Park p.thread q.key) (Saw (n == 3))) p'
    × (q' ≡ whole_root lock (record q { own = parked_root q.own p.thread (n == 3) }))

abbrev pub Passes : {V : Type 0} → PassShown (LotPassView V) → RootShown LockRootView → Bool → Bool → PassShown (LotPassView V)
    → RootShown LotRootView → Type 0
Passes {V} p q fair more p' q' =
    ((y : V) → IsIn p.own.locks q.key y
    → NotesIn lock p (letting_go p.own.locks q.key y) (Makes (Pass p.thread q.key fair more) (Sleeper (first q.own.line))) p')
    × (q' ≡ whole_root lock (record q { own = passed_root q.own fair q.own.line }))

abbrev pub Enlists : {V : Type 0} → PassShown (LotPassView V) → RootShown CondRootView → ℕ → PassShown (LotPassView V)
    → RootShown LotRootView
    → Type 0
Enlists p q l p' q' = NotesIn cond p (enlisted p.own.conds q.key) (Makes (Enlist p.thread q.key l) Done) p'
    × (q' ≡ whole_root cond (record q { own = enlisted_root q.own p.thread }))

abbrev pub Looks : {V : Type 0} → PassShown (LotPassView V) → ℕ → ℕ → PassShown (LotPassView V) → Type 0
Looks p c n q = NotesIn cond p p.own.conds (Makes (Look p.thread c) (Saw (n == 1))) q

abbrev pub Lowers : {V : Type 0} → PassShown (LotPassView V) → ℕ → PassShown (LotPassView V) → Type 0
Lowers p c q = NotesIn cond p (lowering p.own.conds c) (Makes (Lower p.thread c) Done) q

abbrev pub CallsSome : {V : Type 0} → PassShown (LotPassView V) → RootShown CondRootView → ℕ → Bool → PassShown (LotPassView V)
    → RootShown LotRootView → Type 0
CallsSome p q n more p' q' =
    NotesIn cond p (called_more p.own.conds q.key (dequeued_count n q.own.line))
    (Makes (Call p.thread q.key n more) (Count (dequeued_count n q.own.line))) p'
    × (q' ≡ whole_root cond (record q { own = called_root q.own n }))

abbrev pub Sweeps : {V : Type 0} → PassShown (LotPassView V) → RootShown CondRootView → PassShown (LotPassView V) → RootShown LotRootView
    → Type 0
Sweeps p q p' q' =
    NotesIn cond p (swept_pass p.own.conds q.key (length q.own.line)) (Makes (Sweep p.thread q.key) (Count (length q.own.line))) p'
    × (q' ≡ whole_root cond (record q { own = swept_root q.own }))

module _ {V Part : Type 0} (rule : CallersRule V Part) (z : LotSize) (xs : List V) where
  -- ---- what is carried, of one step
  module _ (j : Which) (p : PassShown (LotPassView V)) where
    -- in each world that knows the pass, the access is one that its thread may make
    abbrev pub MaySpeak : Access → Type 0
    MaySpeak a = (w : LotWorld rule z xs) (ws : List ℕ) (hs : List (maybe.Option (Option V))) → LotFits rule z xs w ws hs
        → LotPassIs rule z xs w p.thread p.own → Speaks rule z xs j w a

    abbrev pub Carried : (PassShown (LotPassView V) → Type 0) → PassIn V j → Access → Type 0
    Carried whole own a = MayBeAway j p.own own × MaySpeak a × ((k : ℕ) → whole (pass_after p (lot_own j p.own own a) k a))

    -- a step whose entry is known
    pub carry : (own' : PassIn V j) (a' : Access) (whole : PassShown (LotPassView V) → Type 0) → MayBeAway j p.own own' → MaySpeak a'
        → ((k : ℕ) → whole (pass_after p (lot_own j p.own own' a') k a')) → (own : PassIn V j) (a : Access)
        → Notes (part_pass j p) own' a' (pass_after (part_pass j p) own 0 a) → Carried whole own a
    carry own' a' whole may speaks told own a notes =
        let t = notes_tell (part_pass j p) own own' a a' notes in (
          subst (MayBeAway j p.own) (sym t.0) may,
          subst MaySpeak (sym t.1) speaks,
          λ k. subst (λ b. whole (pass_after p (lot_own j p.own own b) k b)) (sym t.1)
              (subst (λ o. whole (pass_after p (lot_own j p.own o a') k a')) (sym t.0) (told k)),
        )

    -- the place of a key
    pub at_key : (c : ℕ) → IsKeyIn z j c → (w : LotWorld rule z xs) (ws : List ℕ) (hs : List (maybe.Option (Option V)))
        → LotFits rule z xs w ws hs → LotPassIs rule z xs w p.thread p.own
        → InPlace rule z xs j w (word_at c)
    at_key c is w ws hs ok fit = inl (c, (is, refl))

  -- the same of a pass and a root
  module _ (j : Which) (p : PassShown (LotPassView V)) (q : RootShown (RootIn j)) where
    abbrev pub MaySpeakBoth : Access → Type 0
    MaySpeakBoth a = (w : LotWorld rule z xs) (ws : List ℕ) (hs : List (maybe.Option (Option V))) → LotFits rule z xs w ws hs
        → LotPassIs rule z xs w p.thread p.own
        → LotRootIs rule z xs w q.key (root_from j q.own) → Speaks rule z xs j w a

    pub carry_both : (own' : PassIn V j) (its' : RootIn j) (a' : Access)
        (whole : PassShown (LotPassView V) → RootShown LotRootView → Type 0)
        → MayBeAway j p.own own' → MaySpeakBoth a'
        → ((k : ℕ) → whole (pass_after p (lot_own j p.own own' a') k a') (whole_root j (record q { own = its' })))
        → (own : PassIn V j) (its : RootIn j) (a : Access) → Notes (part_pass j p) own' a' (pass_after (part_pass j p) own 0 a)
        → record q { own = its } ≡ record q { own = its' }
        → MayBeAway j p.own own × MaySpeakBoth a
        × ((k : ℕ) → whole (pass_after p (lot_own j p.own own a) k a) (whole_root j (record q { own = its })))
    carry_both own' its' a' whole may speaks told own its a notes root =
        let t = notes_tell (part_pass j p) own own' a a' notes in
        let r : its ≡ its' = ap (λ (y : RootShown (RootIn j)). y.own) root in (
          subst (MayBeAway j p.own) (sym t.0) may,
          subst MaySpeakBoth (sym t.1) speaks,
          λ k. subst (λ b. whole (pass_after p (lot_own j p.own own b) k b) (whole_root j (record q { own = its }))) (sym t.1)
              (subst (λ o. whole (pass_after p (lot_own j p.own o a') k a') (whole_root j (record q { own = its }))) (sym t.0)
              (subst (λ i. whole (pass_after p (lot_own j p.own own' a') k a') (whole_root j (record q { own = i }))) (sym r) (told k))),
        )

  -- ---- locks
  module _ (p : PassShown (LotPassView V)) (l : ℕ) (here : l < z.locks) where
    is_lock : IsKeyIn z lock l
    is_lock = (omega arith, omega arith)

    -- who may take is up, and wants no other lock
    takes_up : MayTake p.own l → IsUp p.own
    takes_up (inl h) = h.0
    takes_up (inr h) = h.0.up

    takes_aims : MayTake p.own l → Aims p.own.locks l
    takes_aims (inl h) k e = let f : Some k ≡ Some l = sym e ∙ h.1 in cc
    takes_aims (inr h) k e = absurd (no_aim k (sym h.0.aim ∙ e))

    -- a Take that got the lock, and one whatever it saw
    speaks_got : MayTake p.own l → MaySpeak lock p (Makes (Take p.thread l) (Saw true))
    speaks_got may w ws hs ok fit =
        (tt, may_take rule z xs w ws hs ok p.thread p.own fit l may, got_lock rule.above w.whole p.thread l)

    may_speak : MayWant rule.above p.own l → (saw : Bool) → MaySpeak lock p (Makes (Take p.thread l) (Saw saw))
    may_speak may saw w ws hs ok fit =
        (tt, may_take rule z xs w ws hs ok p.thread p.own fit l may.0, λ _. keeps_take rule z xs w ws hs ok p.thread p.own fit l may)

    carries_takes : MayWant rule.above p.own l → CarriesPass rule z xs lock p (locks.Takes rule (part_pass lock p) l) (Takes rule p l)
    carries_takes may n own a told = by (bit_and n 1 == 0) (told 0)
      where
        by : (b : Bool) → MatchBool b ((x : V) × FoundOk rule l p.thread p.own.locks x
            × Notes (part_pass lock p) (owning p.own.locks l x) (Makes (Take p.thread l) (Saw true))
            (pass_after (part_pass lock p) own 0 a))
            (Notes (part_pass lock p) (wanting p.own.locks l) (Makes (Take p.thread l) (Saw false)) (pass_after (part_pass lock p) own 0 a))
            → Carried lock p (λ q. MatchBool b (GetsBy rule p l (Makes (Take p.thread l) (Saw true)) q)
            (NotesIn lock p (wanting p.own.locks l) (Makes (Take p.thread l) (Saw false)) q)) own a
        by true h = carry lock p (owning p.own.locks l h.0) (Makes (Take p.thread l) (Saw true))
            (GetsBy rule p l (Makes (Take p.thread l) (Saw true))) (λ up. inl up) (may_speak may true)
            (λ k. (h.0, h.1, (k, refl))) own a h.2
        by false h = carry lock p (wanting p.own.locks l) (Makes (Take p.thread l) (Saw false))
            (NotesIn lock p (wanting p.own.locks l) (Makes (Take p.thread l) (Saw false))) (λ up. inl up) (may_speak may false)
            (λ k. (k, refl)) own a h

    pub takes : MayWant rule.above p.own l → AllowsPass (lot_meaning rule z xs) (word_at l) (λ n. bit_or n 1) p (Takes rule p l)
    takes may = lifts_pass rule z xs lock (word_at l) (λ n. bit_or n 1) p (locks.Takes rule (part_pass lock p) l) (Takes rule p l)
        (locks.takes rule (lock_size z) xs (part_pass lock p) l here (takes_up may.0 lock) (takes_aims may.0)) (at_key lock p l is_lock)
        (carries_takes may)

    -- ---- the other calls of locks
    idle_aims : IsIdle p.own → Aims p.own.locks l
    idle_aims idle k e = absurd (no_aim k (sym idle.0.aim ∙ e))

    carries_tries : IsIdle p.own → CarriesPass rule z xs lock p (locks.Tries rule (part_pass lock p) l) (Tries rule p l)
    carries_tries idle n own a told = by (bit_and n 1 == 0) (told 0)
      where
        by : (b : Bool) → MatchBool b ((x : V) × FoundOk rule l p.thread p.own.locks x
            × Notes (part_pass lock p) (owning p.own.locks l x) (Makes (Try p.thread l) (Saw true))
            (pass_after (part_pass lock p) own 0 a))
            (Notes (part_pass lock p) p.own.locks (Makes (Try p.thread l) (Saw false)) (pass_after (part_pass lock p) own 0 a))
            → Carried lock p (λ q. MatchBool b (GetsBy rule p l (Makes (Try p.thread l) (Saw true)) q)
            (NotesIn lock p p.own.locks (Makes (Try p.thread l) (Saw false)) q)) own a
        by true h = carry lock p (owning p.own.locks l h.0) (Makes (Try p.thread l) (Saw true))
            (GetsBy rule p l (Makes (Try p.thread l) (Saw true))) (λ up. inl up)
            (λ w ws hs ok fit. (tt, idle_calm rule z xs w ws hs ok p.thread p.own fit idle, λ _. tt)) (λ k. (h.0, h.1, (k, refl))) own a h.2
        by false h = carry lock p p.own.locks (Makes (Try p.thread l) (Saw false))
            (NotesIn lock p p.own.locks (Makes (Try p.thread l) (Saw false))) (λ up. inl up)
            (λ w ws hs ok fit. (tt, idle_calm rule z xs w ws hs ok p.thread p.own fit idle, λ _. tt)) (λ k. (k, refl)) own a h

    pub tries : IsIdle p.own → AllowsPass (lot_meaning rule z xs) (word_at l) (λ n. bit_or n 1) p (Tries rule p l)
    tries idle = lifts_pass rule z xs lock (word_at l) (λ n. bit_or n 1) p (locks.Tries rule (part_pass lock p) l) (Tries rule p l)
        (locks.tries rule (lock_size z) xs (part_pass lock p) l here (idle.0.up lock) idle.0.aim) (at_key lock p l is_lock)
        (carries_tries idle)

    -- the word was found to be x
    finds : (x : ℕ) (then : PassShown (LotPassView V) → Type 0) → ((q : PassShown (LotPassView V)) → FindsOf p l x q → then q)
        → (own : LockPassView V) (a : Access)
        → Notes (part_pass lock p) p.own.locks (Finds p.thread l x) (pass_after (part_pass lock p) own 0 a)
        → Carried lock p then own a
    finds x then told = carry lock p p.own.locks (Finds p.thread l x) then (λ up. inl up)
        (λ w ws hs ok fit. is_lock) (λ k. told _ (k, refl))

    carries_takes_free : MayTake p.own l → CarriesPass rule z xs lock p (locks.TakesFree rule (part_pass lock p) l) (TakesFree rule p l)
    carries_takes_free may n own a told = by (n == 0) (told 0)
      where
        by : (b : Bool) → MatchBool b ((x : V) × FoundOk rule l p.thread p.own.locks x
            × Notes (part_pass lock p) (owning p.own.locks l x) (Makes (Take p.thread l) (Saw true))
            (pass_after (part_pass lock p) own 0 a))
            (Notes (part_pass lock p) p.own.locks (Finds p.thread l n) (pass_after (part_pass lock p) own 0 a))
            → Carried lock p (λ q. MatchBool b (GetsBy rule p l (Makes (Take p.thread l) (Saw true)) q)
            (FindsOf p l n q)) own a
        by true h = carry lock p (owning p.own.locks l h.0) (Makes (Take p.thread l) (Saw true))
            (GetsBy rule p l (Makes (Take p.thread l) (Saw true))) (λ up. inl up) (speaks_got may)
            (λ k. (h.0, h.1, (k, refl))) own a h.2
        by false h = finds n (FindsOf p l n) (λ q f. f) own a h

    pub takes_free : MayTake p.own l → AllowsPass (lot_meaning rule z xs) (word_at l) (λ n. either (n == 0) 1 n) p (TakesFree rule p l)
    takes_free may = lifts_pass rule z xs lock (word_at l) (λ n. either (n == 0) 1 n) p (locks.TakesFree rule (part_pass lock p) l)
        (TakesFree rule p l)
        (locks.takes_free rule (lock_size z) xs (part_pass lock p) l here (takes_up may lock) (takes_aims may)) (at_key lock p l is_lock)
        (carries_takes_free may)

    carries_marks : MayLineUp p.own l → CarriesPass rule z xs lock p (locks.Marks (part_pass lock p) l) (Marks p l)
    carries_marks may n own a told = by (n == 1) (told 0)
      where
        by : (b : Bool) → MatchBool b (Notes (part_pass lock p) p.own.locks (Makes (Mark p.thread l) Done)
            (pass_after (part_pass lock p) own 0 a))
            ((x : ℕ) × (x ≢ 1) × Notes (part_pass lock p) p.own.locks (Finds p.thread l x) (pass_after (part_pass lock p) own 0 a))
            → Carried lock p (λ q. MatchBool b (NotesIn lock p p.own.locks (Makes (Mark p.thread l) Done) q)
            ((x : ℕ) × (x ≢ 1) × FindsOf p l x q)) own a
        by true h = carry lock p p.own.locks (Makes (Mark p.thread l) Done) (NotesIn lock p p.own.locks (Makes (Mark p.thread l) Done))
            (λ up. inl up)
            (λ w ws hs ok fit. (tt, may_line_up rule z xs w ws hs ok p.thread p.own fit l may, λ _. tt)) (λ k. (k, refl)) own a h
        by false h = finds h.0 (λ q. (x : ℕ) × (x ≢ 1) × FindsOf p l x q) (λ q f. (h.0, h.1, f)) own a h.2

    pub marks : MayLineUp p.own l → AllowsPass (lot_meaning rule z xs) (word_at l) (λ n. either (n == 1) 3 n) p (Marks p l)
    marks may = lifts_pass rule z xs lock (word_at l) (λ n. either (n == 1) 3 n) p (locks.Marks (part_pass lock p) l) (Marks p l)
        (locks.marks rule (lock_size z) xs (part_pass lock p) l here (may.0 lock) may.1) (at_key lock p l is_lock) (carries_marks may)

    -- ---- letting go
    module _ (may : MayLetGo p.own l) (holds : Holds p.own.locks l) (y : V) (lies : IsIn p.own.locks l y) where
      go_up : MayLetGo p.own l → (p.own.locks.asleep ≡ false) × (p.own.locks.aim ≡ None)
      go_up (inl idle) = (idle.0.up lock, idle.0.aim)
      go_up (inr h) = (h.0, h.1)

      speaks_free : (saw : Bool) → MaySpeak lock p (Makes (Free p.thread l) (Saw saw))
      speaks_free saw w ws hs ok fit = (tt, may_let_go rule z xs w ws hs ok p.thread p.own fit l may, λ _. tt)

      carries_frees : CarriesPass rule z xs lock p (locks.Frees (part_pass lock p) l) (Frees p l)
      carries_frees n own a told = by (n == 1) (told 0)
        where
          by : (b : Bool) → MatchBool b ((x : V) → IsIn p.own.locks l x
              → Notes (part_pass lock p) (letting_go p.own.locks l x) (Makes (Free p.thread l) (Saw true))
              (pass_after (part_pass lock p) own 0 a))
              (Notes (part_pass lock p) (finding_parked p.own.locks l) (Makes (Free p.thread l) (Saw false))
              (pass_after (part_pass lock p) own 0 a))
              → Carried lock p (λ q. MatchBool b
              ((x : V) → IsIn p.own.locks l x → NotesIn lock p (letting_go p.own.locks l x) (Makes (Free p.thread l) (Saw true)) q)
              (NotesIn lock p (finding_parked p.own.locks l) (Makes (Free p.thread l) (Saw false)) q)) own a
          by true h = carry lock p (letting_go p.own.locks l y) (Makes (Free p.thread l) (Saw true))
              (λ q. (x : V) → IsIn p.own.locks l x → NotesIn lock p (letting_go p.own.locks l x) (Makes (Free p.thread l) (Saw true)) q)
              (λ up. inl up) (speaks_free true)
              (λ k x at. (
                k,
                ap (λ v. pass_after p (lot_own lock p.own (letting_go p.own.locks l v) (Makes (Free p.thread l) (Saw true))) k
                    (Makes (Free p.thread l) (Saw true))) (locks.same_in p.own.locks l y x lies at),
              ))
              own a (h y lies)
          by false h = carry lock p (finding_parked p.own.locks l) (Makes (Free p.thread l) (Saw false))
              (NotesIn lock p (finding_parked p.own.locks l) (Makes (Free p.thread l) (Saw false))) (λ up. inl up)
              (speaks_free false) (λ k. (k, refl)) own a h

      pub frees : AllowsPass (lot_meaning rule z xs) (word_at l) (λ n. either (n == 1) 0 n) p (Frees p l)
      frees = lifts_pass rule z xs lock (word_at l) (λ n. either (n == 1) 0 n) p (locks.Frees (part_pass lock p) l) (Frees p l)
          (locks.frees rule (lock_size z) xs (part_pass lock p) l here (go_up may).0 (go_up may).1 holds y lies)
          (at_key lock p l is_lock) carries_frees

  -- ---- locks, with their roots
  module _ (p : PassShown (LotPassView V)) (q : RootShown LockRootView) where
    pub parks : MayLineUp p.own q.key → AllowsBoth (lot_meaning rule z xs) (word_at q.key) (λ n. n) p (whole_root lock q) (Parks p q)
    parks may = lifts_both rule z xs lock (λ n. n) p q (locks.Parks (part_pass lock p) q) (Parks p q)
        (lock_roots.parks rule (lock_size z) xs (part_pass lock p) q (may.0 lock) may.1)
        (λ n own its a told. carry_both lock p q (parked_pass p.own.locks (n == 3)) (parked_root q.own p.thread (n == 3))
        (Makes (Park p.thread q.key) (Saw (n == 3))) (Parks p q n)
        (λ up. inr (λ k ne. may.0 k)) (λ w ws hs ok fit root. (tt, tt, λ _. tt)) (λ k. ((k, refl), refl)) own its a (told 0).0 (told 0).1)

    module _ (may : MayLetGo p.own q.key) (holds : HoldsParked p.own.locks q.key) (y : V) (lies : IsIn p.own.locks q.key y)
        (paid : q.own.owes ≡ None) (more : Bool) where
      let_up : MayLetGo p.own q.key → (p.own.locks.asleep ≡ false) × (p.own.locks.aim ≡ None)
      let_up (inl idle) = (idle.0.up lock, idle.0.aim)
      let_up (inr h) = (h.0, h.1)

      carries_passes : (fair : Bool)
          → CarriesBoth rule z xs lock p q (λ n. lock_roots.Passes (part_pass lock p) q q.own.line fair more) (λ n. Passes p q fair more)
      carries_passes fair n own its a told =
          let e : Access = Makes (Pass p.thread q.key fair more) (Sleeper (first q.own.line)) in
          carry_both lock p q (letting_go p.own.locks q.key y) (passed_root q.own fair q.own.line) e (Passes p q fair more) (λ up. inl up)
          (λ w ws hs ok fit root. (tt, may_let_go rule z xs w ws hs ok p.thread p.own fit q.key may, λ _. tt))
          (λ k. (
            (λ x at. (
              k,
              ap (λ v. pass_after p (lot_own lock p.own (letting_go p.own.locks q.key v) e) k e)
                  (locks.same_in p.own.locks q.key y x lies at),
            )),
            refl,
          )) own its a
          ((told 0).0 y lies) (told 0).1

      pub passes_store : SaysMore q.own.line more → (x : ℕ) → x ≡ word_left (first q.own.line) more
          → AllowsBoth (lot_meaning rule z xs) (word_at q.key) (λ _. x) p (whole_root lock q) (λ _. Passes p q false more)
      passes_store says x is = lifts_both rule z xs lock (λ _. x) p q (λ _. lock_roots.Passes (part_pass lock p) q q.own.line false more)
          (λ _. Passes p q false more)
          (lock_roots.stores rule (lock_size z) xs (part_pass lock p) q (let_up may).0 (let_up may).1 holds y lies paid more says x is)
          (carries_passes false)

      pub passes_load : (first q.own.line ≡ None → ⊥)
          → AllowsBoth (lot_meaning rule z xs) (word_at q.key) (λ n. n) p (whole_root lock q) (λ _. Passes p q true more)
      passes_load some = lifts_both rule z xs lock (λ n. n) p q (λ _. lock_roots.Passes (part_pass lock p) q q.own.line true more)
          (λ _. Passes p q true more)
          (lock_roots.loads rule (lock_size z) xs (part_pass lock p) q (let_up may).0 (let_up may).1 holds y lies paid more some)
          (carries_passes true)

  -- ---- conditions
  idle_calms : (p : LotPassView V) → IsIdle p → IsCalm p.conds
  idle_calms p idle = (out_none p.conds.out (idle.0.up cond), idle.0.sweeps)

  module _ (p : PassShown (LotPassView V)) (c : ℕ) (among : IsKeyIn z cond c) (idle : IsIdle p.own) where
    pub looks : AllowsPass (lot_meaning rule z xs) (word_at c) (λ n. n) p (Looks p c)
    looks = lifts_pass rule z xs cond (word_at c) (λ n. n) p (conds.Looks (part_pass cond p) c) (Looks p c)
        (conds.looks (cond_size z) (part_pass cond p) c among (idle_calms p.own idle))
        (at_key cond p c among)
        (λ n own a told. carry cond p p.own.conds (Makes (Look p.thread c) (Saw (n == 1))) (Looks p c n) (λ up. inl up)
        (λ w ws hs ok fit. (tt, idle_calm rule z xs w ws hs ok p.thread p.own fit idle, λ _. tt)) (λ k. (k, refl)) own a (told 0))

    pub lowers : AllowsPass (lot_meaning rule z xs) (word_at c) (λ _. 0) p (λ _. Lowers p c)
    lowers = lifts_pass rule z xs cond (word_at c) (λ _. 0) p (λ _. conds.Lowers (part_pass cond p) c) (λ _. Lowers p c)
        (conds.lowers (cond_size z) (part_pass cond p) c among (idle_calms p.own idle)) (at_key cond p c among)
        (λ n own a told. carry cond p (lowering p.own.conds c) (Makes (Lower p.thread c) Done) (Lowers p c) (λ up. inl up)
        (λ w ws hs ok fit. (tt, idle_calm rule z xs w ws hs ok p.thread p.own fit idle, λ _. tt)) (λ k. (k, refl)) own a (told 0))

  -- ---- conditions, with their roots
  module _ (p : PassShown (LotPassView V)) (q : RootShown CondRootView) where
    pub enlists : IsIdle p.own → (l : ℕ) → l < z.locks → Holds p.own.locks l
        → MayWait rule.above (keys_of p.own) q.key l
        → AllowsBoth (lot_meaning rule z xs) (word_at q.key) (λ _. 1) p (whole_root cond q) (λ _. Enlists p q l)
    enlists idle l near holds above = lifts_both rule z xs cond (λ _. 1) p q (λ _. conds.EnlistsWith l (part_pass cond p) q)
        (λ _. Enlists p q l)
        (conds.enlists_with (cond_size z) (part_pass cond p) q l near (idle_calms p.own idle))
        (λ n own its a told. carry_both cond p q (enlisted p.own.conds q.key) (enlisted_root q.own p.thread)
        (Makes (Enlist p.thread q.key l) Done) (Enlists p q l)
        (λ up. inr (λ k ne. idle.0.up k))
        (λ w ws hs ok fit root. (
          tt,
          (
            idle_calm rule z xs w ws hs ok p.thread p.own fit idle,
            has rule z xs w ws hs ok p.thread p.own fit l
                holds,
          ),
          λ _. keeps_enlist rule z xs w ws hs ok p.thread p.own fit q.key l idle above,
        )) (λ k. ((k, refl), refl)) own its a (told 0).0 (told 0).1)

    module _ (idle : IsIdle p.own) (n : ℕ) (more : Bool) (few : IsCallCount n) (says : SaysMoreBehind n q.own.line more) where
      carries_calls : CarriesBoth rule z xs cond p q (λ _. conds.Calls (part_pass cond p) q n more) (λ _. CallsSome p q n more)
      carries_calls x own its a told =
          carry_both cond p q (called_more p.own.conds q.key (dequeued_count n q.own.line)) (called_root q.own n)
          (Makes (Call p.thread q.key n more) (Count (dequeued_count n q.own.line))) (CallsSome p q n more) (λ up. inl up)
          (λ w ws hs ok fit root. (tt, idle_calm rule z xs w ws hs ok p.thread p.own fit idle, λ _. tt)) (λ k. ((k, refl), refl)) own its a
          (told 0).0 (told 0).1

      pub call_loads : more ≡ true → 0 < dequeued_count n q.own.line
          → AllowsBoth (lot_meaning rule z xs) (word_at q.key) (λ n. n) p (whole_root cond q) (λ _. CallsSome p q n more)
      call_loads is some = lifts_both rule z xs cond (λ n. n) p q (λ _. conds.Calls (part_pass cond p) q n more) (λ _. CallsSome p q n more)
          (conds.call_loads (cond_size z) (part_pass cond p) q (idle_calms p.own idle) n more few says is some) carries_calls

      pub call_stores : (dequeued_count n q.own.line ≡ 0) ⊎ (more ≡ false)
          → AllowsBoth (lot_meaning rule z xs) (word_at q.key) (λ _. 0) p (whole_root cond q) (λ _. CallsSome p q n more)
      call_stores last = lifts_both rule z xs cond (λ _. 0) p q (λ _. conds.Calls (part_pass cond p) q n more) (λ _. CallsSome p q n more)
          (conds.call_stores (cond_size z) (part_pass cond p) q (idle_calms p.own idle) n more few says last) carries_calls

    pub sweeps : MaySweep p.own q.key → AllowsBoth (lot_meaning rule z xs) (word_at q.key) (λ n. n) p (whole_root cond q) (λ _. Sweeps p q)
    sweeps may = lifts_both rule z xs cond (λ n. n) p q (λ _. conds.Sweeps (part_pass cond p) q) (λ _. Sweeps p q)
        (conds.sweeps (cond_size z) (part_pass cond p) q may.1)
        (λ n own its a told. carry_both cond p q (swept_pass p.own.conds q.key (length q.own.line)) (swept_root q.own)
        (Makes (Sweep p.thread q.key) (Count (length q.own.line))) (Sweeps p q)
        (λ up. inl up) (λ w ws hs ok fit root. (tt, tt, λ _. tt)) (λ k. ((k, refl), refl)) own its a (told 0).0 (told 0).1)
