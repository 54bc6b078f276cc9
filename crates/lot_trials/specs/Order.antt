-- What callers conclude of the one history of their lot: of one wait and one notification, which came first; of a
-- count, what came before it.
use Rattle.std.specs.Prelude.{◌≡◌, ℕ, ◌*◌, ◌++◌, Bool, List, [], ◌∷◌, Some, slice_index}
use Rattle.std.specs.List.{All}
use Rattle.lot_core.specs.Model.{StateView}
use Rattle.lot_events.specs.declared.events.Event.TheVariants.{Enlist, Call}
use Rattle.lot_events.specs.declared.events.Seen.TheVariants.{Done, Count}
use Rattle.lot_rights.specs.declared.views.Access.{Access}
use Rattle.lot_rights.specs.declared.views.Access.TheVariants.{Makes, Collects}
use Rattle.lot_rights.specs.declared.views.Entry.{Entry}
use Rattle.lot_rights.specs.History.{Telling, doer}
use Rattle.lot_words.specs.Rested.{Rested}
use Rattle.lot_whole.specs.Family.{cond}
use Rattle.lot_whole.specs.Order.{IsLogOf, IsTaking}
use Rattle.lot_scheme.specs.Counts.{IsContention, CountsOf}
use Rattle.lot_scheme.specs.declared.contention.Contention.{Contention}
use Rattle.lot_scheme.specs.Roots.{size_named}
use Rattle.lot_sync.specs.Lot.{LotView, PassView, LotNames, one_wait_more, called_more}
use Rattle.lot_trials.specs.Counting.{EndsAs}

-- ---- accesses
-- it takes nobody from the line of c
abbrev pub TakesNone : ℕ → Access → Type 0
TakesNone c a = ¬ IsTaking cond c a

-- it takes nobody from the line of c, but by a Call of one of this thread
abbrev pub IsOwnCall : ℕ → ℕ → Access → Type 0
IsOwnCall c t a = IsTaking cond c a → (more : Bool) × (n : ℕ) × (a ≡ Makes (Call t c 1 more) (Count n))

module _ {V : Type 0} where
  -- ---- passes
  -- nothing was counted of c and nothing was made with a pass that is in
  pub record IsUnused (c : ℕ) (r : Rested V) : Type 0 where
    pub called : slice_index r.called c ≡ 0
    pub woken : slice_index r.woken c ≡ 0
    pub made : r.made ≡ []

  abbrev pub HasTakenNone : ℕ → PassView V → Type 0
  HasTakenNone c p = All (TakesNone c) p.made

  abbrev pub HasCalled : ℕ → PassView V → Type 0
  HasCalled c p = All (IsOwnCall c p.thread) p.made

  -- with the pass a wait was made on c: its thread was queued there, and later collected its letter
  pub record HasWaited (c : ℕ) (p : PassView V) : Type 0 where
    pub lock : ℕ
    pub front : List Access
    pub between : List Access
    pub back : List Access
    pub made : p.made ≡ front ++ Makes (Enlist p.thread c lock) Done ∷ (between ++ Collects p.thread (Some 0) ∷ back)

  -- q is the pass p after one wait on the condition 1, and after one notification of it
  pub record WaitsOnce (lot : LotView) (p q : PassView V) : Type 0 where
    pub ends : EndsAs lot (one_wait_more p 1) q
    pub waited : HasWaited 1 q
    pub none : HasTakenNone 1 p → HasTakenNone 1 q

  pub record CallsOnce (lot : LotView) (p q : PassView V) : Type 0 where
    pub ends : EndsAs lot (called_more p 1 1) q
    pub called : HasTakenNone 1 p → HasCalled 1 q

-- ---- the history
-- In the one history of the lot of this name the caller took one thread from the line of c, by a Call of one that saw
-- one, and after that the waiter collected a letter with token 0
pub record IsNotifiedFirst {V : Type 0} (names : LotNames V) (waiter caller c : ℕ) : Type 0 where
  pub log : List Entry
  pub end : Telling StateView
  pub history : IsLogOf (size_named names.threads names.locks names.conds names.permits) log end
  pub before : List Entry
  pub call : Entry
  pub between : List Entry
  pub letter : Entry
  pub after : List Entry
  pub there : log ≡ before ++ call ∷ (between ++ letter ∷ after)
  pub more : Bool
  pub called : call.access ≡ Makes (Call caller c 1 more) (Count 1)
  pub collected : letter.access ≡ Collects waiter (Some 0)

-- In the one history of the lot of this name the thread t counted the key, and of what came before that the answer
-- tells
pub record IsToldOf {V : Type 0} (names : LotNames V) (t key : ℕ) (c : Contention) : Type 0 where
  pub log : List Entry
  pub end : Telling StateView
  pub history : IsLogOf (size_named names.threads names.locks names.conds names.permits) log end
  pub before : List Entry
  pub count : Entry
  pub after : List Entry
  pub there : log ≡ before ++ count ∷ after
  pub made : doer count.access ≡ 2 * t
  pub told : CountsOf (λ p k h. IsContention p k h c) before key
