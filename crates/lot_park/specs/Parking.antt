-- What the callbacks of the parking lot are told, and what is asked of them. What a root is seen as is
-- handed in as a function.
use Rattle.std.specs.Prelude.{◌≡◌, ℕ, zero, suc, ◌<◌, ◌≤◌, ◌==◌, ◌&&◌, cond, min, Bool, true, false, List, [], ◌∷◌, ◌++◌, take, drop}
use Rattle.std.specs.Prelude.{length, Option, Some, None, IsSome, MatchBool}
use Rattle.lot_bucket.specs.Queue.{first_of}
use Rattle.lot_bucket.specs.Places.{has_key, root_at, with_root}
use Rattle.lot_bucket.specs.Contents.{Contents}
use Rattle.lot_bucket.specs.KeyLine.{KeyLine}
use Rattle.lot_bucket.specs.Agrees.{Agrees}
use Rattle.lot_bucket.specs.Taking.{TakesOne, TakesFirst}
use Rattle.lot_bucket.specs.declared.taking.Moment.{Moment}
use Rattle.lot_bucket.specs.declared.taking.Dequeued.{Dequeued}
use Rattle.lot_park.specs.declared.lot.Parked.{Parked}
use Rattle.lot_park.specs.declared.lot.Parked.TheVariants.{Invalid, Woken}

-- what an unparking at the moment now tells of the line that it finds
pub record Tells (line : List ℕ) (now : ℕ) (told : Dequeued) : Type 0 where
  pub thread : told.thread ≡ first_of line
  pub alone : IsSome told.thread → told.more ≡ false → drop 1 line ≡ []
  pub more : told.more ≡ true → IsSome told.thread
  pub fair : told.fair ≡ true → IsSome told.thread × (0 < now)

-- what an unparking of at most n tells of the line that it finds: how many it took, and whether more may wait. No line
-- is longer than the lot has threads.
pub record TellsCount (threads n : ℕ) (line : List ℕ) (taken : ℕ) (more : Bool) : Type 0 where
  pub number : taken ≡ min n (length line)
  pub alone : 1 ≤ n → more ≡ false → drop n line ≡ []
  pub others : more ≡ true → 0 < taken
  pub short : length line ≤ threads

-- the letter that is owed to the thread that was taken, if one was
abbrev pub debt : Option ℕ → ℕ → List (ℕ × ℕ)
debt None token = []
debt (Some thread) token = (thread, token) ∷ []

-- a letter with token 0 for each thread of a line
abbrev pub debts : List ℕ → List (ℕ × ℕ)
debts [] = []
debts (thread ∷ line) = (thread, 0) ∷ debts line

-- debts, but for the first letter with this token to this thread
abbrev pub without_debt : ℕ → ℕ → List (ℕ × ℕ) → List (ℕ × ℕ)
without_debt thread token [] = []
without_debt thread token (d ∷ ds) = cond (d.0 == thread && d.1 == token) ds (d ∷ without_debt thread token ds)

-- Looks for a letter: the pass before, the token that was found, if any, and the pass after.
module _ {P : Type 0} (looked : P → Option ℕ → P → Type 0) where
  -- so many looks, one after the other, that found nothing
  abbrev pub LooksInVain : ℕ → P → P → Type 0
  LooksInVain zero p q = q ≡ p
  LooksInVain (suc n) p q = (m : P) × LooksInVain n p m × looked m None q

  -- some looks that found nothing, and then one that found the token
  pub record Awaited (before : P) (token : ℕ) (after : P) : Type 0 where
    pub looks : ℕ
    pub last : P
    pub in_vain : LooksInVain looks before last
    pub found : looked last (Some token) after

-- how a parking ended: invalid, or woken with a token
abbrev pub Ends : Parked → Type 0 → (ℕ → Type 0) → Type 0
Ends Invalid invalid woken = invalid
Ends (Woken token) invalid woken = woken token.0

module _ {R : Type 0} (view : R → KeyLine) where
  -- the bucket is open, agrees, and has key k
  pub record IsOpenFor (k : ℕ) (b : Contents R) : Type 0 where
    pub agrees : Agrees view b
    pub is_open : b.opened ≡ true
    pub has : has_key k b.places ≡ true

  -- The callback of an unparking may be called with the key's root, which owes nothing, and what is told.
  abbrev pub MayUnpark : ℕ → ℕ → (R → Dequeued → Type 0) → Type 0
  MayUnpark k now may = (root : R) (told : Dequeued) → (view root).key ≡ k → (view root).owes ≡ []
      → Tells (view root).line now told → may root told

  -- It gives the root back without the first of its line, owing just that thread the token; or, where
  -- nobody waited, owing nothing.
  abbrev pub Unparks : {X T : Type 0} → (T → ℕ) → ℕ → ℕ → (R → Dequeued → X × R × T → Type 0) → Type 0
  Unparks {X} {T} number k now answers =
      (root : R) (told : Dequeued) (answer : X × R × T) → (view root).key ≡ k → (view root).owes ≡ [] → Tells (view root).line now told
      → answers root told answer
      → ((view answer.1).key ≡ k) × ((view answer.1).line ≡ drop 1 (view root).line)
      × ((view answer.1).owes ≡ debt told.thread (number answer.2))

  -- The validation of a parking may be called with the key's root, which owes nothing.
  abbrev pub MayValidate : ℕ → (R → Type 0) → Type 0
  MayValidate k may = (root : R) → (view root).key ≡ k → (view root).owes ≡ [] → may root

  -- Where it says yes, it gives the root back with the caller last in its line; where it says no,
  -- unchanged. The pass stays that of the caller.
  abbrev pub Validates : {X P : Type 0} → (P → ℕ) → ℕ → ℕ → (R → X × P × R × Bool → Type 0) → Type 0
  Validates {X} {P} thread k caller answers =
      (root : R) (answer : X × P × R × Bool) → (view root).key ≡ k → (view root).owes ≡ [] → answers root answer
      → (thread answer.1 ≡ caller) × ((view answer.2).key ≡ k) × ((view answer.2).owes ≡ [])
      × (answer.3 ≡ true → (view answer.2).line ≡ (view root).line ++ caller ∷ []) × (answer.3 ≡ false → answer.2 ≡ root)

  -- A validation queued the thread, last in the line; or it did not, and the root is as it was.
  pub record Queues {P : Type 0} (thread : P → ℕ) (pass : P) (root : R) (queued : Bool) (pass_now : P) (root_now : R) : Type 0 where
    pub caller : thread pass_now ≡ thread pass
    pub named : (view root_now).key ≡ (view root).key
    pub owing : (view root_now).owes ≡ (view root).owes
    pub lined : MatchBool queued ((view root_now).line ≡ (view root).line ++ thread pass ∷ []) (root_now ≡ root)

  -- The callback of an unparking of all may be called with the key's root and how many were taken.
  abbrev pub MayUnparkAll : ℕ → (R → ℕ → Type 0) → Type 0
  MayUnparkAll k may = (root : R) → (view root).key ≡ k → (view root).owes ≡ [] → may root (length (view root).line)

  -- It gives the root back with an empty line, owing token 0 to each thread of the line that it had.
  abbrev pub UnparksAll : {X : Type 0} → ℕ → (R → ℕ → X × R → Type 0) → Type 0
  UnparksAll {X} k answers =
      (root : R) (answer : X × R) → (view root).key ≡ k → (view root).owes ≡ [] → answers root (length (view root).line) answer
      → ((view answer.1).key ≡ k) × ((view answer.1).line ≡ []) × ((view answer.1).owes ≡ debts (view root).line)

  -- The callback of an unparking of at most n may be called with the key's root and what is told.
  abbrev pub MayUnparkCount : ℕ → ℕ → ℕ → (R → ℕ → Bool → Type 0) → Type 0
  MayUnparkCount threads k n may = (root : R) (taken : ℕ) (more : Bool) → (view root).key ≡ k → (view root).owes ≡ []
      → TellsCount threads n (view root).line taken more → may root taken more

  -- It gives the root back without the first n of its line, owing token 0 to each of these.
  abbrev pub UnparksCount : {X : Type 0} → ℕ → ℕ → ℕ → (R → ℕ → Bool → X × R → Type 0) → Type 0
  UnparksCount {X} threads k n answers =
      (root : R) (taken : ℕ) (more : Bool) (answer : X × R) → (view root).key ≡ k → (view root).owes ≡ []
      → TellsCount threads n (view root).line taken more → answers root taken more answer
      → ((view answer.1).key ≡ k) × ((view answer.1).line ≡ drop n (view root).line)
      × ((view answer.1).owes ≡ debts (take n (view root).line))

  -- the root lay in the bucket as that of key k, and owed nothing
  pub record LayIn (k : ℕ) (bucket : Contents R) (root : R) : Type 0 where
    pub named : (view root).key ≡ k
    pub paid : (view root).owes ≡ []
    pub lay : root_at k bucket.places ≡ Some root

  -- An unparking called its callback once, with the root that lay in this bucket, and answers what that answered and
  -- what it was told, which is the truth of the bucket.
  pub record UnparkedOne {X T : Type 0} (k : ℕ) (moment : Moment) (bucket : Contents R) (answers : R → Dequeued → X × R × T → Type 0)
      (result : X × Dequeued) : Type 0 where
    pub root : R
    pub from : LayIn k bucket root
    pub answer : X × R × T
    pub told : Tells (view root).line moment.now result.1
    pub called : answers root result.1 answer
    pub same : result.0 ≡ answer.0
    pub left : Contents R
    pub took : TakesOne k moment bucket left result.1

  -- An unparking of all called its callback once, with the root that lay in this bucket, and answers how long its line
  -- was.
  pub record UnparkedAll {X : Type 0} (k : ℕ) (bucket : Contents R) (answers : R → ℕ → X × R → Type 0) (result : X × ℕ) : Type 0 where
    pub root : R
    pub from : LayIn k bucket root
    pub answer : X × R
    pub whole : result.1 ≡ length (view root).line
    pub called : answers root result.1 answer
    pub same : result.0 ≡ answer.0

  -- An unparking of at most n called its callback once, with the root that lay in this bucket, and answers how many it
  -- took. What was told is the truth of the bucket.
  pub record UnparkedCount {X : Type 0} (threads k n : ℕ) (bucket : Contents R) (answers : R → ℕ → Bool → X × R → Type 0)
      (result : X × ℕ) : Type 0 where
    pub root : R
    pub from : LayIn k bucket root
    pub more : Bool
    pub answer : X × R
    pub told : TellsCount threads n (view root).line result.1 more
    pub called : answers root result.1 more answer
    pub same : result.0 ≡ answer.0
    pub left : Contents R
    pub took : TakesFirst n k bucket left (take n (view root).line) result.1 more

  -- A validation answered this, called once with the root that lay in this bucket.
  pub record Validation {X P : Type 0} (k : ℕ) (bucket : Contents R) (answers : R → X × P × R × Bool → Type 0)
      (answer : X × P × R × Bool) : Type 0 where
    pub root : R
    pub from : LayIn k bucket root
    pub called : answers root answer

  -- A validation was called once. The bucket is left with the root that came back, and, where it said yes, with the
  -- thread last in its queue.
  pub record Validated {X P : Type 0} (k thread : ℕ) (bucket left : Contents R) (answers : R → X × P × R × Bool → Type 0) (x : X) (pass : P)
      (queued : Bool) : Type 0 where
    pub back : R
    pub by : Validation k bucket answers (x, pass, back, queued)
    pub leaves : left ≡ record bucket {
      places = with_root k (Some back) bucket.places;
      queue = cond queued (bucket.queue ++ (thread, k) ∷ []) bucket.queue;
    }

  -- A parking called its validation once, with the root that lay in this bucket. It is invalid exactly where that said
  -- no. Where it said yes, the action ran once then, with what the validation answered, and the letter with the token
  -- was awaited from the pass that the action left.
  pub record ParkedActing {X P : Type 0} (k : ℕ) (bucket : Contents R) (answers : R → X × P × R × Bool → Type 0) (acts : X → P → X × P
      → Type 0) (looked : P → Option ℕ → P → Type 0) (result : P × X × Parked) : Type 0 where
    pub answer : X × P × R × Bool
    pub by : Validation k bucket answers answer
    pub ends : Ends result.2
        ((answer.3 ≡ false) × (result.0 ≡ answer.1) × (result.1 ≡ answer.0))
        (λ token. (answer.3 ≡ true)
        × ((left : X × P) × acts answer.0 answer.1 left × Awaited looked left.1 token result.0 × (result.1 ≡ left.0)))

  -- The same of an action that leaves the pass alone: it is invalid exactly where the validation said no, and where
  -- that said yes, the action before sleep ran once, and the letter with the token was awaited.
  pub record ParkedOnce {X P : Type 0} (k : ℕ) (bucket : Contents R) (answers : R → X × P × R × Bool → Type 0) (acts : X → X → Type 0)
      (looked : P → Option ℕ → P → Type 0) (result : P × X × Parked) : Type 0 where
    pub answer : X × P × R × Bool
    pub by : Validation k bucket answers answer
    pub ends : Ends result.2
        ((answer.3 ≡ false) × (result.0 ≡ answer.1) × (result.1 ≡ answer.0))
        (λ token. (answer.3 ≡ true) × Awaited looked answer.1 token result.0 × acts answer.0 result.1)
