-- What each kind of call does to the rights that it is handed.
use Rattle.std.specs.Prelude.{◌≡◌, ◌≢◌, ℕ, zero, suc, ◌+◌, ◌-◌, ◌%◌, ◌<◌, ◌≤◌, ◌⊎◌, ◌++◌, if◌then◌else◌, Bool, true, false, List, [], ◌∷◌}
use Rattle.std.specs.Prelude.{slice_index, slice_set, Option, Some, None}
use Rattle.lot_events.specs.declared.events.Event.{Event}
use Rattle.lot_events.specs.declared.events.Event.TheVariants.{SemTake, SemFree}
use Rattle.lot_events.specs.declared.events.Seen.TheVariants.{Bool as Saw}
use Rattle.lot_rights.specs.declared.views.Access.TheVariants.{Makes, Collects, Finds}
use Rattle.lot_rights.specs.Shown.{PassShown}
use Rattle.lot_rights.specs.Steps.{Notes}
use Rattle.lot_sems.specs.declared.taking.Taken.{Taken}
use Rattle.lot_sems.specs.declared.taking.Taken.TheVariants.{Got, Empty, Busy}
use Rattle.lot_sems.specs.declared.views.SemPassView.{SemPassView}
use Rattle.lot_sems.specs.declared.views.SemRootView.{SemRootView}

-- ---- the pass
-- the thread is awake, and seeks nothing
abbrev pub IsCalm : SemPassView → Type 0
IsCalm p = (p.asleep ≡ false) × (p.seeks ≡ None)

-- it is awake, and seeks a permit of k
abbrev pub IsSeeking : SemPassView → ℕ → Type 0
IsSeeking p k = (p.asleep ≡ false) × (p.seeks ≡ Some k)

-- it may take a permit of k
abbrev pub MayTake : SemPassView → ℕ → Type 0
MayTake p k = (p.asleep ≡ false) × ((p.seeks ≡ None) ⊎ (p.seeks ≡ Some k))

-- it is calm, and has a permit of k
abbrev pub MayGive : SemPassView → ℕ → Type 0
MayGive p k = IsCalm p × (1 ≤ slice_index p.out k)

abbrev pub seeking : SemPassView → ℕ → SemPassView
seeking p k = record p { seeks = Some k }

-- one permit of k more is out with it
abbrev pub one_permit_more : SemPassView → ℕ → SemPassView
one_permit_more p k = record p { seeks = None; out = slice_set p.out k (slice_index p.out k + 1) }

-- one permit of k less
abbrev pub one_permit_less : SemPassView → ℕ → SemPassView
one_permit_less p k = record p { out = slice_set p.out k (slice_index p.out k - 1) }

abbrev pub woken : SemPassView → SemPassView
woken p = record p { asleep = false }

abbrev pub parked_pass : SemPassView → Bool → SemPassView
parked_pass p queued = if queued then record p { asleep = true } else p

-- ---- the root
abbrev pub parked_root : SemRootView → ℕ → Bool → SemRootView
parked_root q t queued = if queued then record q { line = q.line ++ t ∷ [] } else q

-- the first of the line is taken, and owed a letter
abbrev pub passed_root : SemRootView → List ℕ → SemRootView
passed_root q [] = q
passed_root q (u ∷ us) = record q { line = us; owes = Some u }

abbrev pub paid_root : SemRootView → SemRootView
paid_root q = record q { owes = None }

-- what a permit that comes back adds to the word, where this is the first of the line: the permit, less the parked bit
-- where nobody may be left behind
abbrev pub raise_of : Option ℕ → Bool → ℕ
raise_of None more = 2
raise_of (Some u) true = 2
raise_of (Some u) false = 1

-- ---- looks and exchanges: what became of the pass p by them, which is q then
-- a look at the word of k, which found this and left it so; or an exchange that found this, and not what it was to
-- replace
abbrev pub Found : PassShown SemPassView → ℕ → ℕ → PassShown SemPassView → Type 0
Found p k word q = Notes p p.own (Finds p.thread k word) q

-- a look that found a word of such a kind, and then an exchange, which was made: by this event the thread knows this
abbrev pub Exchanges : PassShown SemPassView → ℕ → (ℕ → Type 0) → SemPassView → Event → PassShown SemPassView → Type 0
Exchanges p k could own e q =
    (word : ℕ) × could word × ((r : PassShown SemPassView) × Found p k word r × Notes r own (Makes e (Saw true)) q)

-- a look that found a word of such a kind, and then an exchange that found another word than the look
abbrev pub Misses : PassShown SemPassView → ℕ → (ℕ → Type 0) → PassShown SemPassView → Type 0
Misses p k could q =
    (seen found : ℕ) × could seen × (found ≢ seen) × ((r : PassShown SemPassView) × Found p k seen r × Found r k found q)

-- ---- tries to take a permit of k
-- a permit is left, in such a word
abbrev pub IsAnyLeft : ℕ → Type 0
IsAnyLeft word = 2 ≤ word

-- what comes of an exchange that was made, or not
abbrev pub taken_after : Bool → Taken
taken_after true = Got
taken_after false = Busy

-- by an exchange of the word that a look found
abbrev pub TakesFrom : PassShown SemPassView → ℕ → ℕ → Taken → PassShown SemPassView → Type 0
TakesFrom p k seen Got q = Notes p (one_permit_more p.own k) (Makes (SemTake p.thread k) (Saw true)) q
TakesFrom p k seen Empty q = ⊥
TakesFrom p k seen Busy q = (found : ℕ) × (found ≢ seen) × Found p k found q

abbrev pub Tries : PassShown SemPassView → ℕ → Taken → PassShown SemPassView → Type 0
Tries p k Got q = Exchanges p k IsAnyLeft (one_permit_more p.own k) (SemTake p.thread k) q
Tries p k Empty q = (word : ℕ) × (word < 2) × Found p k word q
Tries p k Busy q = Misses p k IsAnyLeft q

-- the same, where a thread that finds none seeks one
abbrev pub Takes : PassShown SemPassView → ℕ → Taken → PassShown SemPassView → Type 0
Takes p k Got q = Exchanges p k IsAnyLeft (one_permit_more p.own k) (SemTake p.thread k) q
Takes p k Empty q = Notes p (seeking p.own k) (Makes (SemTake p.thread k) (Saw false)) q
Takes p k Busy q = Misses p k IsAnyLeft q

-- ---- a try to give a permit of k back at once, and whether it was
-- nobody is marked as parked, in such a word
abbrev pub IsUnmarked : ℕ → Type 0
IsUnmarked word = word % 2 ≡ 0

abbrev pub Frees : PassShown SemPassView → ℕ → Bool → PassShown SemPassView → Type 0
Frees p k true q = Exchanges p k IsUnmarked (one_permit_less p.own k) (SemFree p.thread k) q
Frees p k false q = ((word : ℕ) × (word % 2 ≡ 1) × Found p k word q) ⊎ Misses p k IsUnmarked q

-- ---- letters
-- q is the pass p after it found no letter
abbrev pub FoundNone : PassShown SemPassView → PassShown SemPassView → Type 0
FoundNone p q = Notes p p.own (Collects p.thread None) q

-- q is the pass p after it collected its letter, whose token is 0 as all tokens are: it was asleep, and may try again
abbrev pub Collected : PassShown SemPassView → ℕ → PassShown SemPassView → Type 0
Collected p token q = (token ≡ 0) × (p.own.asleep ≡ true) × Notes p (woken p.own) (Collects p.thread (Some token)) q

-- by the number in the letter
abbrev pub CollectedBy : PassShown SemPassView → ℕ → PassShown SemPassView → Type 0
CollectedBy p zero q = FoundNone p q
CollectedBy p (suc token) q = Collected p token q
