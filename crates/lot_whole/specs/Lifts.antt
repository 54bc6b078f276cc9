-- What a kind allows, the lot allows: the statements, of a kind j. A call of the lot is a call of its kind, and what
-- is asked beside that is what the call carries.
use Rattle.std.specs.Prelude.{◌≡◌, ◌≢◌, ℕ, ◌<◌, ◌⊎◌, true, false, List, Option}
use mathlib.Core.Option as maybe
use Rattle.lot_core.specs.Parts.{AsksOfThread}
use Rattle.lot_core.specs.Steps.{seen}
use Rattle.lot_order.specs.Order.{KeepsOrder}
use Rattle.lot_rights.specs.declared.views.Access.{Access}
use Rattle.lot_rights.specs.declared.views.Access.TheVariants.{Makes, Posts, Collects, Finds, Counts}
use Rattle.lot_rights.specs.Shown.{PassShown, RootShown}
use Rattle.lot_rights.specs.Layout.{word_at, letter_at}
use Rattle.lot_rights.specs.Steps.{pass_after, root_after, AllowsPass, AllowsBoth, AllowsRoot}
use Rattle.lot_words.specs.CallersRule.{CallersRule}
use Rattle.lot_whole.specs.declared.views.LotPassView.{LotPassView}
use Rattle.lot_whole.specs.declared.views.LotRootView.{LotRootView}
use Rattle.lot_whole.specs.Family.{Which, LotSize, IsKeyIn, PassIn, RootIn, away, meaning_of, IsEventIn, dput}
use Rattle.lot_whole.specs.Whole.{moves_by}
use Rattle.lot_whole.specs.Lot.{own_of, pass_from, root_from, LotWorld, letters_in, LotFits, LotPassIs, LotRootIs, lot_meaning}

-- the pass as a kind sees it, and a kind's root as the lot has it
abbrev pub part_pass : {V : Type 0} (j : Which) → PassShown (LotPassView V) → PassShown (PassIn V j)
part_pass {V} j p = record { table = p.table; thread = p.thread; made = p.made; own = own_of V p.own j }

abbrev pub whole_root : (j : Which) → RootShown (RootIn j) → RootShown LotRootView
whole_root j q = record { table = q.table; key = q.key; made = q.made; own = root_from j q.own }

-- what the pass p knows after the access a, with which it came to know this in the kind j
abbrev pub lot_own : {V : Type 0} (j : Which) → LotPassView V → PassIn V j → Access → LotPassView V
lot_own {V} j p own a = pass_from V (dput {X = PassIn V} j own (own_of V p)) (moves_by a p.stand)

-- the thread is away in one kind at most, then too
abbrev pub MayBeAway : {V : Type 0} (j : Which) → LotPassView V → PassIn V j → Type 0
MayBeAway {V} j p own = away V j own ≡ true → (away V j (own_of V p j) ≡ true) ⊎ ((k : Which) → k ≢ j → away V k (own_of V p k) ≡ false)

module _ {V Part : Type 0} (rule : CallersRule V Part) (z : LotSize) (xs : List V) where
  -- no other kind has a letter for the thread u
  abbrev pub Quiet : Which → LotWorld rule z xs → ℕ → Type 0
  Quiet j w u = (k : Which) → k ≢ j → letters_in rule z xs w k u ≡ 0

  -- the access is one of the kind, which never counts, and its thread stands as it asks, and keeps the order of keys
  abbrev pub Speaks : Which → LotWorld rule z xs → Access → Type 0
  Speaks j w (Makes e saw) = IsEventIn j e × AsksOfThread w.whole e × (saw ≡ seen w.whole e → KeepsOrder rule.above w.whole e)
  Speaks j w (Posts c u token) = Quiet j w u
  Speaks j w (Collects u found) = Quiet j w u
  Speaks j w (Finds u c x) = IsKeyIn z j c
  Speaks j w (Counts u c told handed waiting) = ⊥

  -- the place i is that of a key of the kind, or of a letter that no other kind has
  abbrev pub InPlace : Which → LotWorld rule z xs → ℕ → Type 0
  InPlace j w i = ((c : ℕ) × (IsKeyIn z j c × (i ≡ word_at c))) ⊎ ((u : ℕ) × ((u < z.threads) × (i ≡ letter_at u) × Quiet j w u))

  -- so in each world that the words can stand for, and that knows the pass; the root; or both
  abbrev pub KnowingPass : PassShown (LotPassView V) → (LotWorld rule z xs → Type 0) → Type 0
  KnowingPass p Fact = (w : LotWorld rule z xs) (ws : List ℕ) (hs : List (maybe.Option (Option V))) → LotFits rule z xs w ws hs
      → LotPassIs rule z xs w p.thread p.own → Fact w

  abbrev pub KnowingRoot : (j : Which) → RootShown (RootIn j) → (LotWorld rule z xs → Type 0) → Type 0
  KnowingRoot j q Fact = (w : LotWorld rule z xs) (ws : List ℕ) (hs : List (maybe.Option (Option V))) → LotFits rule z xs w ws hs
      → LotRootIs rule z xs w q.key (root_from j q.own) → Fact w

  abbrev pub KnowingBoth : (j : Which) → PassShown (LotPassView V) → RootShown (RootIn j) → (LotWorld rule z xs → Type 0) → Type 0
  KnowingBoth j p q Fact = (w : LotWorld rule z xs) (ws : List ℕ) (hs : List (maybe.Option (Option V))) → LotFits rule z xs w ws hs
      → LotPassIs rule z xs w p.thread p.own → LotRootIs rule z xs w q.key (root_from j q.own) → Fact w

  -- ---- of a pass
  -- what the kind's step tells of the pass, `told`, is enough for the lot's step to be one of the whole, and to tell
  -- `whole`
  abbrev pub CarriesPass : (j : Which) → PassShown (LotPassView V) → (ℕ → PassShown (PassIn V j) → Type 0)
      → (ℕ → PassShown (LotPassView V) → Type 0) → Type 0
  CarriesPass j p told whole = (n : ℕ) (own : PassIn V j) (a : Access) → ((k : ℕ) → told n (pass_after (part_pass j p) own k a))
      → MayBeAway j p.own own × KnowingPass p (λ w. Speaks j w a) × ((k : ℕ) → whole n (pass_after p (lot_own j p.own own a) k a))

  abbrev pub LiftsPass : Type 1
  LiftsPass = (j : Which) (i : ℕ) (f : ℕ → ℕ) (p : PassShown (LotPassView V)) (told : ℕ → PassShown (PassIn V j) → Type 0)
      (whole : ℕ → PassShown (LotPassView V) → Type 0)
      → AllowsPass (meaning_of rule z xs j) i f (part_pass j p) told → KnowingPass p (λ w. InPlace j w i) → CarriesPass j p told whole
      → AllowsPass (lot_meaning rule z xs) i f p whole

  -- ---- of a pass and a root
  abbrev pub CarriesBoth : (j : Which) → PassShown (LotPassView V) → RootShown (RootIn j)
      → (ℕ → PassShown (PassIn V j) → RootShown (RootIn j) → Type 0)
      → (ℕ → PassShown (LotPassView V) → RootShown LotRootView → Type 0) → Type 0
  CarriesBoth j p q told whole = (n : ℕ) (own : PassIn V j) (its : RootIn j) (a : Access)
      → ((k : ℕ) → told n (pass_after (part_pass j p) own k a) (record q { own = its }))
      → MayBeAway j p.own own × KnowingBoth j p q (λ w. Speaks j w a)
      × ((k : ℕ) → whole n (pass_after p (lot_own j p.own own a) k a) (whole_root j (record q { own = its })))

  abbrev pub LiftsBoth : Type 1
  LiftsBoth = (j : Which) (f : ℕ → ℕ) (p : PassShown (LotPassView V)) (q : RootShown (RootIn j))
      (told : ℕ → PassShown (PassIn V j) → RootShown (RootIn j) → Type 0)
      (whole : ℕ → PassShown (LotPassView V) → RootShown LotRootView → Type 0)
      → AllowsBoth (meaning_of rule z xs j) (word_at q.key) f (part_pass j p) q told → CarriesBoth j p q told whole
      → AllowsBoth (lot_meaning rule z xs) (word_at q.key) f p (whole_root j q) whole

  -- ---- of a root
  abbrev pub CarriesRoot : (j : Which) → RootShown (RootIn j) → (ℕ → RootShown (RootIn j) → Type 0) → (ℕ → RootShown LotRootView → Type 0)
      → Type 0
  CarriesRoot j q told whole = (n : ℕ) (its : RootIn j) (a : Access) → ((k : ℕ) → told n (root_after q its k a))
      → KnowingRoot j q (λ w. Speaks j w a) × ((k : ℕ) → whole n (root_after (whole_root j q) (root_from j its) k a))

  abbrev pub LiftsRoot : Type 1
  LiftsRoot = (j : Which) (i : ℕ) (f : ℕ → ℕ) (q : RootShown (RootIn j)) (told : ℕ → RootShown (RootIn j) → Type 0)
      (whole : ℕ → RootShown LotRootView → Type 0)
      → AllowsRoot (meaning_of rule z xs j) i f q told → KnowingRoot j q (λ w. InPlace j w i) → CarriesRoot j q told whole
      → AllowsRoot (lot_meaning rule z xs) i f (whole_root j q) whole
