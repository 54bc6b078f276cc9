-- Steps of passes and roots on one word: which entry they make, and what each kind has to show of its worlds for them.
use Rattle.std.specs.Prelude.{◌≡◌, ◌≢◌, ℕ, ◌*◌, ◌+◌, ◌<◌, ◌^◌, List, [], ◌∷◌, ◌++◌, length, slice_index, slice_set}
use mathlib.Core.Option.{Option}
use Rattle.atomic_table.specs.Table.{State, Me}
use Rattle.atomic_table.specs.Seated.{TableId}
use Rattle.lot_rights.specs.declared.views.Access.{Access}
use Rattle.lot_rights.specs.declared.views.Entry.{Entry}
use Rattle.lot_rights.specs.declared.views.PassRight.{PassRight}
use Rattle.lot_rights.specs.declared.views.RootRight.{RootRight}
use Rattle.lot_rights.specs.declared.views.Right.{Right}
use Rattle.lot_rights.specs.declared.views.Right.TheVariants.{Pass, Root}
use Rattle.lot_rights.specs.History.{doer, entries_of, tokens_of, taken_by, tokens_by, taken_in, CountsRight}
use Rattle.lot_rights.specs.Rule.{Meaning, Leads, Ruled}
use Rattle.lot_rights.specs.Shown.{PassShown, RootShown, pass_at_table, root_at_table}

-- one entry more, of which k were made before
abbrev pub with_entry : List Entry → ℕ → Access → List Entry
with_entry made k a = made ++ (record { at = k; access = a }) ∷ []

-- the pass p, which knows this now, with one entry more
abbrev pub pass_after : {P : Type 0} → PassShown P → P → ℕ → Access → PassShown P
pass_after p own k a = record p { made = with_entry p.made k a; own = own }

abbrev pub root_after : {R : Type 0} → RootShown R → R → ℕ → Access → RootShown R
root_after q own k a = record q { made = with_entry q.made k a; own = own }

-- p' is the pass p, which knows this now, with this one entry more
abbrev pub Notes : {P : Type 0} → PassShown P → P → Access → PassShown P → Type 0
Notes p own a p' = (k : ℕ) × (p' ≡ pass_after p own k a)

abbrev pub RootNotes : {R : Type 0} → RootShown R → R → Access → RootShown R → Type 0
RootNotes q own a q' = (k : ℕ) × (q' ≡ root_after q own k a)

-- the access counts nothing; or it may count what this root shows of its key, where so many that it took are not told
-- yet
abbrev pub CountsNothing : Access → Type 0
CountsNothing a = (log : List Entry) → CountsRight log a

abbrev pub CountsRoot : {R : Type 0} → RootShown R → ℕ → Access → Type 0
CountsRoot q owed a =
    (log : List Entry) → tokens_of q.key log ≡ q.made → taken_in q.key log ≡ length q.made + owed → CountsRight log a

module _ {S P R : Type 0} (k : Meaning S P R) where
  -- the access was made with the right of this number, when the world was w, and the world is w' then
  abbrev pub IsMade : ℕ → k.World → Access → k.World → Type 0
  IsMade i w a w' = (doer a ≡ i) × Leads k (k.told_by w) a (k.told_by w')

  -- whom the access takes from a line it tells, or the root owes it from then on
  abbrev pub IsOwed : k.World → Access → k.World → Type 0
  IsOwed w a w' = (c : ℕ) → taken_by c a + k.owed_in w c ≡ tokens_by c a + k.owed_in w' c

  -- the world w turns into w', at a step that changes the pass of t and the root of c alone
  abbrev pub PassesStay : k.World → k.World → ℕ → Type 0
  PassesStay w w' t = (u : ℕ) (x : P) → u ≢ t → k.PassFits w u x → k.PassFits w' u x

  abbrev pub RootsStay : k.World → k.World → ℕ → Type 0
  RootsStay w w' c = (d : ℕ) (y : R) → d ≢ c → k.RootFits w d y → k.RootFits w' d y

  abbrev pub AllPassesStay : k.World → k.World → Type 0
  AllPassesStay w w' = (u : ℕ) (x : P) → k.PassFits w u x → k.PassFits w' u x

  abbrev pub AllRootsStay : k.World → k.World → Type 0
  AllRootsStay w w' = (d : ℕ) (y : R) → k.RootFits w d y → k.RootFits w' d y

  -- at a step by which the word i becomes x, where the words ws stand for the world w: what the pass p knows then, the
  -- access, and the world
  pub record PassTurn (i x : ℕ) (p : PassShown P) (then : PassShown P → Type 0) (w : k.World) (ws : List ℕ)
      (hs : List (Option S)) : Type 0 where
    pub own : P
    pub access : Access
    pub world : k.World
    pub fits : k.Fits world (slice_set ws i x) hs
    pub pass : k.PassFits world p.thread own
    pub passes : PassesStay w world p.thread
    pub roots : AllRootsStay w world
    pub made : IsMade (2 * p.thread) w access world
    pub owed : IsOwed w access world
    pub counted : CountsNothing access
    pub told : (n : ℕ) → then (pass_after p own n access)

  -- the same of a pass and a root; the entry is the pass's
  pub record BothTurn (i x : ℕ) (p : PassShown P) (q : RootShown R) (then : PassShown P → RootShown R → Type 0) (w : k.World) (ws : List ℕ)
      (hs : List (Option S)) : Type 0 where
    pub own : P
    pub its : R
    pub access : Access
    pub world : k.World
    pub fits : k.Fits world (slice_set ws i x) hs
    pub pass : k.PassFits world p.thread own
    pub root : k.RootFits world q.key its
    pub passes : PassesStay w world p.thread
    pub roots : RootsStay w world q.key
    pub made : IsMade (2 * p.thread) w access world
    pub owed : IsOwed w access world
    pub counted : CountsRoot q (k.owed_in w q.key) access
    pub told : (n : ℕ) → then (pass_after p own n access) (record q { own = its })

  -- the same of a root
  pub record RootTurn (i x : ℕ) (q : RootShown R) (then : RootShown R → Type 0) (w : k.World) (ws : List ℕ)
      (hs : List (Option S)) : Type 0 where
    pub its : R
    pub access : Access
    pub world : k.World
    pub fits : k.Fits world (slice_set ws i x) hs
    pub root : k.RootFits world q.key its
    pub passes : AllPassesStay w world
    pub roots : RootsStay w world q.key
    pub made : IsMade (2 * q.key + 1) w access world
    pub owed : IsOwed w access world
    pub counted : CountsNothing access
    pub told : (n : ℕ) → then (root_after q its n access)

  -- Whatever the words stand for, the word i may become f of what it was
  abbrev pub AllowsPass : ℕ → (ℕ → ℕ) → PassShown P → (ℕ → PassShown P → Type 0) → Type 0
  AllowsPass i f p then = (w : k.World) (ws : List ℕ) (hs : List (Option S)) → k.Fits w ws hs → k.PassFits w p.thread p.own
      → slice_index ws i < 2 ^ 64
      → PassTurn i (f (slice_index ws i)) p (then (slice_index ws i)) w ws hs

  abbrev pub AllowsBoth : ℕ → (ℕ → ℕ) → PassShown P → RootShown R → (ℕ → PassShown P → RootShown R → Type 0) → Type 0
  AllowsBoth i f p q then = (w : k.World) (ws : List ℕ) (hs : List (Option S)) → k.Fits w ws hs → k.PassFits w p.thread p.own
      → k.RootFits w q.key q.own → slice_index ws i < 2 ^ 64
      → BothTurn i (f (slice_index ws i)) p q (then (slice_index ws i)) w ws hs

  abbrev pub AllowsRoot : ℕ → (ℕ → ℕ) → RootShown R → (ℕ → RootShown R → Type 0) → Type 0
  AllowsRoot i f q then = (w : k.World) (ws : List ℕ) (hs : List (Option S)) → k.Fits w ws hs → k.RootFits w q.key q.own
      → slice_index ws i < 2 ^ 64
      → RootTurn i (f (slice_index ws i)) q (then (slice_index ws i)) w ws hs

  -- of whatever world knows both passes, the fact holds
  abbrev pub TellsOfTwo : PassShown P → PassShown P → Type 0 → Type 0
  TellsOfTwo p q fact = (w : k.World) (ws : List ℕ) (hs : List (Option S)) → k.Fits w ws hs → k.PassFits w p.thread p.own
      → k.PassFits w q.thread q.own → p.thread ≢ q.thread → fact

  -- At some moment the table kept its rule, its world knew the root, and its history had exactly the root's entries of
  -- it
  pub record Moment (q : RootShown R) : Type 0 where
    pub state : State S (List (Right P R))
    pub here : Ruled k state
    pub root : k.RootFits here.world q.key q.own
    pub entries : q.made ≡ entries_of (2 * q.key + 1) here.log

  -- of whatever moment of the root, the fact holds
  abbrev pub TellsOfRoot : RootShown R → Type 0 → Type 0
  TellsOfRoot q fact = Moment q → fact

-- ---- what a step tells of the seat, of which this is the table
module _ {S P R : Type 0} (table : TableId) where
  abbrev pub ToldPass : PassRight P → (ℕ → PassShown P → Type 0) → ℕ → Me S (List (Right P R)) → Type 0
  ToldPass p then n me' =
      (p' : PassRight P) × (p'.thread ≡ p.thread) × (me' ≡ (Pass p' ∷ [], [])) × then n (pass_at_table table p')

  abbrev pub ToldBoth : PassRight P → RootRight R → (ℕ → PassShown P → RootShown R → Type 0) → ℕ → Me S (List (Right P R)) → Type 0
  ToldBoth p q then n me' =
      (p' : PassRight P) × (q' : RootRight R) × (p'.thread ≡ p.thread) × (q'.key ≡ q.key)
      × (me' ≡ (Pass p' ∷ Root q' ∷ [], [])) × then n (pass_at_table table p') (root_at_table table q')

  abbrev pub ToldRoot : RootRight R → (ℕ → RootShown R → Type 0) → ℕ → Me S (List (Right P R)) → Type 0
  ToldRoot q then n me' =
      (q' : RootRight R) × (q'.key ≡ q.key) × (me' ≡ (Root q' ∷ [], [])) × then n (root_at_table table q')

module _ {S P R : Type 0} where
  abbrev pub ToldTwo : PassRight P → PassRight P → Type 0 → Me S (List (Right P R)) → Me S (List (Right P R)) → Type 0
  ToldTwo p q fact me me' = (me' ≡ me) × (p.thread ≢ q.thread) × fact

  abbrev pub ToldFact : Type 0 → Me S (List (Right P R)) → Me S (List (Right P R)) → Type 0
  ToldFact fact me me' = (me' ≡ me) × fact
