-- Values that leave their slots and come back, with one pass. No entry is made.
use Rattle.std.specs.Prelude.{◌≡◌, ℕ, List, [], ◌∷◌, slice_set}
use mathlib.Core.Option.{Option, some, none}
use lib.ListN.{get_elem?}
use Rattle.atomic_table.specs.Table.{Me}
use Rattle.lot_rights.specs.declared.views.PassRight.{PassRight}
use Rattle.lot_rights.specs.declared.views.Right.{Right}
use Rattle.lot_rights.specs.declared.views.Right.TheVariants.{Pass}
use Rattle.lot_rights.specs.Rule.{Meaning}
use Rattle.lot_rights.specs.Shown.{PassShown}
use Rattle.lot_rights.specs.Steps.{PassesStay, AllRootsStay}

module _ {S P R : Type 0} (k : Meaning S P R) where
  -- the slots become hs, and the pass of t knows this then
  pub record SlotTurn (t : ℕ) (own : P) (w : k.World) (ws : List ℕ) (hs : List (Option S)) : Type 0 where
    pub world : k.World
    pub fits : k.Fits world ws hs
    pub pass : k.PassFits world t own
    pub passes : PassesStay k w world t
    pub roots : AllRootsStay k w world
    pub same : k.told_by world ≡ k.told_by w
    pub owed : (c : ℕ) → k.owed_in world c ≡ k.owed_in w c

  -- the value of the slot l comes to the seat
  pub record OutTurn (l : ℕ) (p : PassShown P) (mid : P → S → Type 0) (w : k.World) (ws : List ℕ) (hs : List (Option S)) : Type 0 where
    pub value : S
    pub own : P
    pub there : get_elem? hs l ≡ some (some value)
    pub turn : SlotTurn p.thread own w ws (slice_set hs l none)
    pub told : mid own value

  -- y goes back into the slot l
  pub record BackTurn (l t : ℕ) (y : S) (then : P → Type 0) (w : k.World) (ws : List ℕ) (hs : List (Option S)) : Type 0 where
    pub own : P
    pub turn : SlotTurn t own w ws (slice_set hs l (some y))
    pub told : then own

  abbrev pub AllowsOut : ℕ → PassShown P → (P → S → Type 0) → Type 0
  AllowsOut l p mid = (w : k.World) (ws : List ℕ) (hs : List (Option S)) → k.Fits w ws hs → k.PassFits w p.thread p.own
      → OutTurn l p mid w ws hs

  abbrev pub AllowsBack : ℕ → ℕ → P → S → (P → Type 0) → Type 0
  AllowsBack l t own y then = (w : k.World) (ws : List ℕ) (hs : List (Option S)) → k.Fits w ws hs → k.PassFits w t own
      → BackTurn l t y then w ws hs

module _ {S P R : Type 0} where
  abbrev pub ToldOut : ℕ → PassRight P → (P → S → Type 0) → Me S (List (Right P R)) → Type 0
  ToldOut l p mid me' = (own : P) × (x : S) × (me' ≡ (Pass (record p { own = own }) ∷ [], (l, x) ∷ [])) × mid own x

  abbrev pub ToldBack : PassRight P → (P → P → Type 0) → Me S (List (Right P R)) → Type 0
  ToldBack p back me' = (own : P) × (me' ≡ (Pass (record p { own = own }) ∷ [], [])) × back p.own own
