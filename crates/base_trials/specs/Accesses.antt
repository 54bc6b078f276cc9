-- A call for which a pass and a root come to one seat, and what is so of it by the laws of the history.
use Rattle.std.specs.Prelude.{◌≡◌, ◌≢◌, ℕ, ◌*◌, ◌++◌, List, [], ◌∷◌, length, slice_set}
use mathlib.Core.Option.{some}
use lib.ListN.{get_elem?}
use Rattle.atomic_table.specs.Table.{State}
use Rattle.lot_rights.specs.declared.views.Entry.{Entry}
use Rattle.lot_rights.specs.declared.views.PassRight.{PassRight}
use Rattle.lot_rights.specs.declared.views.RootRight.{RootRight}
use Rattle.lot_rights.specs.declared.views.Right.{Right}
use Rattle.lot_rights.specs.declared.views.Right.TheVariants.{Pass, Root}
use Rattle.lot_rights.specs.History.{doer}
use Rattle.lot_rights.specs.Rule.{Meaning, Leads, Ruled}

-- the root q comes to the seat of the pass p; there p makes the access x, and they part
pub record CallOfTwo {S P R : Type 0} (s joined made parted : State S (List (Right P R))) (id other : ℕ)
    (p p' : PassRight P) (q q' : RootRight R) (x : Entry) : Type 0 where
  pub apart : other ≢ id
  pub pass : get_elem? s.views id ≡ some (Pass p ∷ [])
  pub root : get_elem? s.views other ≡ some (Root q ∷ [])
  pub joins : joined.views ≡ slice_set (slice_set s.views id (Pass p ∷ Root q ∷ [])) other []
  pub at_one : get_elem? joined.views id ≡ some (Pass p ∷ Root q ∷ [])
  pub makes : made.views ≡ slice_set joined.views id (Pass p' ∷ Root q' ∷ [])
  pub thread : p'.thread ≡ p.thread
  pub key : q'.key ≡ q.key
  pub maker : doer x.access ≡ 2 * p.thread
  pub entry : p'.made ≡ p.made ++ x ∷ []
  pub same : q'.made ≡ q.made
  pub both : get_elem? made.views id ≡ some (Pass p' ∷ Root q' ∷ [])
  pub parts : parted.views ≡ slice_set made.views id (Pass p' ∷ []) ++ (Root q' ∷ []) ∷ []

-- the history has the access x more, and no other, of what the words told just then
abbrev pub IsOneAccess : {S P R : Type 0} (k : Meaning S P R) (s s' : State S (List (Right P R))) → Ruled k s → Ruled k s' → Entry → Type 0
IsOneAccess k s s' before after x =
    (after.log ≡ before.log ++ x ∷ []) × (x.at ≡ length before.log) × Leads k (k.told_by before.world) x.access (k.told_by after.world)
