-- What the rights and the words are seen as.
use Rattle.std.specs.Prelude.{ℕ, List, [], ◌∷◌}
use Rattle.atomic_table.specs.Seated.{TableId}
use Rattle.lot_rights.specs.declared.views.Entry.{Entry}
use Rattle.lot_rights.specs.declared.views.PassRight.{PassRight}
use Rattle.lot_rights.specs.declared.views.RootRight.{RootRight}
use Rattle.lot_rights.specs.declared.views.Right.{Right}
use Rattle.lot_rights.specs.declared.views.Right.TheVariants.{Pass, Root}

-- a pass: its table, its thread, the entries that were made with it, and what it knows beside that
pub record PassShown (P : Type 0) : Type 0 where
  pub table : TableId
  pub thread : ℕ
  pub made : List Entry
  pub own : P

-- a root: its table, its key, the entries that were made with it alone, and what it knows beside that
pub record RootShown (R : Type 0) : Type 0 where
  pub table : TableId
  pub key : ℕ
  pub made : List Entry
  pub own : R

pub record WordsShown (K : Type 0) : Type 0 where
  pub table : TableId
  pub key : K

-- ---- a right at a seat, which knows no table
module _ {P : Type 0} where
  abbrev pub right_of_pass : PassShown P → PassRight P
  right_of_pass p = record { thread = p.thread; made = p.made; own = p.own }

  abbrev pub pass_at_table : TableId → PassRight P → PassShown P
  pass_at_table table p = record { table = table; thread = p.thread; made = p.made; own = p.own }

module _ {R : Type 0} where
  abbrev pub right_of_root : RootShown R → RootRight R
  right_of_root q = record { key = q.key; made = q.made; own = q.own }

  abbrev pub root_at_table : TableId → RootRight R → RootShown R
  root_at_table table q = record { table = table; key = q.key; made = q.made; own = q.own }

module _ {P R : Type 0} where
  -- the first right, where it is a pass; `nobody` stands for what no pass knows
  abbrev pub the_pass : P → List (Right P R) → PassRight P
  the_pass nobody (Pass p ∷ rs) = p
  the_pass nobody _ = record { thread = 0; made = []; own = nobody }

  abbrev pub the_root : R → List (Right P R) → RootRight R
  the_root nobody (Root q ∷ rs) = q
  the_root nobody _ = record { key = 0; made = []; own = nobody }
