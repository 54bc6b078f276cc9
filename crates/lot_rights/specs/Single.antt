-- A pass or a root as the one right of a seat: of which table it is, and the right.
use Rattle.atomic_table.specs.Seated.{TableId}
use Rattle.lot_rights.specs.declared.views.Right.{Right}
use Rattle.lot_rights.specs.declared.views.Right.TheVariants.{Pass, Root}
use Rattle.lot_rights.specs.Shown.{PassShown, RootShown, right_of_pass, right_of_root}

module _ {P R : Type 0} where
  abbrev pub single_pass : PassShown P → TableId × Right P R
  single_pass p = (p.table, Pass (right_of_pass p))

  abbrev pub single_root : RootShown R → TableId × Right P R
  single_root q = (q.table, Root (right_of_root q))
