-- The name of a lot, in proofs: what a program picks for it in its `Invariants.antt`, and what a name's two parts tell.
use Rattle.lot_rights.specs.declared.named.Name as Name
use Rattle.lot_scheme.specs.declared.name.LotName as LotName
use Rattle.lot_sync.specs.Lot.{LotNames}

-- what an opening is seen as, for the table's name, `Name`
abbrev pub table_name : {N V : Type 0} → LotNames V → Name.Ghosts N
table_name opened = record { opening = opened.opening }

-- and for the lot's, `LotName`
abbrev pub lot_name : {N V : Type 0} → LotNames V → LotName.Ghosts N V
lot_name opened = record {
  first_sem = opened.first_sem;
  permits = opened.permits;
  locks = opened.locks;
  conds = opened.conds;
  threads = opened.threads;
  values = opened.values;
}

-- both parts of a name
abbrev pub names_of : {N V : Type 0} → Name.Ghosts N → LotName.Ghosts N V → LotNames V
names_of table lot = record {
  opening = table.opening;
  first_sem = lot.first_sem;
  permits = lot.permits;
  locks = lot.locks;
  conds = lot.conds;
  threads = lot.threads;
  values = lot.values;
}
