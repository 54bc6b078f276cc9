use Rattle.std.proofs.Common.{[]}
use Rattle.base_trials.proofs.kinds.ledger.a_ledger_of_zeros.Given as goal

abbrev pub ghosts-settled_unused-N-Name : goal.ghosts-settled_unused-N-Name
ghosts-settled_unused-N-Name g a = record { opening = record { locks = a.words.table; conds = a.words.table; sems = a.words.table } }

abbrev pub ghosts-settled_unused-N-LotName : goal.ghosts-settled_unused-N-LotName
ghosts-settled_unused-N-LotName g a = record { first_sem = 3; permits = []; locks = 1; conds = 2; threads = 3; values = [] }
