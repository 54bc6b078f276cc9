use Rattle.std.proofs.Common.{[]}
use Rattle.base_trials.proofs.kinds.locks.try_on_a_lot.Given as goal

abbrev pub ghosts-play-N-Name : goal.ghosts-play-N-Name
ghosts-play-N-Name g a = record { opening = record { locks = a.opened.0.table; conds = a.opened.0.table; sems = a.opened.0.table } }

abbrev pub ghosts-play-N-LotName : goal.ghosts-play-N-LotName
ghosts-play-N-LotName g a = record { first_sem = 3; permits = []; locks = 2; conds = 1; threads = 3; values = [] }
