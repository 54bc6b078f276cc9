use Rattle.std.proofs.Common.{rules}
use Rattle.base_trials.proofs.Opened.{appends_all}
use Rattle.base_trials.proofs.kinds.locks.play.Goals as goal

pub unname_roots-requires-clause-named : goal.unname_roots-requires-clause-named
unname_roots-requires-clause-named g c =
    appends_all _ _ c.close.new.out.items c.opened_lot-lot.ensures.empty (search rules) c.close.ensures.roots
