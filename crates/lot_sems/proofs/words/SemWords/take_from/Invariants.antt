use Rattle.lot_events.specs.declared.events.Event.TheVariants.{SemTake}
use Rattle.lot_sems.specs.Calls.{one_permit_more}
use Rattle.lot_sems.proofs.Turns.{Swaps}
use Rattle.lot_sems.proofs.words.SemWords.take_from.Given as goal

abbrev pub ghosts-compare_exchange : goal.ghosts-compare_exchange
ghosts-compare_exchange a =
    let p = a.pass in
    record { table = p.table; then = Swaps p a._about (one_permit_more p.own a._about) (SemTake p.thread a._about) a.old }
