use Rattle.lot_events.specs.declared.events.Event.TheVariants.{SemFree}
use Rattle.lot_sems.specs.Calls.{one_permit_less, Found}
use Rattle.lot_sems.proofs.Turns.{Swaps}
use Rattle.lot_sems.proofs.words.SemWords.free.Given as goal

abbrev pub ghosts-load : goal.ghosts-load
ghosts-load a = record { table = a.pass.table; then = Found a.pass a._about }

abbrev pub ghosts-compare_exchange : goal.ghosts-compare_exchange
ghosts-compare_exchange a =
    let p = a.pass in
    record { table = p.table; then = Swaps p a._about (one_permit_less p.own a._about) (SemFree p.thread a._about) a.old }
