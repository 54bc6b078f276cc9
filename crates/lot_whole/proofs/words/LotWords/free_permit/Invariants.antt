use Rattle.lot_events.specs.declared.events.Event.TheVariants.{SemFree}
use Rattle.lot_sems.specs.Calls.{one_permit_less}
use Rattle.lot_whole.proofs.Seekers.{Swaps}
use Rattle.lot_whole.specs.Calls.{FindsOf}
use Rattle.lot_whole.proofs.words.LotWords.free_permit.Given as goal

abbrev pub ghosts-load : goal.ghosts-load
ghosts-load g a = record { table = a.pass.table; then = FindsOf a.pass a._about }

abbrev pub ghosts-compare_exchange : goal.ghosts-compare_exchange
ghosts-compare_exchange g a =
    let p = a.pass in
    record { table = p.table; then = Swaps p a._about (one_permit_less p.own.sems a._about) (SemFree p.thread a._about) a.old }
