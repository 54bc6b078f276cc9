use Rattle.lot_events.specs.declared.events.Event.TheVariants.{SemTake}
use Rattle.lot_sems.specs.Calls.{one_permit_more}
use Rattle.lot_whole.proofs.Seekers.{Swaps}
use Rattle.lot_whole.proofs.words.LotWords.take_from.Given as goal

abbrev pub ghosts-compare_exchange : goal.ghosts-compare_exchange
ghosts-compare_exchange g a =
    let p = a.pass in
    record { table = p.table; then = Swaps p a._about (one_permit_more p.own.sems a._about) (SemTake p.thread a._about) a.old }
