use Rattle.std.proofs.Common.{◌∷◌}
use Rattle.lot_journal.proofs.Legal.{legal_cut}
use Rattle.lot_journal.proofs.laws.replies_are_of_one_thread.Goals as goal

pub returns : goal.returns
returns g c first last before behind entry legal =
    let cut = legal_cut g.O.Sequential.after g.O.Sequential.reply first last before (entry ∷ behind) legal in
    (cut.middle, cut.before, cut.behind.0)
