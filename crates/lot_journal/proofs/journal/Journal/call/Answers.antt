use Rattle.std.proofs.Common.{refl, sym, subst}
use Rattle.lot_journal.specs.Journal.{JournalView, IsLegalJournal}
use Rattle.lot_journal.proofs.Legal.{legal_called}
use Rattle.lot_journal.proofs.journal.Journal.call.Goals as goal

pub returns-clause-legal : goal.returns-clause-legal
returns-clause-legal g c = λ legal.
    let was : JournalView _ _ _ =
    record { opening = c.self.inside.opening; history = c.self.inside.history.items; object = c.self.inside.object } in
    legal_called g.O.Sequential.after g.O.Sequential.reply was c.args.thread c.args.call c.apply-reply.result _
    (record { answered = c.apply-reply.ensures.reply; object = c.apply-reply.ensures.object; history = cc; opening = refl })
    (subst (IsLegalJournal g.O.Sequential.after g.O.Sequential.reply) (sym c.self.view_is) legal)
