use Rattle.lot_journal.proofs.Legal.{legal_joined, legal_cut}
use Rattle.lot_journal.proofs.laws.a_beginning_is_legal.Goals as goal

pub returns : goal.returns
returns g c first last history more = (
  legal_cut g.O.Sequential.after g.O.Sequential.reply first last history more,
  λ both. legal_joined g.O.Sequential.after g.O.Sequential.reply first both.middle last history more both.before both.behind,
)
