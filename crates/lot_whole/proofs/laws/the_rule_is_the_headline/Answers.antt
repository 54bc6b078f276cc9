use Rattle.lot_whole.proofs.Moments.{promises}
use Rattle.lot_whole.proofs.laws.the_rule_is_the_headline.Goals as goal

pub returns : goal.returns
returns g c = promises g.V.Keeps
