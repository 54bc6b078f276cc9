use Rattle.lot_words.proofs.Headlines.{headline}
use Rattle.lot_words.proofs.laws.the_rule_is_the_headline.Goals as goal

pub returns : goal.returns
returns g c = headline g.V.Keeps
