use Rattle.lot_conds.proofs.Headlines.{headline}
use Rattle.lot_conds.proofs.laws.the_rule_is_the_headline.Goals as goal

pub returns : goal.returns
returns c = headline
