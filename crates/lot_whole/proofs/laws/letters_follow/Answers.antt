use Rattle.lot_whole.proofs.Order.{letters_follow}
use Rattle.lot_whole.proofs.laws.letters_follow.Goals as goal

pub returns : goal.returns
returns c = letters_follow
