use Rattle.std.proofs.Common.{Some, rules}
use Rattle.lot_words.proofs.Zips.{zip_back}
use Rattle.lot_words.proofs.shelf.unshelve.Goals as goal

pub returns : goal.returns
returns g c = zip_back _ (λ x. Some x) (λ x y made. search rules) c.args.slots.items c.move_each.new.to.items c.move_each.ensures.each
