use Rattle.std.proofs.Common.{Some, rules}
use Rattle.lot_words.proofs.Zips.{zip_map}
use Rattle.lot_words.proofs.shelf.shelve.Goals as goal

pub returns-clause-slots : goal.returns-clause-slots
returns-clause-slots g c =
    zip_map _ (λ x. Some x) (λ x y made. search rules) c.args.values.now.items c.move_each.new.to.items c.move_each.ensures.each
