use Rattle.std.proofs.lemmas.List.{take-replicate}
use Rattle.lot_rights.proofs.opening.zeros.Goals as goal

pub returns : goal.returns
returns c = take-replicate c.args.count 2064 0 c.requires
