use Rattle.lot_witness.proofs.Texts.{not_bad, one_witness}
use Rattle.lot_witness.proofs.laws.spelled_witnesses_are_read.Goals as goal

pub returns : goal.returns
returns c = record { read = not_bad; one = one_witness }
