use Rattle.lot_load.proofs.Classes.{least_is, least_itself}
use Rattle.lot_load.proofs.measure.times.least_of.Goals as goal

pub returns-then-class-lt32 : goal.returns-then-class-lt32
returns-then-class-lt32 c = least_itself c.args.class c.if-class-lt32.true

pub returns : goal.returns
returns c = least_is c.args.class c.if-class-lt32.false c.requires
