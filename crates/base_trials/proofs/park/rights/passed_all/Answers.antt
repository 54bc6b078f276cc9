use Rattle.std.proofs.Common.{◌∙◌, ap, arith}
use Rattle.std.proofs.lemmas.List.{drop_all, take_all}
use Rattle.lot_park.specs.Parking.{debts}
use Rattle.base_trials.proofs.park.rights.passed_all.Goals as goal

pub returns-clause-line : goal.returns-clause-line
returns-clause-line g c = c.passed_first.ensures.line ∙ drop_all c.len-all.result c.args.right.line.items (omega arith)

pub returns-clause-owes : goal.returns-clause-owes
returns-clause-owes g c = c.passed_first.ensures.owes
    ∙ ap (λ xs. debts xs) (take_all c.len-all.result c.args.right.line.items (omega arith))
