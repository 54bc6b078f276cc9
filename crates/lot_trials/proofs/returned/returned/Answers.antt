use Rattle.std.proofs.Common.{◌≡◌, length, rules}
use Rattle.lot_trials.proofs.Counting.{only_value, alone}
use Rattle.lot_trials.proofs.returned.returned.Goals as goal

pub returns : goal.returns
returns g c =
    let values = c.close-values.result.0 in
    let long : length values.items ≡ 1 = search rules in
    let before = c.start-lot.result.1 in
    let none : length before.items ≡ 0 = search rules in
    let last = c.leave-pass.result in
    only_value values.items c.push_reserved.new.self.items last c.args.number long
    (alone before.items c.push_reserved.new.self.items last none c.push_reserved.ensures.items) c.close-values.ensures.seen
    c.leave-pass.ensures.seen
