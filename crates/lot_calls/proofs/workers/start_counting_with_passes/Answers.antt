use Rattle.std.proofs.Common.{◌≡◌, length, vec_len, rules}
use Rattle.lot_calls.proofs.Working.{same_grown}
use Rattle.lot_calls.proofs.workers.start_counting_with_passes.Goals as goal

pub returns-in_default-clause-back : goal.returns-in_default-clause-back
returns-in_default-clause-back g c =
    let count : vec_len c.close.result ≡ length c.args.opened.values = search rules in
    (count, same_grown g.V.Keeps c.args.opened.values c.close.result.items c.close.ensures)

pub returns-in-Err-clause-back : goal.returns-in-Err-clause-back
returns-in-Err-clause-back g c =
    let count : vec_len c.in-Err.values ≡ length c.args.opened.values = search rules in
    (count, same_grown g.V.Keeps c.args.opened.values c.in-Err.values.items c.in-Err.ensures.back.1)
