use Rattle.std.proofs.Common.{◌≡◌, length, vec_len, rules, ◌∙◌}
use Rattle.lot_calls.proofs.Working.{all_end, seen_kept}
use Rattle.lot_calls.proofs.crew.close_with.Goals as goal

pub returns-clause-kept : goal.returns-clause-kept
returns-clause-kept g c = seen_kept g.V.Keeps c.args.passes.items c.close.result.0.items c.close.ensures.values c.close.ensures.seen

pub returns-clause-ends : goal.returns-clause-ends
returns-clause-ends g c =
    let values = c.close.result.0 in
    let long : length values.items ≡ vec_len values = search rules in
    all_end g.V.Keeps c.args.lot c.args.passes.items values.items c.requires.back (long ∙ c.close.ensures.count) c.close.ensures.values
