use Rattle.std.proofs.Common.{◌≡◌, length, vec_len, rules, refl, ◌∙◌}
use Rattle.gallery.proofs.Eating.{all_ate}
use Rattle.gallery.proofs.dinner.end.Goals as goal

pub returns : goal.returns
returns g c =
    let forks = c.finish.result.0 in
    let long : length forks.items ≡ vec_len forks = search rules in
    all_ate _ refl _ c.args.lot forks.items c.finish.result.1.called.items c.finish.result.1.woken.items c.finish.ensures.finished
    (λ p even. even) c.requires.sizes.1 (long ∙ c.finish.ensures.count)
