use Rattle.std.proofs.Common.{◌≡◌, length, vec_len, rules, refl, ◌∙◌}
use Rattle.gallery.proofs.Settling.{same_at_end, opened_at_the_end}
use Rattle.gallery.proofs.accounts.end.Goals as goal

pub returns-clause-sum : goal.returns-clause-sum
returns-clause-sum g c =
    let accounts = c.finish.result.0 in
    let long : length accounts.items ≡ vec_len accounts = search rules in
    same_at_end _ _ c.args.lot accounts.items c.finish.result.1.called.items c.finish.result.1.woken.items
    c.finish.ensures.finished (λ k v kept. kept) refl (λ p even. even) (λ u v same. same)
    c.requires.sizes.1 c.requires.sizes.0 (long ∙ c.finish.ensures.count)

pub returns-clause-opening : goal.returns-clause-opening
returns-clause-opening g c =
    let accounts = c.finish.result.0 in
    let long : length accounts.items ≡ vec_len accounts = search rules in
    opened_at_the_end _ _ c.args.lot accounts.items c.finish.result.1.called.items c.finish.result.1.woken.items
    c.finish.ensures.finished (λ k v kept. kept) refl (λ p even. even) (λ u v same. same)
    c.requires.sizes.1 c.requires.sizes.0 (long ∙ c.finish.ensures.count)
