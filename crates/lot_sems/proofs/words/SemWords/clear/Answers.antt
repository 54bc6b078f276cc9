use Rattle.std.proofs.Common.{◌-◌, ◌^◌, bit_and, subst, inl}
use Rattle.lot_rights.specs.Shown.{RootShown}
use Rattle.lot_rights.specs.Layout.{word_at}
use Rattle.lot_rights.proofs.Places.{both_at_place}
use Rattle.lot_sems.specs.declared.views.SemRootView.{SemRootView}
use Rattle.lot_sems.specs.World.{numbers}
use Rattle.lot_sems.specs.Rule.{names, meaning}
use Rattle.lot_sems.proofs.Roots.{Clears, clears}
use Rattle.lot_sems.proofs.words.SemWords.clear.Goals as goal

pub fetch_and_both-pass-requires-clause-allows : goal.fetch_and_both-pass-requires-clause-allows
fetch_and_both-pass-requires-clause-allows c =
    let p = c.args.pass in
    let q = c.args.root in
    let size = numbers c.self.inside.words.key in
    both_at_place (meaning size) (word_at q.key) _ c.word-word.ensures.is (λ n. bit_and n (2 ^ 64 - 2)) p q (λ _. Clears p q)
    (clears size p q c.requires.calm c.requires.nobody)

pub fetch_and_both-pass-requires-clause-names : goal.fetch_and_both-pass-requires-clause-names
fetch_and_both-pass-requires-clause-names c n p' q' told u h = inl (subst (λ (z : RootShown SemRootView). names z.own u) told.1 h)

pub returns-clause-entry : goal.returns-clause-entry
returns-clause-entry c = c.fetch_and_both-pass.ensures.told.0

pub returns-clause-root : goal.returns-clause-root
returns-clause-root c = c.fetch_and_both-pass.ensures.told.1
