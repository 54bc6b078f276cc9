use Rattle.std.proofs.Common.{◌+◌, ◌%◌, ◌^◌, ap, sym, subst, ◌∙◌, inl}
use Rattle.lot_events.specs.declared.events.Event.TheVariants.{SemPass}
use Rattle.lot_events.specs.declared.events.Seen.TheVariants.{Sleeper}
use Rattle.lot_rights.specs.Shown.{RootShown}
use Rattle.lot_rights.specs.Layout.{word_at}
use Rattle.lot_rights.specs.declared.views.Access.TheVariants.{Makes}
use Rattle.lot_rights.specs.Steps.{Notes}
use Rattle.lot_rights.proofs.Places.{both_at_place}
use Rattle.lot_sems.specs.declared.views.SemRootView.{SemRootView}
use Rattle.lot_sems.specs.World.{numbers}
use Rattle.lot_sems.specs.Rule.{meaning}
use Rattle.lot_sems.specs.Calls.{one_permit_less, raise_of}
use Rattle.lot_sems.proofs.Names.{pass_names}
use Rattle.lot_sems.proofs.Roots.{Passes, passes}
use Rattle.lot_sems.proofs.words.SemWords.pass_on.Goals as goal

pub fetch_add_both-pass-requires-clause-allows : goal.fetch_add_both-pass-requires-clause-allows
fetch_add_both-pass-requires-clause-allows c =
    let p = c.args.pass in
    let q = c.args.root in
    let size = numbers c.self.inside.words.key in
    let given = c.raise-given.result in
    both_at_place (meaning size) (word_at q.key) _ c.word-word.ensures.is (λ n. (n + given) % 2 ^ 64) p q
    (λ _. Passes p q q.own.line c.args.more)
    (passes size p q c.requires.may c.requires.first.1 c.args.more c.requires.more given
    (c.raise-given.ensures ∙ ap (λ o. raise_of o c.args.more) (sym c.requires.first.0)))

pub fetch_add_both-pass-requires-clause-names : goal.fetch_add_both-pass-requires-clause-names
fetch_add_both-pass-requires-clause-names c n p' q' told u h =
    inl (pass_names c.args.root.own q'.own u (ap (λ (z : RootShown SemRootView). z.own) told.1) h)

pub returns-clause-entry : goal.returns-clause-entry
returns-clause-entry c =
    subst
    (λ o. Notes c.args.pass (one_permit_less c.args.pass.own c.args.root.key)
    (Makes (SemPass c.args.pass.thread c.args.root.key c.args.more) (Sleeper o)) c.fetch_add_both-pass.result.0) c.requires.first.0
    c.fetch_add_both-pass.ensures.told.0

pub returns-clause-root : goal.returns-clause-root
returns-clause-root c = c.fetch_add_both-pass.ensures.told.1
