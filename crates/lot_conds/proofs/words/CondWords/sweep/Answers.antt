use Rattle.std.proofs.Common.{ap, subst, inl}
use Rattle.lot_events.specs.declared.events.Event.TheVariants.{Sweep}
use Rattle.lot_events.specs.declared.events.Seen.TheVariants.{Count}
use Rattle.lot_rights.specs.Shown.{RootShown}
use Rattle.lot_rights.specs.Layout.{word_at}
use Rattle.lot_rights.specs.Steps.{Notes}
use Rattle.lot_rights.specs.declared.views.Access.TheVariants.{Makes}
use Rattle.lot_rights.proofs.Places.{both_at_place}
use Rattle.lot_conds.specs.declared.views.CondRootView.{CondRootView}
use Rattle.lot_conds.specs.Calls.{swept_pass}
use Rattle.lot_conds.specs.Rule.{meaning}
use Rattle.lot_conds.proofs.Names.{sweep_names}
use Rattle.lot_conds.proofs.Turns.{Sweeps, sweeps}
use Rattle.lot_conds.proofs.words.CondWords.sweep.Goals as goal

pub load_both-pass-requires-clause-allows : goal.load_both-pass-requires-clause-allows
load_both-pass-requires-clause-allows c =
    let p = c.args.pass in
    let q = c.args.root in
    let size = c.self.inside.words.key in
    both_at_place (meaning size) (word_at q.key) _ c.word-word.ensures.is (λ n. n) p q (λ _. Sweeps p q)
    (sweeps size p q c.requires.lowered.1)

pub load_both-pass-requires-clause-names : goal.load_both-pass-requires-clause-names
load_both-pass-requires-clause-names c n p' q' told u h =
    inl (sweep_names c.args.root.own q'.own u (ap (λ (z : RootShown CondRootView). z.own) told.1) h)

pub returns-clause-event : goal.returns-clause-event
returns-clause-event c =
    subst (λ n. Notes c.args.pass (swept_pass c.args.pass.own c.args.root.key n)
    (Makes (Sweep c.args.pass.thread c.args.root.key) (Count n)) c.load_both-pass.result.0) c.requires.taken
    c.load_both-pass.ensures.told.0

pub returns-clause-root : goal.returns-clause-root
returns-clause-root c = c.load_both-pass.ensures.told.1
