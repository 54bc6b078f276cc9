use Rattle.std.proofs.Common.{subst, refl, inl}
use Rattle.lot_events.specs.declared.events.Event.TheVariants.{Sweep}
use Rattle.lot_events.specs.declared.events.Seen.TheVariants.{Count}
use Rattle.lot_rights.specs.declared.views.Access.TheVariants.{Makes}
use Rattle.lot_whole.specs.Rule.{size_of, meaning}
use Rattle.lot_conds.specs.Calls.{swept_pass}
use Rattle.lot_conds.proofs.Names.{sweep_names}
use Rattle.lot_whole.proofs.Carries.{Sweeps, sweeps}
use Rattle.lot_whole.specs.Calls.{NotesIn, cond_of}
use Rattle.lot_whole.specs.Family.{cond}
use Rattle.lot_whole.proofs.Names.{both_of_kind, cond_root, cond_named}
use Rattle.lot_whole.proofs.words.LotWords.sweep.Goals as goal

pub load_both-pass-requires-clause-allows : goal.load_both-pass-requires-clause-allows
load_both-pass-requires-clause-allows g c =
    let start = c.self.inside.words.key in
    both_of_kind (meaning g.V.Keeps start) c.word-word.ensures.is (λ n. n) c.args.pass (cond_root c.args.root c.requires.cond)
    (λ _. Sweeps c.args.pass (cond_of c.args.root))
    (sweeps g.V.Keeps (size_of start) start.values.value.items c.args.pass (cond_of c.args.root) c.requires.lowered)

pub load_both-pass-requires-clause-names : goal.load_both-pass-requires-clause-names
load_both-pass-requires-clause-names g c n p' q' told u h =
    cond_named c.args.root q' u _ c.requires.cond _ told.1 (λ named. inl (sweep_names (cond_of c.args.root).own _ u refl named)) h

pub returns-clause-event : goal.returns-clause-event
returns-clause-event g c =
    subst (λ n. NotesIn cond c.args.pass (swept_pass c.args.pass.own.conds c.args.root.key n)
    (Makes (Sweep c.args.pass.thread c.args.root.key) (Count n)) c.load_both-pass.result.0)
    c.requires.taken c.load_both-pass.ensures.told.0

pub returns-clause-root : goal.returns-clause-root
returns-clause-root g c = c.load_both-pass.ensures.told.1
