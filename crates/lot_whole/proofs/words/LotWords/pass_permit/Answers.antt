use Rattle.std.proofs.Common.{◌+◌, ◌%◌, ◌^◌, ap, subst, sym, ◌∙◌, refl, inl}
use Rattle.lot_events.specs.declared.events.Event.TheVariants.{SemPass}
use Rattle.lot_events.specs.declared.events.Seen.TheVariants.{Sleeper}
use Rattle.lot_rights.specs.declared.views.Access.TheVariants.{Makes}
use Rattle.lot_whole.specs.Family.{sem}
use Rattle.lot_whole.specs.Rule.{size_of, meaning}
use Rattle.lot_whole.specs.Calls.{NotesIn, sem_of}
use Rattle.lot_whole.proofs.Names.{both_of_kind, sem_root, sem_named}
use Rattle.lot_sems.specs.Calls.{one_permit_less, raise_of}
use Rattle.lot_sems.proofs.Names.{pass_names}
use Rattle.lot_whole.proofs.Seekers.{PassesPermit, passes}
use Rattle.lot_whole.proofs.words.LotWords.pass_permit.Goals as goal

pub fetch_add_both-pass-requires-clause-allows : goal.fetch_add_both-pass-requires-clause-allows
fetch_add_both-pass-requires-clause-allows g c =
    let start = c.self.inside.words.key in
    both_of_kind (meaning g.V.Keeps start) c.word-word.ensures.is (λ n. (n + c.raise-given.result) % 2 ^ 64) c.args.pass
    (sem_root c.args.root c.requires.sem) (λ _. PassesPermit c.args.pass (sem_of c.args.root) c.args.more)
    (passes g.V.Keeps (size_of start) start.values.value.items c.args.pass
    (sem_of c.args.root) c.requires.may c.requires.first.1 c.args.more c.requires.more c.raise-given.result
    (c.raise-given.ensures ∙ ap (λ o. raise_of o c.args.more) (sym c.requires.first.0)))

pub fetch_add_both-pass-requires-clause-names : goal.fetch_add_both-pass-requires-clause-names
fetch_add_both-pass-requires-clause-names g c n p' q' told u h =
    sem_named c.args.root q' u _ c.requires.sem _ told.1 (λ named. inl (pass_names (sem_of c.args.root).own _ u refl named)) h

pub returns-clause-entry : goal.returns-clause-entry
returns-clause-entry g c =
    subst (λ o. NotesIn sem c.args.pass (one_permit_less c.args.pass.own.sems c.args.root.key)
    (Makes (SemPass c.args.pass.thread c.args.root.key c.args.more) (Sleeper o)) c.fetch_add_both-pass.result.0) c.requires.first.0
    c.fetch_add_both-pass.ensures.told.0

pub returns-clause-root : goal.returns-clause-root
returns-clause-root g c = c.fetch_add_both-pass.ensures.told.1
