use Rattle.std.proofs.Common.{◌≡◌, true, false, ap, subst, sym, refl, ◌∙◌, inl}
use Rattle.lot_core.specs.Steps.{first}
use Rattle.lot_events.specs.declared.events.Event.TheVariants.{Pass}
use Rattle.lot_events.specs.declared.events.Seen.TheVariants.{Sleeper}
use Rattle.lot_rights.specs.declared.views.Access.TheVariants.{Makes}
use Rattle.lot_whole.specs.Rule.{size_of, meaning}
use Rattle.lot_words.specs.Calls.{letting_go, passed_root, word_left}
use Rattle.lot_words.proofs.Names.{pass_names}
use Rattle.lot_whole.specs.Family.{lock}
use Rattle.lot_whole.specs.Lifts.{whole_root}
use Rattle.lot_whole.specs.Calls.{NotesIn, lock_of}
use Rattle.lot_whole.proofs.Carries.{Passes, passes_store, passes_load}
use Rattle.lot_whole.proofs.Names.{both_of_kind, lock_root, lock_named}
use Rattle.lot_whole.proofs.words.LotWords.pass_on.Goals as goal

pub load_both-pass-requires-clause-allows : goal.load_both-pass-requires-clause-allows
load_both-pass-requires-clause-allows g c =
    let start = c.self.inside.words.key in
    both_of_kind (meaning g.V.Keeps start) c.word-word.ensures.is (λ n. n) c.args.pass
    (lock_root c.args.root c.requires.lock) (λ _. Passes c.args.pass (lock_of c.args.root) true c.args.more)
    (passes_load g.V.Keeps (size_of start) start.values.value.items c.args.pass
    (lock_of c.args.root) c.requires.may c.requires.holds c.requires.lies.0 c.requires.lies.1 c.requires.first.1 c.args.more
    (λ none_first. let e : true ≡ false = sym c.if-fair.true ∙ c.requires.fair (sym c.requires.first.0 ∙ none_first) in cc))

pub load_both-pass-requires-clause-names : goal.load_both-pass-requires-clause-names
load_both-pass-requires-clause-names g c n p' q' told u h =
    lock_named c.args.root q' u _ c.requires.lock _ told.1 (λ named. inl (pass_names (lock_of c.args.root).own _ true u refl named)) h

pub store_both-requires-clause-allows : goal.store_both-requires-clause-allows
store_both-requires-clause-allows g c =
    let start = c.self.inside.words.key in
    both_of_kind (meaning g.V.Keeps start) c.word-word.ensures.is (λ _. c.word_after-left.result) c.args.pass
    (lock_root c.args.root c.requires.lock) (λ _. Passes c.args.pass (lock_of c.args.root) false c.args.more)
    (passes_store g.V.Keeps (size_of start) start.values.value.items c.args.pass
    (lock_of c.args.root) c.requires.may c.requires.holds c.requires.lies.0 c.requires.lies.1 c.requires.first.1 c.args.more
    (c.requires.more c.if-fair.false) c.word_after-left.result
    (c.word_after-left.ensures ∙ ap (λ o. word_left o c.args.more) (sym c.requires.first.0)))

pub store_both-requires-clause-names : goal.store_both-requires-clause-names
store_both-requires-clause-names g c n p' q' told u h =
    lock_named c.args.root q' u _ c.requires.lock _ told.1 (λ named. inl (pass_names (lock_of c.args.root).own _ false u refl named)) h

pub returns-then-fair-clause-event : goal.returns-then-fair-clause-event
returns-then-fair-clause-event g c y lies =
    let p = c.args.pass in
    let q = lock_of c.args.root in
    subst (λ o. NotesIn lock p (letting_go p.own.locks q.key y)
    (Makes (Pass p.thread q.key c.args.fair c.args.more) (Sleeper o)) c.load_both-pass.result.0) c.requires.first.0
    (subst (λ b. NotesIn lock p (letting_go p.own.locks q.key y)
    (Makes (Pass p.thread q.key b c.args.more) (Sleeper (first q.own.line))) c.load_both-pass.result.0) (sym c.if-fair.true)
    (c.load_both-pass.ensures.told.0 y lies))

pub returns-then-fair-clause-root : goal.returns-then-fair-clause-root
returns-then-fair-clause-root g c =
    let q = lock_of c.args.root in
    c.load_both-pass.ensures.told.1 ∙ ap (λ b. whole_root lock (record q { own = passed_root q.own b q.own.line })) (sym c.if-fair.true)

pub returns-else-fair-clause-event : goal.returns-else-fair-clause-event
returns-else-fair-clause-event g c y lies =
    let p = c.args.pass in
    let q = lock_of c.args.root in
    subst (λ o. NotesIn lock p (letting_go p.own.locks q.key y)
    (Makes (Pass p.thread q.key c.args.fair c.args.more) (Sleeper o)) c.store_both.result.0) c.requires.first.0
    (subst (λ b. NotesIn lock p (letting_go p.own.locks q.key y)
    (Makes (Pass p.thread q.key b c.args.more) (Sleeper (first q.own.line))) c.store_both.result.0) (sym c.if-fair.false)
    (c.store_both.ensures.told.0 y lies))

pub returns-else-fair-clause-root : goal.returns-else-fair-clause-root
returns-else-fair-clause-root g c =
    let q = lock_of c.args.root in
    c.store_both.ensures.told.1 ∙ ap (λ b. whole_root lock (record q { own = passed_root q.own b q.own.line })) (sym c.if-fair.false)
