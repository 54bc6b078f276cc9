use Rattle.std.proofs.Common.{◌≡◌, true, false, ap, subst, sym, ◌∙◌, inl}
use Rattle.lot_core.specs.Steps.{first}
use Rattle.lot_events.specs.declared.events.Event.TheVariants.{Pass}
use Rattle.lot_events.specs.declared.events.Seen.TheVariants.{Sleeper}
use Rattle.lot_rights.specs.Shown.{RootShown}
use Rattle.lot_rights.specs.Layout.{word_at}
use Rattle.lot_rights.specs.declared.views.Access.TheVariants.{Makes}
use Rattle.lot_rights.specs.Steps.{Notes}
use Rattle.lot_rights.proofs.Places.{both_at_place}
use Rattle.lot_words.specs.declared.views.LockRootView.{LockRootView}
use Rattle.lot_words.specs.Calls.{letting_go, passed_root, word_left}
use Rattle.lot_words.specs.Rule.{meaning}
use Rattle.lot_words.proofs.Names.{pass_names}
use Rattle.lot_words.proofs.Roots.{Passes, stores, loads}
use Rattle.lot_words.proofs.words.LockWords.pass_on.Goals as goal

pub load_both-pass-requires-clause-allows : goal.load_both-pass-requires-clause-allows
load_both-pass-requires-clause-allows g c =
    let start = c.self.inside.words.key in
    let p = c.args.pass in
    let q = c.args.root in
    both_at_place (meaning g.V.Keeps start.size start.values.value.items) (word_at q.key) _ c.word-word.ensures.is (λ n. n) p q
    (λ _. Passes p q q.own.line true c.args.more)
    (loads g.V.Keeps start.size start.values.value.items p q c.requires.holds.0 c.requires.holds.1 c.requires.holds.2 c.requires.lies.0
    c.requires.lies.1 c.requires.first.1 c.args.more
    (λ none_first. let e : true ≡ false = sym c.if-fair.true ∙ c.requires.fair (sym c.requires.first.0 ∙ none_first) in cc))

pub load_both-pass-requires-clause-names : goal.load_both-pass-requires-clause-names
load_both-pass-requires-clause-names g c n p' q' told u h =
    inl (pass_names c.args.root.own q'.own true u (ap (λ (z : RootShown LockRootView). z.own) told.1) h)

pub store_both-requires-clause-allows : goal.store_both-requires-clause-allows
store_both-requires-clause-allows g c =
    let start = c.self.inside.words.key in
    let p = c.args.pass in
    let q = c.args.root in
    both_at_place (meaning g.V.Keeps start.size start.values.value.items) (word_at q.key) _ c.word-word.ensures.is
    (λ _. c.word_after-left.result) p q (λ _. Passes p q q.own.line false c.args.more)
    (stores g.V.Keeps start.size start.values.value.items p q c.requires.holds.0 c.requires.holds.1 c.requires.holds.2 c.requires.lies.0
    c.requires.lies.1 c.requires.first.1 c.args.more
    (c.requires.more c.if-fair.false) c.word_after-left.result
    (c.word_after-left.ensures ∙ ap (λ o. word_left o c.args.more) (sym c.requires.first.0)))

pub store_both-requires-clause-names : goal.store_both-requires-clause-names
store_both-requires-clause-names g c n p' q' told u h =
    inl (pass_names c.args.root.own q'.own false u (ap (λ (z : RootShown LockRootView). z.own) told.1) h)

pub returns-then-fair-clause-event : goal.returns-then-fair-clause-event
returns-then-fair-clause-event g c y lies =
    let p = c.args.pass in
    let q = c.args.root in
    subst
    (λ o. Notes p (letting_go p.own q.key y)
    (Makes (Pass p.thread q.key c.args.fair c.args.more) (Sleeper o)) c.load_both-pass.result.0) c.requires.first.0
    (subst
    (λ b. Notes p (letting_go p.own q.key y)
    (Makes (Pass p.thread q.key b c.args.more) (Sleeper (first q.own.line))) c.load_both-pass.result.0) (sym c.if-fair.true)
    (c.load_both-pass.ensures.told.0 y lies))

pub returns-then-fair-clause-root : goal.returns-then-fair-clause-root
returns-then-fair-clause-root g c =
    let q = c.args.root in
    c.load_both-pass.ensures.told.1 ∙ ap (λ b. let r : RootShown LockRootView = record q { own = passed_root q.own b q.own.line } in
    r) (sym c.if-fair.true)

pub returns-else-fair-clause-event : goal.returns-else-fair-clause-event
returns-else-fair-clause-event g c y lies =
    let p = c.args.pass in
    let q = c.args.root in
    subst
    (λ o. Notes p (letting_go p.own q.key y) (Makes (Pass p.thread q.key c.args.fair c.args.more) (Sleeper o)) c.store_both.result.0)
    c.requires.first.0
    (subst
    (λ b. Notes p (letting_go p.own q.key y)
    (Makes (Pass p.thread q.key b c.args.more) (Sleeper (first q.own.line))) c.store_both.result.0) (sym c.if-fair.false)
    (c.store_both.ensures.told.0 y lies))

pub returns-else-fair-clause-root : goal.returns-else-fair-clause-root
returns-else-fair-clause-root g c =
    let q = c.args.root in
    c.store_both.ensures.told.1 ∙ ap (λ b. let r : RootShown LockRootView = record q { own = passed_root q.own b q.own.line } in
    r) (sym c.if-fair.false)
