use Rattle.std.proofs.Common.{◌≡◌, ◌<◌, ◌⊎◌, false, sym, ap, subst, inl, inr, arith}
use Rattle.lot_core.specs.Steps.{dequeued_count}
use Rattle.lot_events.specs.declared.events.Event.TheVariants.{Call}
use Rattle.lot_events.specs.declared.events.Seen.TheVariants.{Count}
use Rattle.lot_rights.specs.Shown.{RootShown}
use Rattle.lot_rights.specs.Layout.{word_at}
use Rattle.lot_rights.specs.Steps.{Notes}
use Rattle.lot_rights.specs.declared.views.Access.TheVariants.{Makes}
use Rattle.lot_rights.proofs.Places.{both_at_place}
use Rattle.lot_conds.specs.declared.views.CondRootView.{CondRootView}
use Rattle.lot_conds.specs.Calls.{called_more}
use Rattle.lot_conds.specs.Rule.{meaning}
use Rattle.lot_conds.proofs.Names.{call_names}
use Rattle.lot_conds.proofs.Turns.{Calls, call_loads, call_stores}
use Rattle.lot_conds.proofs.words.CondWords.call.Goals as goal
use Rattle.lot_conds.proofs.words.CondWords.call.Goals.{else-more-via-then-more+else-taken-gt0, else-more-via-else-more}

pub load_both-pass-requires-clause-allows : goal.load_both-pass-requires-clause-allows
load_both-pass-requires-clause-allows c =
    let p = c.args.pass in
    let q = c.args.root in
    let n = c.args.count in
    let size = c.self.inside.words.key in
    both_at_place (meaning size) (word_at q.key) _ c.word-word.ensures.is (λ n. n) p q (λ _. Calls p q n c.args.more)
    (call_loads size p q c.requires.calm n c.args.more c.requires.count c.requires.more c.if-more.true
    (subst (λ k. 0 < k) (sym c.requires.taken) c.if-taken-gt0.true))

pub load_both-pass-requires-clause-names : goal.load_both-pass-requires-clause-names
load_both-pass-requires-clause-names c n p' q' told u h =
    inl (call_names c.args.root.own q'.own c.args.count u (ap (λ (z : RootShown CondRootView). z.own) told.1) h)

pub store_both-requires-clause-allows : goal.store_both-requires-clause-allows
store_both-requires-clause-allows c =
    let p = c.args.pass in
    let q = c.args.root in
    let n = c.args.count in
    let size = c.self.inside.words.key in
    let last = elim c.else-more.branch as (λ _. (dequeued_count n q.own.line ≡ 0) ⊎ (c.args.more ≡ false)) [
      | else-more-via-then-more+else-taken-gt0 w ↦ inl (let e = c.requires.taken in let none = w.if-taken-gt0.false in omega arith)
      | else-more-via-else-more w ↦ inr w.if-more.false
    ] in
    both_at_place (meaning size) (word_at q.key) _ c.word-word.ensures.is (λ _. 0) p q (λ _. Calls p q n c.args.more)
    (call_stores size p q c.requires.calm n c.args.more c.requires.count c.requires.more last)

pub store_both-requires-clause-names : goal.store_both-requires-clause-names
store_both-requires-clause-names c n p' q' told u h =
    inl (call_names c.args.root.own q'.own c.args.count u (ap (λ (z : RootShown CondRootView). z.own) told.1) h)

pub returns-then-taken-gt0-clause-event : goal.returns-then-taken-gt0-clause-event
returns-then-taken-gt0-clause-event c =
    let p = c.args.pass in
    let q = c.args.root in
    subst
    (λ k. Notes p (called_more p.own q.key k)
    (Makes (Call p.thread q.key c.args.count c.args.more) (Count k)) c.load_both-pass.result.0) c.requires.taken
    c.load_both-pass.ensures.told.0

pub returns-then-taken-gt0-clause-root : goal.returns-then-taken-gt0-clause-root
returns-then-taken-gt0-clause-root c = c.load_both-pass.ensures.told.1

pub returns-else-more-clause-event : goal.returns-else-more-clause-event
returns-else-more-clause-event c =
    let p = c.args.pass in
    let q = c.args.root in
    subst
    (λ k. Notes p (called_more p.own q.key k) (Makes (Call p.thread q.key c.args.count c.args.more) (Count k)) c.store_both.result.0)
    c.requires.taken c.store_both.ensures.told.0

pub returns-else-more-clause-root : goal.returns-else-more-clause-root
returns-else-more-clause-root c = c.store_both.ensures.told.1
