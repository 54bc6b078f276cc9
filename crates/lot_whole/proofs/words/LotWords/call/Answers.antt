use Rattle.std.proofs.Common.{◌≡◌, ◌<◌, ◌⊎◌, false, sym, subst, refl, inl, inr, arith}
use Rattle.lot_core.specs.Steps.{dequeued_count}
use Rattle.lot_events.specs.declared.events.Event.TheVariants.{Call}
use Rattle.lot_events.specs.declared.events.Seen.TheVariants.{Count}
use Rattle.lot_rights.specs.declared.views.Access.TheVariants.{Makes}
use Rattle.lot_whole.specs.Rule.{size_of, meaning}
use Rattle.lot_conds.specs.Calls.{called_more}
use Rattle.lot_conds.proofs.Names.{call_names}
use Rattle.lot_whole.proofs.Carries.{CallsSome, call_loads, call_stores}
use Rattle.lot_whole.specs.Calls.{NotesIn, cond_of}
use Rattle.lot_whole.specs.Family.{cond}
use Rattle.lot_whole.proofs.Names.{both_of_kind, cond_root, cond_named}
use Rattle.lot_whole.proofs.words.LotWords.call.Goals as goal
use Rattle.lot_whole.proofs.words.LotWords.call.Goals.{else-more-via-then-more+else-taken-gt0, else-more-via-else-more}

pub load_both-pass-requires-clause-allows : goal.load_both-pass-requires-clause-allows
load_both-pass-requires-clause-allows g c =
    let start = c.self.inside.words.key in
    both_of_kind (meaning g.V.Keeps start) c.word-word.ensures.is (λ n. n) c.args.pass (cond_root c.args.root c.requires.cond)
    (λ _. CallsSome c.args.pass (cond_of c.args.root) c.args.count c.args.more)
    (call_loads g.V.Keeps (size_of start) start.values.value.items c.args.pass
    (cond_of c.args.root) c.requires.idle c.args.count c.args.more c.requires.count c.requires.more c.if-more.true
    (subst (λ k. 0 < k) (sym c.requires.taken) c.if-taken-gt0.true))

pub load_both-pass-requires-clause-names : goal.load_both-pass-requires-clause-names
load_both-pass-requires-clause-names g c n p' q' told u h =
    cond_named c.args.root q' u _ c.requires.cond _ told.1
    (λ named. inl (call_names (cond_of c.args.root).own _ c.args.count u refl named)) h

pub store_both-requires-clause-allows : goal.store_both-requires-clause-allows
store_both-requires-clause-allows g c =
    let start = c.self.inside.words.key in
    let last = elim c.else-more.branch as (λ _. (dequeued_count c.args.count (cond_of c.args.root).own.line ≡ 0) ⊎ (c.args.more ≡ false)) [
      | else-more-via-then-more+else-taken-gt0 w ↦ inl (let e = c.requires.taken in let none = w.if-taken-gt0.false in omega arith)
      | else-more-via-else-more w ↦ inr w.if-more.false
    ] in
    both_of_kind (meaning g.V.Keeps start) c.word-word.ensures.is (λ _. 0) c.args.pass (cond_root c.args.root c.requires.cond)
    (λ _. CallsSome c.args.pass (cond_of c.args.root) c.args.count c.args.more)
    (call_stores g.V.Keeps (size_of start) start.values.value.items c.args.pass
    (cond_of c.args.root) c.requires.idle c.args.count c.args.more c.requires.count c.requires.more last)

pub store_both-requires-clause-names : goal.store_both-requires-clause-names
store_both-requires-clause-names g c n p' q' told u h =
    cond_named c.args.root q' u _ c.requires.cond _ told.1
    (λ named. inl (call_names (cond_of c.args.root).own _ c.args.count u refl named)) h

pub returns-then-taken-gt0-clause-event : goal.returns-then-taken-gt0-clause-event
returns-then-taken-gt0-clause-event g c =
    let p = c.args.pass in
    let q = c.args.root in
    subst (λ k. NotesIn cond p (called_more p.own.conds q.key k)
    (Makes (Call p.thread q.key c.args.count c.args.more) (Count k)) c.load_both-pass.result.0) c.requires.taken
    c.load_both-pass.ensures.told.0

pub returns-then-taken-gt0-clause-root : goal.returns-then-taken-gt0-clause-root
returns-then-taken-gt0-clause-root g c = c.load_both-pass.ensures.told.1

pub returns-else-more-clause-event : goal.returns-else-more-clause-event
returns-else-more-clause-event g c =
    let p = c.args.pass in
    let q = c.args.root in
    subst (λ k. NotesIn cond p (called_more p.own.conds q.key k)
    (Makes (Call p.thread q.key c.args.count c.args.more) (Count k)) c.store_both.result.0) c.requires.taken
    c.store_both.ensures.told.0

pub returns-else-more-clause-root : goal.returns-else-more-clause-root
returns-else-more-clause-root g c = c.store_both.ensures.told.1
