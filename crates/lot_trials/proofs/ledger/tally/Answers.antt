use Rattle.std.proofs.Common.{subst, sym, arith}
use Rattle.std.specs.List.{All}
use Rattle.std.proofs.lemmas.List.Elements.{All-nil}
use Rattle.lot_sync.specs.Lot.{one_wait_more, called_more}
use Rattle.lot_trials.specs.Order.{TakesNone}
use Rattle.lot_trials.proofs.Counting.{same_thread, tells_one}
use Rattle.lot_trials.proofs.Order.{notified_first, first_of}
use Rattle.lot_trials.proofs.ledger.tally.Goals as goal

pub returns-clause-ledger : goal.returns-clause-ledger
returns-clause-ledger g c =
    let unused = c.requires.unused in
    tells_one c.args.lot c.args.first c.args.second c.work_both-first.result.0 c.work_both-first.result.1
    c.requires.sizes.2 c.requires.sizes.3
    c.work_both-first.ensures.one.ends c.work_both-first.ensures.other.ends (unused.0.called, unused.0.woken)
    (unused.1.called, unused.1.woken) c.close_both.result.1.called.items c.close_both.result.1.woken.items
    c.close_both.ensures.ledger

pub returns-clause-order : goal.returns-clause-order
returns-clause-order g c =
    let a = c.work_both-first.result.0 in
    let b = c.work_both-first.result.1 in
    let waited = c.work_both-first.ensures.one in
    let called = c.work_both-first.ensures.other in
    let of_a = same_thread c.args.lot (one_wait_more c.args.first 1) a waited.ends in
    let of_b = same_thread c.args.lot (called_more c.args.second 1 1) b called.ends in
    first_of _ a.thread b.thread c.args.first.thread c.args.second.thread 1 of_a of_b
    (notified_first _ a b 1 c.close_both.ensures.history c.letters_follow.ensures c.requires.sizes.1
    (omega (arith, of_a, c.requires.threads.0)) (omega (arith, of_b, c.requires.threads.1)) c.close_both.ensures.apart waited.waited
    (waited.none (subst (All (TakesNone 1)) (sym c.requires.unused.0.made) (All-nil (TakesNone 1))))
    (called.called (subst (All (TakesNone 1)) (sym c.requires.unused.1.made) (All-nil (TakesNone 1)))))
