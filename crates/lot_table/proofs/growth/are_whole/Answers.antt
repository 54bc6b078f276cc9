use Rattle.std.proofs.Common.{◌≤◌, ℕ, List, length, get_or, arith, refl, sym, ◌∙◌, ap, subst}
use Rattle.std.proofs.lemmas.List.{take_all}
use Rattle.lot_bucket.specs.Contents.{Contents}
use Rattle.lot_bucket.specs.Settled.{IsWhole}
use Rattle.lot_table.specs.Buckets.{queued}
use Rattle.lot_table.specs.Tables.{under}
use Rattle.lot_table.proofs.Guarding.{whole_next, sum_next, length-under}
use Rattle.lot_table.proofs.growth.are_whole.Goals as goal

pub loop-number-init : goal.loop-number-init
loop-number-init g c = record { few = omega arith; sum = refl; whole = λ i d lt. absurd (omega arith) }

pub loop-number-preserved : goal.loop-number-preserved
loop-number-preserved g c = record {
  few = omega (arith, c.loop-number.invariant.few, c.if-own-threads.false);
  sum =
      sum_next c.loop-number.number c.loop-number.waiting c.len-own.result c.args.guards.now c.index-guards-number-in-loop-number.result
      c.deref-in-loop-number.result.now c.bucket.result.now
      c.loop-number-test.true
      c.index-guards-number-in-loop-number.is c.deref-in-loop-number.ensures c.bucket.ensures c.loop-number.invariant.sum
      c.len-own.ensures.count;
  whole =
      whole_next g.R.Root.view c.args.keys c.loop-number.number c.args.guards.now c.index-guards-number.result c.deref.result.now
      c.loop-number-test.true
      c.index-guards-number.is c.deref.ensures (c.if-not-is_whole.ensures.whole refl) c.loop-number.invariant.whole;
}

pub returns-clause-whole : goal.returns-clause-whole
returns-clause-whole g c is i b lt =
    let buckets = under c.args.guards.now in
    let count = length-under c.args.guards.now in
    subst (λ (n : ℕ). IsWhole g.R.Root.view n i c.args.keys (get_or buckets i b)) (sym count)
    (c.loop-number.invariant.whole i b (omega (arith, lt, count, c.loop-number-test.false)))

pub returns-clause-few : goal.returns-clause-few
returns-clause-few g c is =
    let buckets = under c.args.guards.now in
    let all : length buckets ≤ c.loop-number.number = omega (arith, length-under c.args.guards.now, c.loop-number-test.false) in
    subst (λ (n : ℕ). n ≤ c.args.threads) (c.loop-number.invariant.sum
    ∙ ap (λ (bs : List (Contents g.row.R.Denot)). queued bs) (take_all c.loop-number.number buckets all))
    c.loop-number.invariant.few
