use Rattle.std.proofs.Common.{refl, sym, ◌∙◌}
use Rattle.std.proofs.lemmas.List.{get_or_default}
use Rattle.lot_witness.specs.Judging.{IsNotAllowed, SeesOtherwise, LacksMemory}
use Rattle.lot_witness.proofs.Runs.{so_more, so_stops, lacks, refuses}
use Rattle.lot_witness.proofs.judging.follow.Goals as goal

pub returns-then-not-is_that-clause-err : goal.returns-then-not-is_that-clause-err
returns-then-not-is_that-clause-err c = (
  c.loop-before.before,
  refl,
  so_stops _ _ _ _ _ SeesOtherwise
      c.loop-before.invariant c.loop-before-test.true
      (c.in-Ok.ensures.0, λ e. let same = c.if-not-is_that.ensures.1 (c.in-Ok.ensures.2 ∙ e) in absurd (cc)),
)

pub returns-in-Err-NoMemory-clause-err : goal.returns-in-Err-NoMemory-clause-err
returns-in-Err-NoMemory-clause-err c = (
  c.loop-before.before,
  so_stops _ _ _ _ _ LacksMemory
      c.loop-before.invariant c.loop-before-test.true
      (lacks _ _ _ c.in-Err-NoMemory.field-0 c.in-Err-NoMemory.ensures c.in-Err-NoMemory.field-0-is),
)

pub returns-in-Err-NotEnabled-clause-err : goal.returns-in-Err-NotEnabled-clause-err
returns-in-Err-NotEnabled-clause-err c = (
  c.loop-before.before,
  refl,
  so_stops _ _ _ _ _ IsNotAllowed
      c.loop-before.invariant c.loop-before-test.true
      (refuses _ _ _ c.in-Err-NotEnabled.field-0 c.in-Err-NotEnabled.ensures c.in-Err-NotEnabled.field-0-is),
)

pub loop-before-preserved : goal.loop-before-preserved
loop-before-preserved c =
    so_more _ _ _ _ _ _ c.loop-before.invariant c.loop-before-test.true
    (get_or_default c.args.sightings.now c.loop-before.before _ _ c.loop-before-test.true) c.in-Ok.ensures.0 c.in-Ok.ensures.1
    (sym c.in-Ok.ensures.2 ∙ c.if-not-is_that.ensures.0 refl)
