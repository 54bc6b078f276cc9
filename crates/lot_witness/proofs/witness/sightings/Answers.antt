use Rattle.std.proofs.Common.{List, ℕ, sym, subst, rules, Ok, Err}
use Rattle.std.specs.Prelude.{IfErr}
use Rattle.lot_witness.specs.declared.witness.Sighting.{Sighting}
use Rattle.lot_witness.specs.Spelling.{BeginsWith, BeginsWithAll}
use Rattle.lot_witness.proofs.Texts.{all_push, all_first, line_shorter}
use Rattle.lot_witness.proofs.witness.sightings.Goals as goal

pub loop-sighting-smaller : goal.loop-sighting-smaller
loop-sighting-smaller c = line_shorter c.loop-sighting.rest.now c.in-Some.sighting c.in-Some.behind.now c.in-Some.ensures.some

pub returns-in_err-push-clause-some : goal.returns-in_err-push-clause-some
returns-in_err-push-clause-some c =
    let found = all_first c.args.lines.now c.loop-sighting.sightings.items c.loop-sighting.rest.now c.in-Some.sighting c.in-Some.behind.now
    c.loop-sighting.invariant.1 c.in-Some.ensures.some in
    elim c.from_residual.result as (λ r. IfErr r (λ a. (x : Sighting) × (rest : List ℕ) × BeginsWith c.args.lines.now x rest)) [
      | Ok x ↦ tt
      | Err e ↦ found
    ]

pub loop-sighting-preserved : goal.loop-sighting-preserved
loop-sighting-preserved c = (
  search rules,
  subst (λ xs. BeginsWithAll c.args.lines.now xs c.in-Some.behind.now) (sym (c.in_ok-push.ensures {u = tt}).items)
      (all_push c.args.lines.now c.loop-sighting.sightings.items c.loop-sighting.rest.now c.in-Some.sighting c.in-Some.behind.now
      c.loop-sighting.invariant.1 c.in-Some.ensures.some),
)
