use Rattle.std.proofs.Common.{refl, sym, subst, ◌∙◌}
use Rattle.std.proofs.lemmas.Bool.Decides.{when_true, when_false}
use Rattle.lot_seeking.specs.declared.seeking.Seeking.{Seeking}
use Rattle.lot_scheme.proofs.Ends.{parks_marked, waits_changed}
use Rattle.lot_locks.specs.Standing.{IsTryingFor, Seeks, HasMarked, FindsAnother}
use Rattle.lot_locks.proofs.Letters.{marked_awake}
use Rattle.lot_locks.proofs.Seeking.{awake, may_line_up, marked_on, has_marked, finds_another}
use Rattle.lot_locks.proofs.getting.LotSchemeSoughtLocks.line_up.Given.{Over}
use Rattle.lot_locks.proofs.getting.LotSchemeSoughtLocks.line_up.Goals.{Else-got, then-marked, else-marked}
use Rattle.lot_locks.proofs.getting.LotSchemeSoughtLocks.line_up.Goals as goal

-- the try got none, so it wants the lock
wants : (g : Over) (c : Else-got g) → IsTryingFor g.V.Keeps.above g.N.LotName.locks c.args.pass c.args.key c.take-pass.result.0
wants g c = when_false _ _ c.if-got.false c.take-pass.ensures.far

pub mark-pass-requires-clause-may : goal.mark-pass-requires-clause-may
mark-pass-requires-clause-may g c =
    may_line_up g.V.Keeps.above g.N.LotName.locks c.args.pass c.take-pass.result.0 c.args.key
    (wants g (goal.at.mark-pass-requires-clause-may g c).Else-got)

pub returns-clause-far : goal.returns-clause-far
returns-clause-far g c =
    let p = c.args.pass in
    let r = c.mark-pass.result.0 in
    let tries =
    marked_on g.V.Keeps.above g.N.LotName.locks p c.take-pass.result.0 r c.args.key c.mark-pass.result.1
    (wants g (goal.at.returns-clause-far g c).Else-got) c.mark-pass.ensures in
    elim c.if-marked.branch [
      | then-marked w ↦ subst (λ (far : Seeking). Seeks g.V.Keeps g.N.LotName.locks p c.args.key far r) (sym w.now-is) tries
      | else-marked w ↦ subst (λ (far : Seeking). Seeks g.V.Keeps g.N.LotName.locks p c.args.key far r) (sym w.now-is)
          (awake g.V.Keeps.above g.N.LotName.locks p r c.args.key tries)
    ]

pub returns-clause-lined : goal.returns-clause-lined
returns-clause-lined g c =
    let q = c.take-pass.result.0 in
    let changed = FindsAnother c.args.pass c.args.key c.mark-pass.result.0 in
    let marked = HasMarked c.args.pass c.args.key c.mark-pass.result.0 in
    let tries = wants g (goal.at.returns-clause-lined g c).Else-got in
    elim c.if-marked.branch [
      | then-marked w ↦ parks_marked changed marked c.if-marked.now c.args.is_marked w.now-is
          (has_marked g.V.Keeps.above g.N.LotName.locks c.args.pass q c.mark-pass.result.0 c.args.key tries
          (when_true _ _ w.if-marked.true c.mark-pass.ensures))
      | else-marked w ↦
          let found = when_false _ _ w.if-marked.false c.mark-pass.ensures in
          waits_changed changed marked c.if-marked.now c.args.is_marked w.now-is
          (finds_another g.V.Keeps.above g.N.LotName.locks c.args.pass q c.mark-pass.result.0 c.args.key found.0 tries found.1 found.2)
    ]

pub returns-clause-awake : goal.returns-clause-awake
returns-clause-awake g c =
    marked_awake c.take-pass.result.0 c.mark-pass.result.0 c.mark-pass.result.1 c.args.key _ refl c.mark-pass.ensures
    ∙ c.take-pass.ensures.awake
