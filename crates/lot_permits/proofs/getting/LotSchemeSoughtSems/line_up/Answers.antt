use Rattle.std.proofs.Common.{Bool, subst}
use Rattle.lot_sems.specs.declared.taking.Taken.{Taken}
use Rattle.lot_scheme.specs.SemCalls.{TakesPermit, MarksPermit}
use Rattle.lot_scheme.proofs.Ends.{parks_marked, waits_changed}
use Rattle.lot_permits.specs.Seeking.{IsSeekingFor, HasMarked, FindsAnother}
use Rattle.lot_permits.proofs.Seeking.{found_none, may_mark, has_marked, finds_another}
use Rattle.lot_permits.proofs.getting.LotSchemeSoughtSems.line_up.Given.{Over}
use Rattle.lot_permits.proofs.getting.LotSchemeSoughtSems.line_up.Goals.{In-Empty, then-marked, else-marked}
use Rattle.lot_permits.proofs.getting.LotSchemeSoughtSems.line_up.Goals as goal

-- the try found none, so it seeks one
seeks : (g : Over) (c : In-Empty g) → IsSeekingFor g.V.Keeps.above g.N.LotName.first_sem c.args.pass c.args.key
    c.take_permit-pass.result.0
seeks g c =
    found_none g.V.Keeps.above g.N.LotName.first_sem c.args.pass c.take_permit-pass.result.0 c.args.key c.requires.has.0
    c.requires.waits.may.1
    (subst (λ (b : Taken). TakesPermit c.args.pass c.args.key b c.take_permit-pass.result.0) c.in-Empty.is c.take_permit-pass.ensures)

pub mark_permit-pass-requires-clause-seeks : goal.mark_permit-pass-requires-clause-seeks
mark_permit-pass-requires-clause-seeks g c =
    may_mark g.V.Keeps.above g.N.LotName.first_sem c.args.pass c.take_permit-pass.result.0 c.args.key
    (seeks g (goal.at.mark_permit-pass-requires-clause-seeks g c).In-Empty)

pub returns-after-marked-clause-lined : goal.returns-after-marked-clause-lined
returns-after-marked-clause-lined g c =
    let p = c.args.pass in
    let q = c.take_permit-pass.result.0 in
    let r = c.mark_permit-pass.result.0 in
    let on = seeks g (goal.at.returns-after-marked-clause-lined g c).In-Empty in
    elim c.if-marked.branch [
      | then-marked w ↦ parks_marked (FindsAnother p c.args.key r) (HasMarked p c.args.key r) c.if-marked.now c.args.is_marked
          w.now-is (has_marked g.V.Keeps.above g.N.LotName.first_sem p q r c.args.key on
          (subst (λ (b : Bool). MarksPermit q c.args.key b r) w.if-marked.true c.mark_permit-pass.ensures))
      | else-marked w ↦ waits_changed (FindsAnother p c.args.key r) (HasMarked p c.args.key r) c.if-marked.now c.args.is_marked
          w.now-is (finds_another g.V.Keeps.above g.N.LotName.first_sem p q r c.args.key on
          (subst (λ (b : Bool). MarksPermit q c.args.key b r) w.if-marked.false c.mark_permit-pass.ensures))
    ]
