use Rattle.std.proofs.Common.{rules, refl, sym, ap, subst}
use Rattle.lot_sync.specs.Lot.{PassView}
use Rattle.lot_sync.proofs.Holdings.{may_go_back}
use Rattle.lot_calls.proofs.Visiting.{visits, visit_made, finds_got}
use Rattle.lot_calls.proofs.with.with_value.Goals as goal

pub returns-clause-visits : goal.returns-clause-visits
returns-clause-visits g c =
    let worked = c.replace_with-held.ensures in
    let gets = c.lock-pass.ensures.gets in
    let finds = finds_got g.V.Keeps c.args.pass c.lock-pass.result.0 c.args.key c.lock-pass.result.1 gets c.args.lot.now c.requires.key
    c.lock-pass.ensures.shape in (
      c.lock-pass.result.1.value,
      worked.0.0,
      rw (sym worked.3) at worked.1,
      visits g.V.Keeps c.args.pass c.lock-pass.result.0 c.unlock-pass.result.0 c.args.key c.lock-pass.result.1
          c.lock-pass.result.1.value worked.0.0
          c.requires.not_owned gets refl (c.requires.keeps c.lock-pass.result.1.value worked.0 gets.kept finds worked.1)
          (rw worked.2 at c.unlock-pass.ensures.pass)
          (rw worked.2 at c.unlock-pass.ensures.seen) c.args.lot.now c.requires.key c.unlock-pass.ensures.shape,
    )

pub returns-clause-made : goal.returns-clause-made
returns-clause-made g c =
    let worked = c.replace_with-held.ensures in
    let gets = c.lock-pass.ensures.gets in
    visit_made c.args.pass c.lock-pass.result.0 c.unlock-pass.result.0 c.args.key c.lock-pass.result.1.key c.args.moment.now
    c.unlock-pass.result.1 gets.key_is
    (ap (λ (p : PassView g.row.V.Denot). p.thread) gets.after_is) c.lock-pass.ensures.made c.unlock-pass.ensures.fits
    (rw worked.2 at c.unlock-pass.ensures.made)

pub lock-pass-requires-clause-not_owned : goal.lock-pass-requires-clause-not_owned
lock-pass-requires-clause-not_owned g c κs within = search rules

pub replace_with-held-requires : goal.replace_with-held-requires
replace_with-held-requires g c =
    let gets = c.lock-pass.ensures.gets in
    let finds = finds_got g.V.Keeps c.args.pass c.lock-pass.result.0 c.args.key c.lock-pass.result.1 gets c.args.lot.now c.requires.key
    c.lock-pass.ensures.shape in
    record { callable = c.requires.callable c.lock-pass.result.1.value gets.kept finds }

pub unlock-pass-requires-clause-back : goal.unlock-pass-requires-clause-back
unlock-pass-requires-clause-back g c κs within =
    let worked = c.replace_with-held.ensures in
    let gets = c.lock-pass.ensures.gets in
    let finds = finds_got g.V.Keeps c.args.pass c.lock-pass.result.0 c.args.key c.lock-pass.result.1 gets c.args.lot.now c.requires.key
    c.lock-pass.ensures.shape in
    let may = c.requires.keeps c.lock-pass.result.1.value worked.0 gets.kept finds worked.1 in
    rw worked.2 (may_go_back g.V.Keeps c.args.pass c.lock-pass.result.0 c.args.key c.lock-pass.result.1 worked.0.0 gets
    (subst (λ k. g.V.Keeps.keeps k worked.0.0) (sym gets.key_is) may.kept) may.grown may.others)
