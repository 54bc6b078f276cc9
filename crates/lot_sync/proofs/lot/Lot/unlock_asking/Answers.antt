use Rattle.std.proofs.Common.{inl, inr, false, sym, ap, subst}
use Rattle.lot_locks.specs.Released.{FreeTrace, IsFitting}
use Rattle.lot_locks.specs.Standing.{LetsGo}
use Rattle.lot_sync.specs.Passes.{AreTallied}
use Rattle.lot_sync.proofs.Calls.{sees_left_at, adds_left}
use Rattle.lot_sync.proofs.Rests.{rests_free}
use Rattle.lot_sync.proofs.Holdings.{sees_left}
use Rattle.lot_sync.proofs.lot.Lot.unlock_asking.Given.{Over}
use Rattle.lot_sync.proofs.lot.Lot.unlock_asking.Goals.{Joined-freed, then-freed, else-freed}
use Rattle.lot_sync.proofs.lot.Lot.unlock_asking.Goals as goal

-- the lock was let go: by the first exchange, or by what unparked somebody
let_go : (g : Over) (c : Joined-freed g) → LetsGo c.given_back-right.result.0 c.key-key.result c.if-freed.right.1 c.if-freed.right.0
let_go g c =
    let before = c.given_back-right.result.0 in
    elim c.if-freed.branch [
      | then-freed w ↦ subst (λ r. LetsGo before c.key-key.result r.1 r.0) (sym w.right-is)
          (rw w.if-freed.true at c.free-right.ensures.step)
      | else-freed w ↦ subst (λ r. LetsGo before c.key-key.result r.1 r.0) (sym w.right-is)
          ((rw w.if-freed.false at c.free-right.ensures.step).1 w.unpark_asking.ensures.went.0 w.unpark_asking.result.1
          w.unpark_asking.result.0
          w.unpark_asking.ensures.went.1)
    ]

pub unpark_asking-requires-clause-may : goal.unpark_asking-requires-clause-may
unpark_asking-requires-clause-may g c κs within = (rw c.if-freed.false at c.free-right.ensures.step).0

pub at_rest-requires-clause-rest : goal.at_rest-requires-clause-rest
at_rest-requires-clause-rest g c κs within =
    let b = c.given_back-right.ensures in
    let before = c.given_back-right.result.0 in
    let went = let_go g (goal.at.at_rest-requires-clause-rest g c).Joined-freed in
    rests_free _ _ g.V.Keeps.grows_on before c.if-freed.right.0 c.key-key.result c.args.held.value c.if-freed.right.1
    b.locks b.owner b.lies b.grown went

pub at_rest-requires-clause-kept : goal.at_rest-requires-clause-kept
at_rest-requires-clause-kept g c κs within =
    let before = c.given_back-right.result.0 in
    let kept = c.given_back-right.result.1.value in
    let went = let_go g (goal.at.at_rest-requires-clause-kept g c).Joined-freed in
    subst (λ r. AreTallied g.N.LotName.locks g.N.LotName.conds r kept) (sym went.is) c.given_back-right.ensures.kept

pub returns-clause-pass : goal.returns-clause-pass
returns-clause-pass g c =
    let b = c.given_back-right.ensures in
    sees_left_at c.key-key.ensures b.same c.at_rest.ensures.pass b.lies (let_go g (goal.at.returns-clause-pass g c).Joined-freed)

pub returns-clause-made : goal.returns-clause-made
returns-clause-made g c =
    adds_left (λ t k. FreeTrace t k c.if-freed.right.1) c.key-key.ensures c.given_back-right.ensures.same c.at_rest.ensures.pass
    (let_go g (goal.at.returns-clause-made g c).Joined-freed) (λ told. told)

pub returns-clause-seen : goal.returns-clause-seen
returns-clause-seen g c =
    sees_left _ c.args.pass c.at_rest.result c.args.held.key c.args.held.value c.requires.key c.at_rest.ensures.shape
    (returns-clause-pass g c)

pub returns-clause-fits : goal.returns-clause-fits
returns-clause-fits g c = elim c.if-freed.branch [
  | then-freed w ↦ inl (ap (λ r. r.1) w.right-is)
  | else-freed w ↦ inr (
    w.unpark_asking.ensures.fits.0,
    w.unpark_asking.ensures.fits.1,
    subst (λ r. IsFitting r.1 false w.unpark_asking.ensures.fits.0.now) (sym w.right-is) w.unpark_asking.ensures.fits.2,
  )
]
