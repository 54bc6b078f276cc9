use Rattle.std.proofs.Common.{◌≡◌, sym, ap, subst, ◌∙◌}
use Rattle.std.specs.Sync.Mutex.{mutex_guard_value}
use Rattle.lot_bucket.specs.Contents.{Contents}
use Rattle.lot_bucket.specs.Settled.{Lying, IsReadyFor, HasPlaceFor}
use Rattle.lot_table.proofs.table.Table.with_place_for.Given.{Over}
use Rattle.lot_table.proofs.table.Table.with_place_for.Goals.{After-deref_mut-settled}
use Rattle.lot_table.proofs.table.Table.with_place_for.Goals as goal

-- a bucket that is the guarded one is ready, and has a place
ready : (g : Over) (c : After-deref_mut-settled g) (b : Contents g.row.R.Denot) → b ≡ c.deref_mut-settled.result.now.bucket
    → IsReadyFor g.R.Root.view c.args.key c.args.self.now.threads c.args.self.now.keys b × HasPlaceFor c.args.thread b
ready g c b same =
    let is : b ≡ (mutex_guard_value c.lock_with_place-guard.result).bucket =
    same ∙ ap (λ (l : Lying g.row.R.Denot). l.bucket) c.deref_mut-settled.ensures.value in (
      subst (λ (x : Contents g.row.R.Denot). IsReadyFor g.R.Root.view c.args.key c.args.self.now.threads c.args.self.now.keys x)
          (sym is) c.lock_with_place-guard.ensures.ready,
      subst (λ (x : Contents g.row.R.Denot). HasPlaceFor c.args.thread x) (sym is) c.lock_with_place-guard.ensures.place,
    )

pub lend-answer-requires-clause-callable : goal.lend-answer-requires-clause-callable
lend-answer-requires-clause-callable g c κs within = λ b same.
    let held = ready g c b.now same in
    c.requires.callable b held.0 held.1

pub lend-answer-requires-clause-keeps : goal.lend-answer-requires-clause-keeps
lend-answer-requires-clause-keeps g c κs within = λ b r after same said.
    let held = ready g c b.now same in
    c.requires.keeps b r after held.0 held.1 said

pub returns : goal.returns
returns g c =
    let lent = c.lend-answer.ensures in
    let held = ready g (goal.at.returns g c).After-deref_mut-settled lent.0.now lent.2 in
    (lent.0, lent.1, held.0, held.1, lent.4, c.requires.keeps lent.0 c.lend-answer.result lent.1 held.0 held.1 lent.4)
