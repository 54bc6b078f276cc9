use Rattle.std.proofs.Common.{◌++◌, [], ◌∷◌, sym, subst}
use Rattle.lot_waits.specs.Counts.{CountsView, AreKept, counts_in}
use Rattle.lot_waits.specs.Ledger.{AreBothSums}
use Rattle.lot_waits.specs.declared.tallies.Tallies.{Tallies}
use Rattle.base_trials.proofs.kinds.waiters.added.Goals as goal

pub returns-clause-sums : goal.returns-clause-sums
returns-clause-sums g c = λ waiters tallied.
    let locks = g.N.LotName.locks in
    let conds = g.N.LotName.conds in
    let counts : CountsView = counts_in c.waiter.inside.pass in
    let kept = subst (λ (t : Tallies). AreKept locks conds counts t.called.items t.woken.items) (sym c.deref.ensures)
    c.waiter.invariant.1 in
    subst (λ (q : CountsView). AreBothSums locks conds (waiters ++ q ∷ []) c.add_up.new.sums) c.waiter.view_is
    (c.add_up.ensures locks conds waiters counts tallied kept)
