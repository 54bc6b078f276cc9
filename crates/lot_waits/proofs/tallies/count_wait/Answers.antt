use Rattle.std.proofs.Common.{◌+◌, ◌-◌, List, ℕ, slice_index, slice_set, sym, subst, ap, ◌∙◌}
use Rattle.lot_waits.specs.Counts.{AreKept, one_wait_more, wrap}
use Rattle.lot_waits.specs.declared.tallies.Tallies.{Tallies}
use Rattle.lot_waits.proofs.Counts.{kept_woken}
use Rattle.lot_waits.proofs.tallies.count_wait.Goals as goal

pub returns : goal.returns
returns c conds q among kept =
    let l = c.args.locks in
    let place = c.args.cond - l in
    let t = c.args.tallies.value in
    subst (λ (s : Tallies). AreKept l conds (one_wait_more q c.args.cond) s.called.items c.raise.new.numbers.items)
    (sym c.deref_mut.ensures.value)
    (subst (λ (xs : List ℕ). AreKept l conds (one_wait_more q c.args.cond) t.called.items xs)
    (sym (c.raise.ensures
    ∙ ap (λ (s : Tallies). slice_set s.woken.items place (wrap (slice_index s.woken.items place + 1))) c.deref_mut.ensures.value))
    (kept_woken l conds q t.called.items t.woken.items c.args.cond among kept))
