use Rattle.std.proofs.Common.{◌+◌, ◌-◌, List, ℕ, slice_index, slice_set, sym, subst, ap, ◌∙◌}
use Rattle.lot_waits.specs.Counts.{AreKept, called_more, wrap}
use Rattle.lot_waits.specs.declared.tallies.Tallies.{Tallies}
use Rattle.lot_waits.proofs.Counts.{kept_taken}
use Rattle.lot_waits.proofs.tallies.count_taken.Goals as goal

pub returns : goal.returns
returns c conds q among kept =
    let l = c.args.locks in
    let place = c.args.cond - l in
    let t = c.args.tallies.value in
    subst (λ (s : Tallies). AreKept l conds (called_more q c.args.cond c.args.count) c.raise.new.numbers.items s.woken.items)
    (sym c.deref_mut.ensures.value)
    (subst (λ (xs : List ℕ). AreKept l conds (called_more q c.args.cond c.args.count) xs t.woken.items)
    (sym (c.raise.ensures
    ∙ ap (λ (s : Tallies). slice_set s.called.items place (wrap (slice_index s.called.items place + c.args.count)))
    c.deref_mut.ensures.value))
    (kept_taken l conds q t.called.items t.woken.items c.args.cond c.args.count among kept))
