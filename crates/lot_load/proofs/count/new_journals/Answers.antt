use Rattle.std.proofs.Common.{◌≡◌, refl, sym, subst, ◌∙◌, ⊎_elim, slice_get, Some, arith}
use Rattle.lot_words.proofs.Emptying.{get_snoc}
use Rattle.lot_load.specs.Counters.{IsLegalCount}
use Rattle.lot_load.proofs.count.new_journals.Goals as goal

pub loop-preserved : goal.loop-preserved
loop-preserved c =
    let inv = c.loop.invariant in
    let pushed = c.push_reserved.ensures in
    record {
      long = omega (arith, pushed.len, inv.long);
      room = omega (arith, pushed.capacity, inv.room);
      legal = λ key v at. ⊎_elim (λ before. inv.legal key v before) (λ last. subst (λ j. IsLegalCount j) (sym c.new.ensures ∙ last.1) refl)
          (get_snoc c.loop.journals.items c.new.result v key (subst (λ js. slice_get js key ≡ Some v) pushed.items at));
    }

pub returns-clause-kept : goal.returns-clause-kept
returns-clause-kept c = c.loop.invariant.legal
