use Rattle.std.proofs.Common.{◌≡◌, refl, sym, subst, rules}
use Rattle.std.specs.List.{All}
use Rattle.std.proofs.lemmas.List.Elements.{All-push}
use Rattle.base_trials.specs.declared.rights.tally.Tally.{Tally}
use Rattle.base_trials.proofs.kinds.tables.tallies.Goals as goal

pub loop-preserved : goal.loop-preserved
loop-preserved c = record {
  len = search rules;
  zero = subst (All (λ (x : Tally). x.total ≡ 0)) (sym c.in_ok-push.ensures.items)
      (All-push (λ (x : Tally). x.total ≡ 0) _ _ c.loop.invariant.zero refl);
}
