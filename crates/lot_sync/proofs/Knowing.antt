-- What two rights know of one value, told of the passes that callers see.
use Rattle.std.proofs.Common.{◌≡◌, ℕ, subst, sym, ◌∙◌}
use mathlib.Core.Option.{some-injective}
use Rattle.lot_words.specs.CallersRule.{CallersRule}
use Rattle.lot_words.specs.Values.{SeenOk}
use Rattle.lot_whole.specs.Both.{KnowBoth as BothKnow}
use Rattle.lot_scheme.specs.Standing.{LotStanding}
use Rattle.lot_sync.specs.Passes.{pass_view_of}
use Rattle.lot_sync.specs.Values.{GoesOnFrom, KnowBoth}
use Rattle.lot_sync.proofs.Rests.{held_owned}

module _ {V Part : Type 0} (rule : CallersRule V Part) where
  goes_on_from : (key : ℕ) (p : LotStanding V) (value : V) → SeenOk rule key p.thread p.own.locks value
      → GoesOnFrom rule (pass_view_of p) key value
  goes_on_from key p value knows = record {
    grown = λ u is. subst (λ x. rule.grows x value) (some-injective knows.seen u (sym knows.seen_is ∙ is)) knows.grown;
    mine = λ other u is. subst (λ x. rule.part p.thread x ≡ rule.part p.thread value)
        (some-injective knows.seen u (sym knows.seen_is ∙ is)) (knows.mine (λ holds. other (held_owned p.own.locks.holds key holds)));
  }

  pub know_both : (key : ℕ) (p q : LotStanding V) → BothKnow rule key p.thread q.thread p.own.locks q.own.locks
      → KnowBoth rule key (pass_view_of p) (pass_view_of q)
  know_both key p q both = record {
    value = both.value;
    kept = both.kept;
    from_one = goes_on_from key p both.value both.first;
    from_other = goes_on_from key q both.value both.second;
  }
