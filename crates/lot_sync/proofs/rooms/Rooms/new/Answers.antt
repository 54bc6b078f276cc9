use Rattle.std.proofs.Common.{arith, subst}
use Rattle.std.specs.List.{All}
use Rattle.lot_waits.specs.Ledger.{AreZeros}
use Rattle.lot_sync.proofs.rooms.Rooms.new.Goals as goal

pub invariant_of-result : goal.invariant_of-result
invariant_of-result g c =
    let conds = c.requires.keys.1 in record {
      empty = (c.in_ok-idle.ensures.len, c.in-Ok.ensures.len, c.in_ok-counts.ensures.len);
      for_passes = omega (arith, c.in_ok-idle.ensures.capacity);
      for_roots = (omega (arith, c.in-Ok.ensures.capacity), omega (arith, c.in_ok-counts.ensures.capacity));
      for_counts = (
        omega (arith, c.in_ok-tallies.ensures.long),
        subst (λ n. All (λ t. AreZeros n t.value) c.in_ok-tallies.tallies.items) conds c.in_ok-tallies.ensures.zeros,
      );
      zeros = subst (λ n. AreZeros n c.in_ok-sums.sums) conds c.in_ok-sums.ensures;
    }
