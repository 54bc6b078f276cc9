use Rattle.std.proofs.Common.{◌≡◌, ◌+◌, ◌≤◌, ◌++◌, map, reverse, vec_len, vec_capacity}
use Rattle.std.specs.List.{All}
use Rattle.lot_waits.specs.Counts.{counts_shown}
use Rattle.lot_waits.specs.Ledger.{AreBothSums}
use Rattle.lot_sync.specs.Lot.{OwnsNone}
use Rattle.lot_sync.specs.Passes.{pass_view_shown, IsFree}
use Rattle.lot_sync.proofs.closing.gather.Given as goal

abbrev pub invariant-loop-pass : goal.invariant-loop-pass
invariant-loop-pass g l = record {
  free : All OwnsNone l.passes.items;
  moved : l.passes.items ++ reverse (map pass_view_shown l.rights.items) ≡ l.initial.passes.items;
  taken : All (IsFree g.N.Name.opening.locks) l.rights.items;
  tallied : AreBothSums g.N.LotName.locks g.N.LotName.conds (map counts_shown l.rights.items) l.sums;
  count : vec_len l.passes + vec_len l.rights ≡ vec_len l.initial.passes;
  fits : vec_len l.initial.passes ≤ vec_capacity l.rights;
}

abbrev pub decreases-loop-pass : goal.decreases-loop-pass
decreases-loop-pass g l = vec_len l.passes
