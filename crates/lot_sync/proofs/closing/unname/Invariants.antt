use Rattle.std.proofs.Common.{◌≡◌, ◌+◌, ◌≤◌, ◌++◌, reverse, vec_len, vec_capacity}
use Rattle.std.specs.List.{All}
use Rattle.lot_rights.specs.Shown.{RootShown}
use Rattle.lot_whole.specs.declared.views.LotRootView.{LotRootView}
use Rattle.lot_sync.proofs.closing.unname.Given as goal

abbrev pub invariant-loop-root : goal.invariant-loop-root
invariant-loop-root g l = record {
  own : All (λ (r : RootShown LotRootView). r.table ≡ g.N.Name.opening.locks) l.roots.items;
  moved : l.named.items ++ reverse l.roots.items ≡ l.initial.named.items;
  count : vec_len l.named + vec_len l.roots ≡ vec_len l.initial.named;
  fits : vec_len l.initial.named ≤ vec_capacity l.roots;
}

abbrev pub decreases-loop-root : goal.decreases-loop-root
decreases-loop-root g l = vec_len l.named
