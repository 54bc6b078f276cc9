use Rattle.std.proofs.Common.{◌≡◌, ◌+◌, ◌≤◌, ◌++◌, reverse, vec_len, vec_capacity}
use Rattle.std.specs.List.{All}
use Rattle.lot_rights.specs.Shown.{RootShown}
use Rattle.lot_whole.specs.declared.views.LotRootView.{LotRootView}
use Rattle.lot_scheme.specs.Counts.{IsUnused}
use Rattle.lot_scheme.specs.Roots.{IsInItsKind}
use Rattle.lot_sync.proofs.rooms.name_roots.Given as goal

abbrev pub invariant-loop-root : goal.invariant-loop-root
invariant-loop-root g l = record {
  own : All (λ (r : RootShown LotRootView). (r.table ≡ g.N.Name.opening.locks)
      × IsInItsKind g.N.LotName.locks g.N.LotName.first_sem r.key
      r.own × IsUnused r) l.roots.items;
  moved : l.roots.items ++ reverse l.named.items ≡ l.initial.roots.items;
  count : vec_len l.roots + vec_len l.named ≡ vec_len l.initial.roots;
  fits : vec_len l.initial.roots ≤ vec_capacity l.named;
  room : vec_capacity l.roots ≡ vec_capacity l.initial.roots;
  named_room : vec_capacity l.named ≡ vec_capacity l.initial.named;
}

abbrev pub decreases-loop-root : goal.decreases-loop-root
decreases-loop-root g l = vec_len l.roots
