use Rattle.std.proofs.Common.{◌≡◌, ◌+◌, ◌≤◌, vec_len, vec_capacity}
use Rattle.std.specs.List.{All}
use Rattle.lot_waits.specs.Ledger.{AreZeros}
use Rattle.lot_sync.specs.Starting.{IsNewPass}
use Rattle.lot_sync.proofs.Naming.{names_of}
use Rattle.lot_sync.proofs.rooms.fill.Given as goal

abbrev pub invariant-loop-right : goal.invariant-loop-right
invariant-loop-right g l = record {
  fresh : All (IsNewPass g.V.Keeps.grows (names_of g.N.Name g.N.LotName)) l.passes.items;
  none : All (λ t. AreZeros g.N.LotName.conds t.value) l.tallies.items;
  both : vec_len l.tallies ≡ vec_len l.passes;
  count : vec_len l.passes + vec_len l.idle ≡ vec_len l.initial.passes;
  fits : vec_len l.initial.passes ≤ vec_capacity l.idle;
  room : vec_capacity l.idle ≡ vec_capacity l.initial.idle;
  passes_room : vec_capacity l.passes ≡ vec_capacity l.initial.passes;
}

abbrev pub decreases-loop-right : goal.decreases-loop-right
decreases-loop-right g l = vec_len l.passes
