use Rattle.std.proofs.Common.{◌≡◌, ◌+◌, ◌≤◌, ◌++◌, reverse, vec_len, vec_capacity}
use Rattle.std.specs.List.{All, AllZip}
use Rattle.lot_words.proofs.shelf.move_each.Given as goal

abbrev pub invariant-loop-item : goal.invariant-loop-item
invariant-loop-item g l = record {
  calls : All (goal.F-pre g l.fn.turn) l.from.items;
  moved : (ys : _) → AllZip (goal.F-post g l.fn.turn) l.from.items ys
      → AllZip (goal.F-post g l.fn.turn) l.initial.from.items (ys ++ reverse l.to.items);
  count : vec_len l.from + vec_len l.to ≡ vec_len l.initial.from;
  fits : vec_len l.initial.from ≤ vec_capacity l.to;
  room : vec_capacity l.from ≡ vec_capacity l.initial.from;
  same : vec_capacity l.to ≡ vec_capacity l.initial.to;
}

abbrev pub decreases-loop-item : goal.decreases-loop-item
decreases-loop-item g l = vec_len l.from
