use Rattle.std.proofs.Common.{◌≡◌, ◌≤◌, length, map, take, string_bytes, vec_len, vec_capacity}
use Rattle.lot_command.proofs.arguments.texts_of.Given as goal

abbrev pub invariant-loop-i : goal.invariant-loop-i
invariant-loop-i l = record {
  long : vec_len l.texts ≡ l.i;
  room : length l.words ≤ vec_capacity l.texts;
  same : map (λ t. t.now) l.texts.items ≡ map string_bytes (take l.i l.words);
}
