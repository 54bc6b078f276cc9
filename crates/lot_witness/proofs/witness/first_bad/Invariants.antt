use denote.Text.{Utf8}
use denote.Shadow.{shadow}
use Rattle.lot_witness.proofs.Texts.{IsSoFar}
use Rattle.lot_witness.proofs.witness.first_bad.Given as goal

abbrev pub invariant-loop-number : goal.invariant-loop-number
invariant-loop-number l = shadow (Utf8 l.rest) × IsSoFar l.lines l.rest l.number
