-- The caller's rule.
use Rattle.lot_words.specs.declared.keeps.Keeps.{Ghosts}

-- Which values may lie in a lock, what a value may become, and what of it belongs to a thread: all that the members of
-- the trait `Keeps` say (src/keeps.rt), as one record. Contracts name it `V.Keeps`
abbrev pub CallersRule : Type 0 → Type 0 → Type 1
CallersRule V Part = Ghosts V Part
