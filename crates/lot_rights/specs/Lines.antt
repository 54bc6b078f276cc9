-- Lines of threads.
use Rattle.std.specs.Prelude.{ℕ, ◌==◌, cond, List, [], ◌∷◌}

-- the line without the first t in it
abbrev pub without : ℕ → List ℕ → List ℕ
without t [] = []
without t (u ∷ us) = cond (u == t) us (u ∷ without t us)
