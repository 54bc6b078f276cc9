-- The words at the opening.
use Rattle.std.specs.Prelude.{ℕ, zero, suc, ◌+◌, ◌*◌, List, length, replicate, slice_index, slice_set}
use Rattle.lot_rights.specs.Layout.{word_at, word_count}
use Rattle.lot_sems.specs.World.{Numbers, key_count}

-- the words, in which the first so many permits are written; the keys begin at first_sem
abbrev pub with_permits : List ℕ → ℕ → List ℕ → ℕ → List ℕ
with_permits ws first_sem permits zero = ws
with_permits ws first_sem permits (suc i) =
    slice_set (with_permits ws first_sem permits i) (word_at (first_sem + i)) (2 * slice_index permits i)

-- twice the permits of each semaphore, and 0 elsewhere
abbrev pub opening_words : Numbers → List ℕ
opening_words size = with_permits (replicate (word_count size.threads (key_count size)) 0) size.first_sem size.permits (length size.permits)
