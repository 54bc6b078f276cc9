-- How many buckets a table has: at least three for each thread that is about.
use Rattle.std.specs.Prelude.{◌≡◌, ℕ, ◌*◌, ◌<◌, ◌≤◌, nat_le, if◌then◌else◌}
use Rattle.lot_table.specs.declared.sizes.TheConstants.{FIRST_SIZE, FEW_KEYS}
use Rattle.lot_table.specs.declared.sizes.Grown.{Grown}
use Rattle.lot_table.specs.declared.sizes.Grown.TheVariants.{Kept, Grew}

-- the size that a table of this size has to have for so many threads
abbrev pub grown_size_of : ℕ → ℕ → ℕ
grown_size_of size threads = if nat_le (3 * threads) size then size else 6 * threads

-- the size that a table starts with: many keys have all the buckets at once that so many threads ever ask for
abbrev pub first_size_of : ℕ → ℕ → ℕ
first_size_of threads keys = if nat_le keys FEW_KEYS then FIRST_SIZE else grown_size_of FIRST_SIZE threads

-- the answer to whoever asks for a table for so many threads
abbrev pub Serves : ℕ → Grown → Type 0
Serves threads (Kept size) = 3 * threads ≤ size
Serves threads (Grew before after) = (before < 3 * threads) × (after ≡ 6 * threads)
