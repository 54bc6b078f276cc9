-- The lines of a kind of key: what a `Lines` stands for.
use Rattle.std.specs.Prelude.{◌≡◌, ℕ, ◌-◌, ◌<◌, ◌≤◌, List, [], map, length}
use Rattle.lot_core.specs.declared.lines.Lines.{Lines}
use Rattle.lot_core.specs.Rows.{row_from}

-- the line of each key
unfoldable pub line_of : Lines → ℕ → List ℕ
line_of s = row_from [] s.low (map (λ q. q.items) s.lines.items)

-- the number of keys
abbrev pub key_count : Lines → ℕ
key_count s = length s.lines.items

abbrev pub HasKey : Lines → ℕ → Type 0
HasKey s k = (s.low ≤ k) × (k - s.low < key_count s)

abbrev pub KeepsKeys : Lines → Lines → Type 0
KeepsKeys old new = (new.low ≡ old.low) × (key_count new ≡ key_count old)

-- nobody is in any line
abbrev pub no_lines : ℕ → List ℕ
no_lines k = []
