-- What a `Semaphores` stands for.
use Rattle.std.specs.Prelude.{◌≡◌, ℕ, ◌-◌, ◌<◌, ◌≤◌, false, map, length}
use Rattle.lot_core.specs.declared.semaphores.Semaphores.{Semaphores as Row}
use Rattle.lot_core.specs.Model.{Semaphores}
use Rattle.lot_core.specs.Rows.{row, row_from}
use Rattle.lot_core.specs.Lines.{line_of}

-- the semaphores of the model
abbrev pub semaphores_of : Row → Semaphores
semaphores_of s =
    record {
      left = row_from 0 s.first_sem (map (λ m. m.left) s.items.items);
      parked = row_from false s.first_sem (map (λ m. m.parked) s.items.items);
      line = line_of s.lines;
      out = row_from (λ t. 0) s.first_sem (map (λ m. row 0 m.out.items) s.items.items);
    }

-- how many permits each was opened with
abbrev pub permits_of : Row → ℕ → ℕ
permits_of s = row_from 0 s.first_sem (map (λ m. m.permits) s.items.items)

-- how many there are
abbrev pub sem_count : Row → ℕ
sem_count s = length s.items.items

abbrev pub HasSemaphore : Row → ℕ → Type 0
HasSemaphore s k = (s.first_sem ≤ k) × (k - s.first_sem < sem_count s)

-- the numbers that no event changes
abbrev pub KeepsNumbers : Row → Row → Type 0
KeepsNumbers old new =
    (new.first_sem ≡ old.first_sem) × (new.threads ≡ old.threads) × (sem_count new ≡ sem_count old)
    × (permits_of new ≡ permits_of old)
