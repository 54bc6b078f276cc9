-- How often each thread waits in a queue, counted beside it, so that nobody walks along the queue to find that a thread
-- is not there.
use Rattle.std.specs.Prelude.{◌≡◌, ℕ, ◌<◌, nat_lt, ◌&&◌, if◌then◌else◌, List, map, length, slice_index, slice_set}
use Rattle.lot_places.specs.Links.{times}
use Rattle.lot_places.specs.declared.counts.TheConstants.{TOO_MANY}

-- each thread that has a count stands so often in the list, unless that is too many to be counted
abbrev pub AreCounted : List ℕ → List ℕ → Type 0
AreCounted counts threads = (t : ℕ) → t < length counts → slice_index counts t < TOO_MANY → slice_index counts t ≡ times t threads

-- the counts with that of thread t changed, where it tells; each other count is as it was
abbrev pub with_count : (ℕ → ℕ) → ℕ → List ℕ → List ℕ
with_count change t counts =
    if nat_lt t (length counts) && nat_lt (slice_index counts t) TOO_MANY
    then slice_set counts t (change (slice_index counts t))
    else counts

-- the threads of a queue
abbrev pub threads_of : List (ℕ × ℕ) → List ℕ
threads_of queue = map (λ p. p.0) queue
