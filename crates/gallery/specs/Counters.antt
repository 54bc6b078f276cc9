-- Counters that are sharded over locks, and what each worker adds to them: a row for each worker.
use Rattle.std.specs.Prelude.{◌≡◌, ◌≢◌, ℕ, ◌+◌, ◌/◌, ◌%◌, ◌<◌, ◌≤◌, List, [], length, map, sum, slice_index, slice_index_or}
use Rattle.std.specs.List.{sum_by}
use Rattle.lot_sync.specs.Lot.{LotView, PassView, OwnsNone, HasShape}
use Rattle.lot_calls.specs.Workers.{ComesBack}
use Rattle.gallery.specs.declared.map.Shard.{Shard}
use Rattle.gallery.specs.declared.map.TheConstants.{SHARDS, PLACES, WORKERS, COUNTERS}

-- what this worker added, by counter
abbrev pub row_of : ℕ → Shard → List ℕ
row_of thread shard = slice_index_or shard.rows thread []

-- each worker has a row, with a place for each counter
pub record HasRows (shard : Shard) : Type 0 where
  pub rows : length shard.rows ≡ WORKERS
  pub places : (t : ℕ) → t < WORKERS → length (row_of t shard) ≡ PLACES

-- what this worker added to all counters of these shards
abbrev pub added_by : ℕ → List Shard → ℕ
added_by thread shards = sum_by sum (map (row_of thread) shards)

-- what lies at a counter's place, where there is a list of numbers for each shard
abbrev pub at_counter : ℕ → List (List ℕ) → ℕ
at_counter counter rows = slice_index (slice_index_or rows (counter % SHARDS) []) (counter / SHARDS)

-- what this worker added to the counter
abbrev pub added_to : ℕ → ℕ → List Shard → ℕ
added_to counter thread shards = at_counter counter (map (row_of thread) shards)

abbrev pub rows_of : Shard → List (List ℕ)
rows_of shard = shard.rows

-- what the counter came to, from all workers
abbrev pub count_of : ℕ → List Shard → ℕ
count_of counter shards =
    sum_by (λ row. slice_index row (counter / SHARDS)) (slice_index_or (map rows_of shards) (counter % SHARDS) [])

-- each counter came to so much
abbrev pub AllCount : ℕ → List Shard → Type 0
AllCount number shards = (counter : ℕ) → counter < COUNTERS → count_of counter shards ≡ number

-- what all workers added to all
abbrev pub total_of : List Shard → ℕ
total_of shards = sum_by (λ shard. sum_by sum shard.rows) shards

-- no worker has added anything yet
abbrev pub AreNew : List Shard → Type 0
AreNew shards = (thread : ℕ) → thread < WORKERS → added_by thread shards ≡ 0

-- a pass of the lot that owns nothing, and whose worker has added nothing yet
pub record IsNew (lot : LotView) (pass : PassView Shard) : Type 0 where
  pub shards : lot.locks ≡ SHARDS
  pub is_thread : pass.thread < WORKERS
  pub free : OwnsNone pass
  pub shape : HasShape lot pass
  pub none : added_by pass.thread pass.seen ≡ 0

-- the worker came back, and has added one more to this counter, and nothing to another
pub record HasAdded (lot : LotView) (counter : ℕ) (before after : PassView Shard) : Type 0 where
  pub back : ComesBack lot before after
  pub added : added_by after.thread after.seen ≡ added_by before.thread before.seen + 1
  pub one : added_to counter after.thread after.seen ≡ added_to counter before.thread before.seen + 1
  pub others : (other : ℕ) → other ≢ counter → added_to other after.thread after.seen ≡ added_to other before.thread before.seen

-- the worker came back, and has added one more to each counter below this, and nothing from this on
pub record HasAddedBelow (lot : LotView) (count : ℕ) (before after : PassView Shard) : Type 0 where
  pub back : ComesBack lot before after
  pub added : added_by after.thread after.seen ≡ added_by before.thread before.seen + count
  pub below : (counter : ℕ) → counter < count → added_to counter after.thread after.seen ≡ added_to counter before.thread before.seen + 1
  pub beyond : (counter : ℕ) → count ≤ counter → added_to counter after.thread after.seen ≡ added_to counter before.thread before.seen
