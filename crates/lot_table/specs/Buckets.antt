-- How keys lie in the buckets of a table: key k in bucket k mod size.
use Rattle.std.specs.Prelude.{◌≡◌, ℕ, ◌<◌, ◌≤◌, ◌%◌, ◌^◌, false, List, [], None, length, slice_get, slice_index_or}
use Rattle.std.specs.List.{sum_by}
use Rattle.lot_bucket.specs.Queue.{line_of}
use Rattle.lot_bucket.specs.Places.{root_at}
use Rattle.lot_bucket.specs.Contents.{Contents}
use Rattle.lot_bucket.specs.KeyLine.{KeyLine}
use Rattle.lot_bucket.specs.Agrees.{AgreesOpen, AgreesClosed}
use Rattle.lot_bucket.specs.Settled.{IsLaidOut, IsWhole}

-- how a row of buckets was before its lines and roots were moved, and how the row to which they came was after it
pub record Rows (R : Type 0) : Type 0 where
  pub before : List (Contents R)
  pub after : List (Contents R)

module _ {R : Type 0} where
  -- the bucket of key k; b stands for it where there are no buckets
  abbrev pub bucket_of : ℕ → List (Contents R) → Contents R → Contents R
  bucket_of k buckets b = slice_index_or buckets (k % length buckets) b

  -- how many threads wait in these buckets
  abbrev pub queued : List (Contents R) → ℕ
  queued buckets = sum_by (λ (b : Contents R). length b.queue) buckets

  -- each key has the line and the root that it had
  abbrev pub KeepsLines : List (Contents R) → List (Contents R) → Type 0
  KeepsLines before after =
      (k : ℕ) (b : Contents R)
      → (line_of k (bucket_of k after b).queue ≡ line_of k (bucket_of k before b).queue)
      × (root_at k (bucket_of k after b).places ≡ root_at k (bucket_of k before b).places)

  -- but for its lines and roots a bucket is as it was: its room, whether it is open, and when it is time to be fair
  pub record IsElseAs (before b : Contents R) : Type 0 where
    pub room : b.room ≡ before.room
    pub opened : b.opened ≡ before.opened
    pub next_fair : b.next_fair ≡ before.next_fair

  abbrev pub AreElseAs : List (Contents R) → List (Contents R) → Type 0
  AreElseAs before after = (i : ℕ) (b : Contents R) → i < length before → IsElseAs (slice_index_or before i b) (slice_index_or after i b)

  -- no bucket of a row has been fair yet: at each moment after 0 it is time to be so
  abbrev pub HaveNotBeenFair : List (Contents R) → Type 0
  HaveNotBeenFair buckets = (i : ℕ) (b : Contents R) → i < length buckets → (slice_index_or buckets i b).next_fair ≡ 0

  -- each root of a list lies in the bucket of its key
  abbrev pub AreRooted : List R → List (Contents R) → Type 0
  AreRooted roots buckets = (k : ℕ) (b : Contents R) → k < length roots → root_at k (bucket_of k buckets b).places ≡ slice_get roots k

  -- all was moved from a row of so many buckets to one of so many, of which none has been fair
  pub record IsMove (before after : ℕ) (rows : Rows R) : Type 0 where
    pub before_len : length rows.before ≡ before
    pub after_len : length rows.after ≡ after
    pub lines : KeepsLines rows.before rows.after
    pub fair : HaveNotBeenFair rows.after

  -- a new bucket of a table: closed and empty, with the keys of its number, and room for so many threads; it has not been
  -- fair
  pub record IsFresh (size number keys threads : ℕ) (b : Contents R) : Type 0 where
    pub closed : b.opened ≡ false
    pub laid_out : IsLaidOut size number keys b
    pub rootless : (k : ℕ) → root_at k b.places ≡ None
    pub empty : b.queue ≡ []
    pub room : b.room ≡ threads
    pub next_fair : b.next_fair ≡ 0

  abbrev pub AreFresh : ℕ → ℕ → List (Contents R) → Type 0
  AreFresh keys threads buckets = (i : ℕ) (b : Contents R) → i < length buckets
      → IsFresh (length buckets) i keys threads (slice_index_or buckets i b)

module _ {R : Type 0} (view : R → KeyLine) where
  -- the open buckets of a table for so many keys
  abbrev pub AreWhole : ℕ → List (Contents R) → Type 0
  AreWhole keys buckets = (i : ℕ) (b : Contents R) → i < length buckets → IsWhole view (length buckets) i keys (slice_index_or buckets i b)

  -- a bucket that has all its roots, and could be opened
  pub record IsFilled (size number keys : ℕ) (b : Contents R) : Type 0 where
    pub agrees : AgreesOpen view b
    pub laid_out : IsLaidOut size number keys b

  abbrev pub AreFilled : ℕ → List (Contents R) → Type 0
  AreFilled keys buckets = (i : ℕ) (b : Contents R) → i < length buckets → IsFilled (length buckets) i keys (slice_index_or buckets i b)

  -- nothing is in these buckets, so they could be closed
  abbrev pub AreEmpty : List (Contents R) → Type 0
  AreEmpty buckets = (i : ℕ) (b : Contents R) → i < length buckets → AgreesClosed view (slice_index_or buckets i b)

  -- from open buckets, to new ones of which each has room for all who wait
  pub record MayRegrow (keys : ℕ) (old new : List (Contents R)) : Type 0 where
    pub few : keys < 2 ^ 64
    pub some_old : 0 < length old
    pub some_new : 0 < length new
    pub whole : AreWhole keys old
    pub threads : ℕ
    pub fresh : AreFresh keys threads new
    pub room : queued old ≤ threads
