use Rattle.std.specs.Prelude.{◌≡◌, ℕ, ◌<◌, ◌%◌, ◌==◌, nat_lt, ◌&&◌, true, length, Any}
use Rattle.lot_bucket.specs.Places.{has_key}
use Rattle.lot_bucket.specs.Contents.{Contents}
use Rattle.lot_bucket.specs.KeyLine.{KeyLine}
use Rattle.lot_bucket.specs.Agrees.{AgreesOpen, Agrees}

-- what lies behind the lock of a bucket: the bucket, its number, how many buckets its table has, and
-- how many keys there are in all
pub record Lying (R : Type 0) : Type 0 where
  pub bucket : Contents R
  pub number : ℕ
  pub size : ℕ
  pub keys : ℕ

-- the bucket has the keys below keys that leave number when they are divided by size
abbrev pub IsLaidOut : {R : Type 0} → ℕ → ℕ → ℕ → Contents R → Type 0
IsLaidOut size number keys b = (k : ℕ) → has_key k b.places ≡ (k % size == number && nat_lt k keys)

-- the thread does not wait here, and could
pub record HasPlaceFor {R : Type 0} (t : ℕ) (b : Contents R) : Type 0 where
  pub absent : Any (λ (p : ℕ × ℕ). p.0 ≡ t) b.queue → ⊥
  pub room : length b.queue < b.room

module _ {R : Type 0} (view : R → KeyLine) where
  -- what holds behind the lock whenever it is free
  pub record IsSettled (lying : Lying R) : Type 0 where
    pub agrees : Agrees view lying.bucket
    pub laid_out : lying.bucket.opened ≡ true → IsLaidOut lying.size lying.number lying.keys lying.bucket

  -- an open bucket that agrees and has just the keys of its number
  pub record IsWhole (size number keys : ℕ) (b : Contents R) : Type 0 where
    pub is_open : b.opened ≡ true
    pub agrees : AgreesOpen view b
    pub laid_out : IsLaidOut size number keys b

  -- the open bucket of key k, among so many keys, with room for just all threads
  pub record IsReadyFor (k threads keys : ℕ) (b : Contents R) : Type 0 where
    pub agrees : Agrees view b
    pub is_open : b.opened ≡ true
    pub size : ℕ
    pub laid_out : IsLaidOut size (k % size) keys b
    pub has : has_key k b.places ≡ true
    pub room : b.room ≡ threads

  -- what a borrower of a bucket leaves: it agrees, is open, and has the same keys and room
  pub record Stays (before after : Contents R) : Type 0 where
    pub agrees : Agrees view after
    pub is_open : after.opened ≡ true
    pub keys : (k : ℕ) → has_key k after.places ≡ has_key k before.places
    pub room : after.room ≡ before.room
