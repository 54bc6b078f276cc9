use Rattle.std.specs.Prelude.{◌≡◌, ℕ, true, false, List, [], Some, None}
use Rattle.lot_bucket.specs.Queue.{line_of}
use Rattle.lot_bucket.specs.Places.{has_key, root_at}
use Rattle.lot_bucket.specs.Contents.{Contents}
use Rattle.lot_bucket.specs.KeyLine.{KeyLine}

-- a closed bucket in which nothing is left, so that it may be discarded
pub record IsSpent {R : Type 0} (b : Contents R) : Type 0 where
  pub closed : b.opened ≡ false
  pub empty : b.queue ≡ []
  pub rootless : (k : ℕ) → root_at k b.places ≡ None

module _ {R : Type 0} (view : R → KeyLine) where
  -- the root of key k, whose line is what the queue has of that key, and which owes nothing
  pub record IsRootOf (k : ℕ) (queue : List (ℕ × ℕ)) (root : R) : Type 0 where
    pub named : (view root).key ≡ k
    pub same_line : (view root).line ≡ line_of k queue
    pub paid : (view root).owes ≡ []

  -- an open bucket has the roots of exactly its keys, and only its keys wait
  pub record AgreesOpen (b : Contents R) : Type 0 where
    pub roots : (k : ℕ) → has_key k b.places ≡ true → (root : R) × (root_at k b.places ≡ Some root) × IsRootOf k b.queue root
    pub pairs : (k : ℕ) → has_key k b.places ≡ false → line_of k b.queue ≡ []

  -- a closed bucket has neither roots nor pairs
  pub record AgreesClosed (b : Contents R) : Type 0 where
    pub rootless : (k : ℕ) → root_at k b.places ≡ None
    pub empty : b.queue ≡ []

  -- what holds of a bucket whenever its lock is free
  pub record Agrees (b : Contents R) : Type 0 where
    pub open_agrees : b.opened ≡ true → AgreesOpen b
    pub closed_agrees : b.opened ≡ false → AgreesClosed b
