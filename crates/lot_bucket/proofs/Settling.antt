-- What the tests under a bucket's lock tell.
use Rattle.std.proofs.Common.{◌≡◌, ℕ, ◌%◌, ◌<◌, true, ◌∙◌, eq-eqb, ◌&&◌, refl}
use Rattle.std.proofs.lemmas.Bool.{lt-ltb}
use Rattle.std.specs.Prelude.{◌==◌, nat_lt}
use Rattle.lot_bucket.specs.Places.{has_key}
use Rattle.lot_bucket.specs.KeyLine.{KeyLine}
use Rattle.lot_bucket.specs.Settled.{Lying, IsSettled, IsReadyFor}

pub ready : {R : Type 0} (view : R → KeyLine) (k threads keys : ℕ) (lying : Lying R) → IsSettled view lying
    → lying.bucket.opened ≡ true → lying.number ≡ k % lying.size → lying.keys ≡ keys → k < keys → lying.bucket.room ≡ threads
    → IsReadyFor view k threads keys lying.bucket
ready view k threads keys lying settled opened number all among room =
    let laid : (j : ℕ) → has_key j lying.bucket.places ≡ (j % lying.size == k % lying.size && nat_lt j keys) =
    λ j. rw (← number, ← all) (settled.laid_out opened j) in
    record {
      agrees = settled.agrees;
      is_open = opened;
      size = lying.size;
      laid_out = laid;
      has = laid k ∙ rw (eq-eqb (k % lying.size) (k % lying.size) refl, lt-ltb k keys among) refl;
      room = room;
    }
