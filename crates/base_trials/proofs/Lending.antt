-- What a borrower of a bucket leaves.
use Rattle.std.proofs.Common.{◌≡◌, ◌≢◌, ℕ, Some, None, ◌∙◌, ap}
use Rattle.lot_bucket.specs.Queue.{line_of}
use Rattle.lot_bucket.specs.Places.{has_key, with_root}
use Rattle.lot_bucket.specs.Contents.{Contents}
use Rattle.lot_bucket.specs.KeyLine.{KeyLine}
use Rattle.lot_bucket.specs.Agrees.{IsRootOf}
use Rattle.lot_bucket.specs.Settled.{IsReadyFor, Stays}
use Rattle.lot_bucket.proofs.Laws.{has_key-with, agrees_again}

-- where the queue was changed in one key's line alone, and the key's root is back with that line, the bucket stays what
-- it was
pub back_stays : {R : Type 0} (view : R → KeyLine) (k threads keys : ℕ) (before after : Contents R) (back : R)
    → IsReadyFor view k threads keys before → after.places ≡ with_root k (Some back) (with_root k None before.places)
    → after.opened ≡ before.opened → after.room ≡ before.room
    → ((j : ℕ) → k ≢ j → line_of j after.queue ≡ line_of j before.queue) → IsRootOf view k after.queue back → Stays view before after
back_stays {R} view k threads keys before after back ready places opened room others fits =
    record {
      agrees = agrees_again view before after k back ready.agrees ready.is_open ready.has (opened ∙ ready.is_open) places others fits;
      is_open = opened ∙ ready.is_open;
      keys = λ j. ap (λ ps. has_key j ps) places ∙ has_key-with j k (Some back) (with_root k None before.places)
          ∙ has_key-with j k None before.places;
      room = room;
    }
