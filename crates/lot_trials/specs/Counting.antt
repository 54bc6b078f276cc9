-- What a pass has counted of a condition when a call or a trial of it ends.
use Rattle.std.specs.Prelude.{◌≡◌, ℕ, slice_index}
use Rattle.lot_sync.specs.Lot.{LotView, PassView, OwnsNone, HasShape, counts_of}

module _ {V : Type 0} where
  -- it has taken nobody from the condition's line, and no wait of its own on it has ended
  abbrev pub HasCountedNone : ℕ → PassView V → Type 0
  HasCountedNone c p = (slice_index p.called c ≡ 0) × (slice_index p.woken c ≡ 0)

  -- a pass of the lot that owns no lock and holds no permit, is of the thread and has counted what the wanted one has
  pub record EndsAs (lot : LotView) (wanted after : PassView V) : Type 0 where
    pub counts : counts_of after ≡ counts_of wanted
    pub free : OwnsNone after
    pub shape : HasShape lot after
