-- Levels rise along a chain of waiting, so it never comes back.
use Rattle.std.proofs.Common.{◌≡◌, ◌<◌, ℕ, List, [], ◌∷◌, subst, arith, inl, inr}
use Rattle.lot_events.specs.declared.events.Point.{Point}
use Rattle.lot_events.specs.declared.events.Point.TheVariants.{Wants, Rest, Seeks}
use Rattle.lot_core.specs.Model.{StateView}
use Rattle.lot_order.specs.Order.{AllBelow, held_by, InOrder, key_count, IsOrdered, Rises}
use Rattle.lot_order.specs.Waiting.{Has, Needs, Leads}

-- what is in order at the point where the thread stands
pub ordered_at : (above : ℕ → ℕ → Type 0) (s : StateView) (t : ℕ) (p : Point) → IsOrdered above s → s.point t ≡ p
    → InOrder above (key_count s) (held_by s t) p
ordered_at above s t p ordered at = subst (λ q. InOrder above (key_count s) (held_by s t) q) at (ordered t)

-- who needs a key has only keys below it, and it is a key of the lot
pub needed : (above : ℕ → ℕ → Type 0) (s : StateView) (t k : ℕ) → IsOrdered above s → Needs s t k
    → (k < key_count s) × AllBelow above (held_by s t) k
needed above s t k ordered (inl wants) = ordered_at above s t (Wants k) ordered wants
needed above s t k ordered (inr (inl seeks)) = ordered_at above s t (Seeks k) ordered seeks
needed above s t k ordered (inr (inr rests)) =
    let o = ordered_at above s t (Rest rests.0 k) ordered rests.1 in (o.0, o.1)

module _ (above : ℕ → ℕ → Type 0) (level : ℕ → ℕ) (rises : Rises above level) (s : StateView) (ordered : IsOrdered above s) where
  -- what one thread has and another key that it needs
  below : (t k j : ℕ) → Needs s t k → Has s t j → level j < level k
  below t k j needs has = rises j k ((needed above s t k ordered needs).1 j has)

  -- whoever a chain leads to has a key above each that its first has
  climbs : (t : ℕ) (others : List ℕ) (u j : ℕ) → Leads s t others u → Has s t j → (k : ℕ) × Has s u k × (level j < level k)
  climbs t [] u j (k, needs, has) has_j = (k, has, below t k j needs has_j)
  climbs t (v ∷ others) u j ((k, needs, has), leads) has_j =
      let further = climbs v others u k leads has in
      let first = below t k j needs has_j in
      (further.0, further.1, omega (arith, first, further.2))

  pub no_circle : (t : ℕ) (others : List ℕ) → Leads s t others t → ⊥
  no_circle t [] (k, needs, has) = let itself = below t k k needs has in omega (arith, itself)
  no_circle t (v ∷ others) ((k, needs, has), leads) =
      let further = climbs v others t k leads has in
      let last = below t k further.0 needs further.1 in
      omega (arith, last, further.2)
