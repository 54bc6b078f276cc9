use Rattle.std.proofs.Common.{ℕ, Option, List, ap, ◌∙◌}
use Rattle.lot_places.specs.Places.{keys_of, root_at}
use Rattle.lot_places.proofs.Slots.{bare, bare_last}
use Rattle.lot_places.proofs.places.Places.discard.Goals as goal

pub loop-root-init : goal.loop-root-init
loop-root-init g c =
    bare (keys_of c.self.inside.keys) c.self.inside.slots.items c.self.invariant.0 c.self.invariant.1
    (λ k. ap (λ (ps : List (ℕ × Option g.row.R.Denot)). root_at k ps) c.self.view_is ∙ c.requires k)

pub loop-root-preserved : goal.loop-root-preserved
loop-root-preserved g c = (bare_last c.pop.new.self.items c.in-Some.root (rw c.in-Some.ensures.items at c.loop-root.invariant)).0

pub unreachable-requires : goal.unreachable-requires
unreachable-requires g c =
    c.in_default-root.not-None (bare_last c.pop.new.self.items c.in-Some.root (rw c.in-Some.ensures.items at c.loop-root.invariant)).1
