use Rattle.std.proofs.Common.{◌≡◌, ◌<◌, ◌++◌, [], ◌∷◌, length, set, refl, arith}
use Rattle.std.proofs.lemmas.List.{length-set}
use Rattle.lot_places.specs.Waiting.{lying_at}
use Rattle.lot_places.proofs.Lying.{lying_at-push}
use Rattle.lot_places.proofs.Counted.{threads_of-push}
use Rattle.lot_places.proofs.queue.Queue.push.Goals.{After-append-place}
use Rattle.lot_places.proofs.queue.Queue.push.Goals as goal

-- who waits then
pushed : (c : After-append-place) → lying_at (set c.self.inside.pairs.items c.append-place.result (c.args.thread, c.args.key))
    (c.self.inside.links.used ++ c.append-place.result ∷ []) ≡ lying_at c.self.inside.pairs.items c.self.inside.links.used
    ++ (c.args.thread, c.args.key) ∷ []
pushed c =
    let within : c.append-place.result < length c.self.inside.pairs.items =
    omega (arith, c.self.invariant.0, c.append-place.ensures.place) in
    lying_at-push c.self.inside.pairs.items c.append-place.result (c.args.thread, c.args.key) c.self.inside.links.used within
    c.append-place.ensures.unused

pub returns : goal.returns
returns c =
    let at = (goal.at.returns c).After-append-place in
    rw (← c.self.view_is, c.append-place.ensures.used, c.append-place.ensures.room, pushed at) refl

pub invariant_of-self : goal.invariant_of-self
invariant_of-self c =
    let at = (goal.at.invariant_of-self c).After-append-place in
    let queue = lying_at c.self.inside.pairs.items c.self.inside.links.used in (
      rw (length-set c.self.inside.pairs.items c.append-place.result (c.args.thread, c.args.key), c.append-place.ensures.room)
          c.self.invariant.0,
      rw (c.append-place.ensures.used, pushed at, threads_of-push queue (c.args.thread, c.args.key))
          (c.count_in.ensures.counted _ c.self.invariant.1),
    )
