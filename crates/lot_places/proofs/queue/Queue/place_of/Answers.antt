use Rattle.std.proofs.Common.{◌≡◌, ◌≢◌, ℕ, ◌<◌, ◌≤◌, slice_index_or, length, take_all, arith, refl, ap}
use Rattle.std.specs.List.{All}
use Rattle.std.proofs.lemmas.List.Elements.{All-more}
use Rattle.lot_places.specs.Waiting.{Waiting}
use Rattle.lot_places.proofs.Lying.{length_is, reads}
use Rattle.lot_places.proofs.queue.Queue.place_of.Goals.{After-index}
use Rattle.lot_places.proofs.queue.Queue.place_of.Goals as goal

within : (c : After-index) → c.loop-cursor.cursor.passed < length c.args.self.now.pairs
within c = omega (arith, length_is c.self.inside c.args.self.now.pairs (ap (λ (w : Waiting). w.pairs) c.self.view_is))

here : (c : After-index) (d : ℕ × ℕ) → slice_index_or c.args.self.now.pairs c.loop-cursor.cursor.passed d ≡ c.index.result.now
here c d =
    let lying = ap (λ (w : Waiting). w.pairs) c.self.view_is in
    reads c.self.inside c.args.self.now.pairs lying c.loop-cursor.cursor.passed c.self.invariant.0
    (omega arith) c.place-place.ensures.used c.place-place.ensures.place c.index.ensures d

pub returns-then-index-thread-clause-waits : goal.returns-then-index-thread-clause-waits
returns-then-index-thread-clause-waits c =
    let at = (goal.at.returns-then-index-thread-clause-waits c).After-index in
    (λ _. (c.loop-cursor.cursor.passed, c.index.result.now, within at, here at c.index.result.now, c.if-index-thread.true), λ _. refl)

pub loop-cursor-preserved : goal.loop-cursor-preserved
loop-cursor-preserved c =
    let at = (goal.at.loop-cursor-preserved c).After-index in
    let i = c.loop-cursor.cursor.passed in
    let other : (slice_index_or c.args.self.now.pairs i (0, 0)).0 ≢ c.args.thread = rw (here at (0, 0)) c.if-index-thread.false in (
      c.past-cursor.ensures.stands,
      rw c.past-cursor.ensures.one
          (All-more (λ (p : ℕ × ℕ). p.0 ≢ c.args.thread) c.args.self.now.pairs i (0, 0) (within at) c.loop-cursor.invariant.1 other),
    )

pub returns-clause-waits : goal.returns-clause-waits
returns-clause-waits c =
    let queue = c.args.self.now.pairs in
    let past : length queue ≤ c.loop-cursor.cursor.passed =
    omega (arith, length_is c.self.inside queue (ap (λ (w : Waiting). w.pairs) c.self.view_is)) in
    let none : All (λ (p : ℕ × ℕ). p.0 ≢ c.args.thread) queue =
    rw (take_all c.loop-cursor.cursor.passed queue past) at c.loop-cursor.invariant.1 in
    (λ e. cc, λ any. absurd (rw any.3 at (none any.0 any.1 any.2) any.4))
