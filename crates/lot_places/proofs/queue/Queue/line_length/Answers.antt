use Rattle.std.proofs.Common.{◌≡◌, ◌≢◌, suc, ◌+◌, ◌<◌, slice_index_or, length, drop, arith, ap, add-one}
use Rattle.lot_places.specs.Queue.{line_of}
use Rattle.lot_places.specs.Waiting.{Waiting}
use Rattle.lot_places.proofs.Laws.{line_fits}
use Rattle.lot_places.proofs.Lines.{line_of-drop_same, line_of-drop_other}
use Rattle.lot_places.proofs.Lying.{length_is, reads}
use Rattle.lot_places.proofs.queue.Queue.line_length.Goals.{After-index, then-index-key, else-index-key}
use Rattle.lot_places.proofs.queue.Queue.line_length.Goals as goal

long : (c : After-index) → length c.args.self.now.pairs ≡ length c.self.inside.links.used
long c = length_is c.self.inside c.args.self.now.pairs (ap (λ (w : Waiting). w.pairs) c.self.view_is)

within : (c : After-index) → c.loop-cursor.cursor.passed < length c.args.self.now.pairs
within c = omega (arith, long c)

here : (c : After-index) → slice_index_or c.args.self.now.pairs c.loop-cursor.cursor.passed (0, 0) ≡ c.index.result.now
here c =
    let lying = ap (λ (w : Waiting). w.pairs) c.self.view_is in
    reads c.self.inside c.args.self.now.pairs lying c.loop-cursor.cursor.passed c.self.invariant.0
    (omega arith) c.place.ensures.used c.place.ensures.place c.index.ensures (0, 0)

one_more : (c : After-index) → c.index.result.now.1 ≡ c.args.key
    → length (line_of c.args.key (drop c.loop-cursor.cursor.passed c.args.self.now.pairs)) ≡ 1
    + length (line_of c.args.key (drop (suc c.loop-cursor.cursor.passed) c.args.self.now.pairs))
one_more c same =
    let queue = c.args.self.now.pairs in
    let i = c.loop-cursor.cursor.passed in
    let key : (slice_index_or queue i (0, 0)).1 ≡ c.args.key = rw (here c) same in
    omega (arith, ap length (line_of-drop_same c.args.key queue i (0, 0) (within c) key))

none_more : (c : After-index) → c.index.result.now.1 ≢ c.args.key
    → length (line_of c.args.key (drop c.loop-cursor.cursor.passed c.args.self.now.pairs))
    ≡ length (line_of c.args.key (drop (suc c.loop-cursor.cursor.passed) c.args.self.now.pairs))
none_more c other =
    let queue = c.args.self.now.pairs in
    let i = c.loop-cursor.cursor.passed in
    let key : (slice_index_or queue i (0, 0)).1 ≢ c.args.key = rw (here c) other in
    ap length (line_of-drop_other c.args.key queue i (0, 0) (within c) key)

pub overflow_add-count : goal.overflow_add-count
overflow_add-count c =
    let at = (goal.at.overflow_add-count c).After-index in
    omega (arith, long at, one_more at c.if-index-key.true, c.loop-cursor.invariant.1, line_fits c.args.key c.args.self.now.pairs)

pub loop-cursor-preserved : goal.loop-cursor-preserved
loop-cursor-preserved c =
    let at = (goal.at.loop-cursor-preserved c).After-index in (
      c.past-cursor.ensures.stands,
      rw (c.past-cursor.ensures.one, add-one)
          (elim c.if-index-key.branch [
            | then-index-key w ↦ rw w.count-is (omega (arith, one_more at w.if-index-key.true, c.loop-cursor.invariant.1))
            | else-index-key w ↦ rw w.count-is (omega (arith, none_more at w.if-index-key.false, c.loop-cursor.invariant.1))
          ]),
    )
