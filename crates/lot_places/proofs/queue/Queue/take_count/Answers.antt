use Rattle.std.proofs.Common.{◌≡◌, ◌≢◌, ℕ, ◌<◌, ◌≤◌, List, slice_index_or, length, refl, ap, ◌∙◌, arith}
use Rattle.std.proofs.lemmas.List.Edits.{length-remove}
use Rattle.lot_places.specs.Links.{Row}
use Rattle.lot_places.specs.Waiting.{Waiting, lying_at}
use Rattle.lot_places.proofs.Lines.{passed_on, room_for_one, one_taken, none_to_take, none_to_pass, beyond_one}
use Rattle.lot_places.proofs.Lying.{length_is, reads, lying_at-remove}
use Rattle.lot_places.specs.Counted.{threads_of}
use Rattle.lot_places.proofs.Counted.{threads_of-remove, threads_of-at, length-threads_of}
use Rattle.lot_places.proofs.queue.Queue.take_count.Goals.{After-index}
use Rattle.lot_places.proofs.queue.Queue.take_count.Goals as goal

-- the queue at the beginning of a turn
abbrev queue : After-index → List (ℕ × ℕ)
queue c = lying_at c.loop-taken.self-inside.pairs.items c.loop-taken.self-inside.links.used

within : (c : After-index) → c.loop-taken.cursor.passed < length (queue c)
within c = omega (arith, length_is c.loop-taken.self-inside (queue c) refl)

here : (c : After-index) → slice_index_or (queue c) c.loop-taken.cursor.passed (0, 0) ≡ c.index.result.now
here c =
    reads c.loop-taken.self-inside (queue c) refl c.loop-taken.cursor.passed c.loop-taken.invariant.size
    (omega arith) c.place.ensures.used c.place.ensures.place c.index.ensures (0, 0)

pub loop-taken-init : goal.loop-taken-init
loop-taken-init c =
    record {
      stands = c.start-cursor.ensures.stands;
      size = c.self.invariant.0;
      counted = c.self.invariant.1;
      room = ap (λ (w : Waiting). w.room) c.self.view_is;
      taking =
          rw (← c.self.view_is, c.start-cursor.ensures.first)
          (record { rest = c.args.count; all = omega arith; number = omega arith; line = refl; left = refl });
      beyond = refl;
    }

room : (c : After-index) → c.index.result.now.1 ≡ c.args.key → c.loop-taken.taken < length c.loop-taken.out
room c same =
    let key : (slice_index_or (queue c) c.loop-taken.cursor.passed (0, 0)).1 ≡ c.args.key = rw (here c) same in
    room_for_one _ _ _ _ c.loop-taken.out c.loop-taken.cursor.passed _ (0, 0) c.loop-taken-test.true
    (within c) key c.loop-taken.invariant.taking (omega (arith, c.requires))

pub bounds-out-taken : goal.bounds-out-taken
bounds-out-taken c = room (goal.at.bounds-out-taken c).After-index c.if-waits_on-key.true

pub loop-taken-preserved-then-waits_on-key : goal.loop-taken-preserved-then-waits_on-key
loop-taken-preserved-then-waits_on-key c =
    let at = (goal.at.loop-taken-preserved-then-waits_on-key c).After-index in
    let i = c.loop-taken.cursor.passed in
    let key : (slice_index_or (queue at) i (0, 0)).1 ≡ c.args.key = rw (here at) c.if-waits_on-key.true in
    let taken =
    one_taken _ _ _ (queue at) c.loop-taken.out i _ (0, 0) c.loop-taken-test.true (within at) key
    (room at c.if-waits_on-key.true) c.loop-taken.invariant.taking in
    record {
      stands = c.remove.ensures.stands;
      size = rw c.remove.ensures.left c.loop-taken.invariant.size;
      counted =
          rw (
            c.remove.ensures.left,
            lying_at-remove c.loop-taken.self-inside.pairs.items c.loop-taken.self-inside.links.used i,
            threads_of-remove (queue at) i,
          )
          (c.count_out.ensures.counted (threads_of (queue at)) i c.loop-taken.invariant.counted
          (omega (arith, within at, length-threads_of (queue at)))
          (threads_of-at (queue at) i (within at) ∙ ap (λ (p : ℕ × ℕ). p.0) (here at)));
      room = rw c.remove.ensures.left c.loop-taken.invariant.room;
      taking =
          rw (c.remove.ensures.left, lying_at-remove c.loop-taken.self-inside.pairs.items c.loop-taken.self-inside.links.used i)
          (rw (here at) at taken);
      beyond = beyond_one c.loop-taken.taken c.loop-taken.out _ _ c.loop-taken.invariant.beyond;
    }

pub loop-taken-preserved : goal.loop-taken-preserved
loop-taken-preserved c =
    let at = (goal.at.loop-taken-preserved c).After-index in
    let i = c.loop-taken.cursor.passed in
    let key : (slice_index_or (queue at) i (0, 0)).1 ≢ c.args.key = rw (here at) c.if-waits_on-key.false in
    record {
      stands = c.past-cursor.ensures.stands;
      size = c.loop-taken.invariant.size;
      counted = c.loop-taken.invariant.counted;
      room = c.loop-taken.invariant.room;
      taking =
          rw c.past-cursor.ensures.one
          (passed_on _ _ _ _ c.loop-taken.out i _ (0, 0) c.loop-taken-test.true (within at) key c.loop-taken.invariant.taking);
      beyond = c.loop-taken.invariant.beyond;
    }

pub returns-else-cursor-len : goal.returns-else-cursor-len
returns-else-cursor-len c =
    let fields = c.loop-taken.self-inside in
    let queue = lying_at fields.pairs.items fields.links.used in
    let over : length queue ≤ c.loop-taken.cursor.passed =
    omega (arith, length_is fields queue refl, c.len.ensures.count, c.if-cursor-len.false) in
    let done =
    none_to_pass c.args.key c.args.count c.args.self.now.pairs queue c.loop-taken.out c.loop-taken.cursor.passed c.loop-taken.taken over
    c.loop-taken.invariant.taking in
    record {
      taken = done.number;
      line = done.line;
      beyond = c.loop-taken.invariant.beyond;
      left = rw (c.loop-taken.invariant.room, done.left) refl;
    }

pub place-requires : goal.place-requires
place-requires c = record { stands = c.loop-taken.invariant.stands; more = rw (← c.len.ensures.count) c.if-cursor-len.true }

pub index-requires : goal.index-requires
index-requires c = rw (c.loop-taken.self-inside.pairs.ok.0, c.loop-taken.invariant.size) c.place.ensures.place

pub remove-requires : goal.remove-requires
remove-requires c = record { stands = c.loop-taken.invariant.stands; more = rw (← c.len.ensures.count) c.if-cursor-len.true }

pub past-cursor-requires : goal.past-cursor-requires
past-cursor-requires c = record { stands = c.loop-taken.invariant.stands; more = rw (← c.len.ensures.count) c.if-cursor-len.true }

pub invariant_of-self : goal.invariant_of-self
invariant_of-self c = (c.loop-taken.invariant.size, c.loop-taken.invariant.counted)

pub invariant_of-self-in-loop-taken : goal.invariant_of-self-in-loop-taken
invariant_of-self-in-loop-taken c = (c.loop-taken.invariant.size, c.loop-taken.invariant.counted)

pub returns-after-loop-taken : goal.returns-after-loop-taken
returns-after-loop-taken c =
    let fields = c.loop-taken.self-inside in
    let queue = lying_at fields.pairs.items fields.links.used in
    let done =
    none_to_take c.args.key c.args.count c.args.self.now.pairs queue c.loop-taken.out c.loop-taken.cursor.passed c.loop-taken.taken
    c.loop-taken-test.false
    c.loop-taken.invariant.taking in
    record {
      taken = done.number;
      line = done.line;
      beyond = c.loop-taken.invariant.beyond;
      left = rw (c.loop-taken.invariant.room, done.left) refl;
    }

pub loop-taken-smaller-then-waits_on-key : goal.loop-taken-smaller-then-waits_on-key
loop-taken-smaller-then-waits_on-key c =
    let more : c.loop-taken.cursor.passed < length c.loop-taken.self-inside.links.used = rw (← c.len.ensures.count) c.if-cursor-len.true in
    omega (
      arith,
      more,
      ap (λ (row : Row). length row.used) c.remove.ensures.left,
      length-remove c.loop-taken.self-inside.links.used c.loop-taken.cursor.passed more,
    )
