use Rattle.std.proofs.Common.{◌<◌, arith, sym}
use Rattle.lot_table.proofs.Moving.{AreMoved, moved_begins, moved_more, moved_ends, moved_lines, moved_filled_for, moved_empty, is_key}
use Rattle.lot_table.proofs.Moving.{no_key, may_root, may_has, may_free, may_room}
use Rattle.lot_table.proofs.moves.regrow.Given.{Over}
use Rattle.lot_table.proofs.moves.regrow.Goals.{Then-not-has_key, Else-not-has_key, After-loop-key}
use Rattle.lot_table.proofs.moves.regrow.Goals as goal

pub loop-key-init : goal.loop-key-init
loop-key-init g c = record {
  within = λ n may. omega arith;
  moved = moved_begins g.R.Root.view c.requires.0 c.args.old.now c.args.new.now c.requires.1;
}

below : (g : Over) (c : Else-not-has_key g) → c.loop-key.key < c.requires.0
below g c =
    is_key _ _ _ _ c.requires.1 _ _ _ c.loop-key.invariant.moved c.index-old-key.result (sym c.if-not-has_key.ensures)

-- a key was not there, so all were moved
all : (g : Over) (c : Then-not-has_key g) → AreMoved c.requires.0 c.args.old.now c.args.new.now c.loop-key.old c.loop-key.new
all g c =
    moved_ends _ _ _ _ c.requires.1 _ _ _ (c.loop-key.invariant.within c.requires.0 c.requires.1)
    (no_key _ _ _ _ c.requires.1 _ _ _ c.loop-key.invariant.moved c.index-old-key.result (sym c.if-not-has_key.ensures))
    c.loop-key.invariant.moved

pub returns-then-not-has_key-clause-lines : goal.returns-then-not-has_key-clause-lines
returns-then-not-has_key-clause-lines g c =
    moved_lines _ _ _ _ c.requires.1 _ _ (all g c)

pub returns-then-not-has_key-clause-filled : goal.returns-then-not-has_key-clause-filled
returns-then-not-has_key-clause-filled g c =
    moved_filled_for _ _ _ _ c.requires.1 _ _ (all g c)

pub returns-then-not-has_key-clause-left : goal.returns-then-not-has_key-clause-left
returns-then-not-has_key-clause-left g c =
    moved_empty _ _ _ _ c.requires.1 _ _ (all g c)

pub returns-then-not-has_key-clause-else_old : goal.returns-then-not-has_key-clause-else_old
returns-then-not-has_key-clause-else_old g c = (all g c).else_old

pub returns-then-not-has_key-clause-else_new : goal.returns-then-not-has_key-clause-else_new
returns-then-not-has_key-clause-else_new g c = (all g c).else_new

pub move_key-requires-clause-root : goal.move_key-requires-clause-root
move_key-requires-clause-root g c κs within =
    may_root _ _ _ _ c.requires.1 _ _ _ c.loop-key.invariant.moved c.index-old-key-in-loop-key.result c.index-new-key.result
    (below g (goal.at.move_key-requires-clause-root g c).Else-not-has_key)

pub move_key-requires-clause-has : goal.move_key-requires-clause-has
move_key-requires-clause-has g c κs within =
    may_has _ _ _ _ c.requires.1 _ _ _ c.loop-key.invariant.moved c.index-old-key-in-loop-key.result c.index-new-key.result
    (below g (goal.at.move_key-requires-clause-has g c).Else-not-has_key)

pub move_key-requires-clause-free : goal.move_key-requires-clause-free
move_key-requires-clause-free g c κs within =
    may_free _ _ _ _ c.requires.1 _ _ _ c.loop-key.invariant.moved c.index-old-key-in-loop-key.result c.index-new-key.result
    (below g (goal.at.move_key-requires-clause-free g c).Else-not-has_key)

pub move_key-requires-clause-room : goal.move_key-requires-clause-room
move_key-requires-clause-room g c κs within =
    may_room _ _ _ _ c.requires.1 _ _ _ c.loop-key.invariant.moved c.index-old-key-in-loop-key.result c.index-new-key.result
    (below g (goal.at.move_key-requires-clause-room g c).Else-not-has_key)

pub loop-key-preserved : goal.loop-key-preserved
loop-key-preserved g c = record {
  within = λ n may.
      let lt : c.loop-key.key < n = is_key _ _ _ _ may _ _ _
      c.loop-key.invariant.moved c.index-old-key.result (sym c.if-not-has_key.ensures) in
      omega arith;
  moved =
      moved_more _ _ _ _ c.requires.1 _ _ _ c.loop-key.invariant.moved
      c.index-old-key-in-loop-key.result c.index-new-key.result (below g (goal.at.loop-key-preserved g c).Else-not-has_key)
      c.move_key.new.from c.move_key.new.to c.move_key.ensures.left c.move_key.ensures.come;
}

-- no table has so many keys
last : (g : Over) (c : After-loop-key g) → AreMoved c.requires.0 c.args.old.now c.args.new.now c.loop-key.old c.loop-key.new
last g c =
    let le = c.loop-key.invariant.within c.requires.0 c.requires.1 in
    let few = c.requires.1.few in
    moved_ends _ _ _ _ c.requires.1 _ _ _ le (omega arith) c.loop-key.invariant.moved

pub returns-clause-lines : goal.returns-clause-lines
returns-clause-lines g c =
    moved_lines _ _ _ _ c.requires.1 _ _ (last g c)

pub returns-clause-filled : goal.returns-clause-filled
returns-clause-filled g c =
    moved_filled_for _ _ _ _ c.requires.1 _ _ (last g c)

pub returns-clause-left : goal.returns-clause-left
returns-clause-left g c =
    moved_empty _ _ _ _ c.requires.1 _ _ (last g c)

pub returns-clause-else_old : goal.returns-clause-else_old
returns-clause-else_old g c = (last g c).else_old

pub returns-clause-else_new : goal.returns-clause-else_new
returns-clause-else_new g c = (last g c).else_new
