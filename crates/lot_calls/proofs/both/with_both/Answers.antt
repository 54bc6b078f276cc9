use Rattle.std.proofs.Common.{rules, sym}
use Rattle.lot_calls.proofs.Nesting.{both_turned_at}
use Rattle.lot_calls.proofs.both.with_both.Goals as goal

pub returns-else-first-second-clause-visits : goal.returns-else-first-second-clause-visits
returns-else-first-second-clause-visits g c =
    let (b, a, b', a', (v, w, x, y, is_v, is_w, is_x, is_y, post), both) = c.with_two-else-first-second.ensures.visits in (
      v,
      w,
      x,
      y,
      post,
      both_turned_at g.V.Keeps c.args.pass c.with_two-else-first-second.result.0 c.args.second c.args.first b.now a.now b'.now a'.now
          w.now v.now y.now x.now
          (λ e. c.requires.keys.2 (sym e)) both is_v is_w is_x is_y,
    )

pub with_two-requires-clause-callable : goal.with_two-requires-clause-callable
with_two-requires-clause-callable g c κs within = search rules

pub with_two-requires-clause-keeps : goal.with_two-requires-clause-keeps
with_two-requires-clause-keeps g c κs within = search rules

pub returns-then-first-second-clause-visits : goal.returns-then-first-second-clause-visits
returns-then-first-second-clause-visits g c = search rules

pub returns-then-first-second-clause-made : goal.returns-then-first-second-clause-made
returns-then-first-second-clause-made g c = search rules
