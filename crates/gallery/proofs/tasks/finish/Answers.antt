use Rattle.std.proofs.Common.{rules}
use Rattle.gallery.proofs.tasks.finish.Goals as goal

pub returns-clause-finishes : goal.returns-clause-finishes
returns-clause-finishes g c =
    let (v, w, post, region, made) = c.change.ensures.visits in (v.now, w.now, region.seen, region.finds.own_was 0, search rules)
