use Rattle.std.proofs.Common.{rules}
use Rattle.gallery.proofs.queue.Queue.pop.Goals as goal

pub returns-clause-takes : goal.returns-clause-takes
returns-clause-takes g c =
    let (v, w, post, region, ready, made) = c.when.ensures.visits in
    (v.now, w.now, region.finds.grown, search rules, search rules, search rules, region.seen)
