use Rattle.std.proofs.Common.{rules}
use Rattle.gallery.proofs.queue.Queue.push.Goals as goal

pub returns-clause-puts : goal.returns-clause-puts
returns-clause-puts g c =
    let (v, w, post, region, ready, made) = c.when.ensures.visits in
    (v.now, w.now, search rules, search rules, search rules, region.seen)
