use Rattle.std.proofs.Common.{rules}
use Rattle.gallery.proofs.tasks.take.Goals as goal

pub returns-clause-takes : goal.returns-clause-takes
returns-clause-takes g c = let (v, w, post, region, made) = c.change.ensures.visits in (v.now, w.now, region.seen, search rules)
