use Rattle.std.proofs.Common.{sym}
use Rattle.lot_places.proofs.Ways.{length-way_from}
use Rattle.lot_places.proofs.links.Links.len.Goals as goal

pub returns-clause-count : goal.returns-clause-count
returns-clause-count c = rw (← c.self.view_is) (sym (length-way_from c.self.inside.next.items c.self.inside.len _))
