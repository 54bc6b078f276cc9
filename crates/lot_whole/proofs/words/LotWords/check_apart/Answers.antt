use Rattle.std.proofs.Common.{ℕ, ◌+◌, ◌<◌, ◌≤◌, slice_index_or, subst}
use Rattle.lot_whole.specs.Both.{KnowBoth}
use Rattle.lot_whole.specs.Closing.{permits_of}
use Rattle.lot_whole.specs.Rule.{size_of}
use Rattle.lot_whole.specs.Shown.{LotWordsShown}
use Rattle.lot_whole.proofs.Twos.{apart}
use Rattle.lot_whole.proofs.words.LotWords.check_apart.Goals as goal

pub check_two-requires-clause-tells : goal.check_two-requires-clause-tells
check_two-requires-clause-tells g c =
    let start = c.self.inside.words.key in
    apart g.V.Keeps (size_of start) start.values.value.items c.args.first c.args.second

pub returns-clause-locks : goal.returns-clause-locks
returns-clause-locks g c = c.check_two.ensures.apart.1.0

pub returns-clause-permits : goal.returns-clause-permits
returns-clause-permits g c =
    let p = c.args.first in
    let q = c.args.second in
    subst (λ (z : LotWordsShown g.row.V.Denot). (k : ℕ)
    → slice_index_or p.own.sems.out k 0 + slice_index_or q.own.sems.out k 0 ≤ permits_of z.size k) c.self.view_is
    c.check_two.ensures.apart.1.1

pub returns-clause-values : goal.returns-clause-values
returns-clause-values g c =
    let p = c.args.first in
    let q = c.args.second in
    subst (λ (z : LotWordsShown g.row.V.Denot). (l : ℕ) → l < z.size.locks → KnowBoth g.V.Keeps l p.thread q.thread p.own.locks q.own.locks)
    c.self.view_is c.check_two.ensures.apart.1.2
