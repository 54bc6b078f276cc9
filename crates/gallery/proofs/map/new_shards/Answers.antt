use Rattle.std.proofs.Common.{◌≡◌, [], rules, replicate, ap, ◌∙◌}
use Rattle.std.specs.List.{sum}
use Rattle.std.proofs.lemmas.List.{get_or-replicate}
use Rattle.lot_calls.proofs.Sums.{sum_of_none}
use Rattle.gallery.specs.Counters.{row_of, added_by}
use Rattle.gallery.proofs.map.new_shards.Goals as goal

pub returns-clause-new : goal.returns-clause-new
returns-clause-new c thread near =
    let all : c.in_ok-shards.shards.items ≡ replicate c.args.count (record { rows = replicate 4 (replicate 16 0) }) = search rules in
    ap (added_by thread) all ∙ sum_of_none (row_of thread) sum c.args.count _ (ap sum (get_or-replicate 4 thread (replicate 16 0) [] near))
