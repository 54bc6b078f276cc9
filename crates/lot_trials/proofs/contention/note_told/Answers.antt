use Rattle.std.proofs.Common.{◌≡◌, length, vec_len, rules, sym, ap, subst, ◌∙◌}
use Rattle.std.specs.List.{All}
use Rattle.lot_sync.specs.Lot.{PassView, OwnsNone}
use Rattle.lot_sync.specs.Closing.{HasOneRun}
use Rattle.lot_trials.specs.declared.counts.Count.{Count}
use Rattle.lot_trials.proofs.Counting.{alone, one_free}
use Rattle.lot_trials.proofs.Order.{told_of}
use Rattle.lot_trials.proofs.contention.note_told.Goals as goal

pub close_counted-requires-clause-free : goal.close_counted-requires-clause-free
close_counted-requires-clause-free g c κs within =
    let before = c.args.passes in
    let noted = c.note_contention-pass.result.0 in
    let none : length before.items ≡ 0 = let n : length before.items ≡ vec_len before = search rules in n ∙ c.requires.room.0 in
    subst (All OwnsNone) (sym (alone before.items c.push_reserved.new.self.items noted none c.push_reserved.ensures.items))
    (one_free c.args.pass noted c.note_contention-pass.ensures.pass c.requires.free)

pub returns : goal.returns
returns g c =
    let before = c.args.passes in
    let noted = c.note_contention-pass.result.0 in
    let none : length before.items ≡ 0 = let n : length before.items ≡ vec_len before = search rules in n ∙ c.requires.room.0 in
    let all = alone before.items c.push_reserved.new.self.items noted none c.push_reserved.ensures.items in
    let same = ap (λ (v : PassView Count). v.thread) c.note_contention-pass.ensures.pass in
    told_of _ c.args.pass noted 1 c.note_contention-pass.result.1 c.counts_follow.ensures same
    c.note_contention-pass.ensures.made
    (subst (HasOneRun _) all c.close_counted.ensures.counted.0)
