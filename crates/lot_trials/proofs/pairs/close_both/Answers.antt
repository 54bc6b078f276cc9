use Rattle.std.proofs.Common.{◌≡◌, length, vec_len, rules, subst, sym, ◌∙◌, arith}
use Rattle.std.specs.List.{All, Any}
use Rattle.lot_sync.specs.Lot.{PassView, OwnsNone}
use Rattle.lot_trials.proofs.Counting.{both_threads, both_free, gathered}
use Rattle.lot_trials.proofs.pairs.close_both.Goals as goal

pub close-requires-clause-all : goal.close-requires-clause-all
close-requires-clause-all g c κs within = λ t near.
    let before = c.args.passes in
    let none : length before.items ≡ 0 = let n : length before.items ≡ vec_len before = search rules in n ∙ c.requires.room.0 in
    subst (Any (λ (p : PassView _). p.thread ≡ t))
    (sym (gathered before.items c.push_reserved.new.self.items c.push_reserved-2.new.self.items c.check_apart-first.result
    c.args.first c.args.second none c.push_reserved.ensures.items c.push_reserved-2.ensures.items c.check_apart-first.ensures.same))
    (both_threads c.args.first c.args.second c.requires.threads.0 c.requires.threads.1 c.check_apart-first.ensures.threads t
    (omega (arith, near, c.requires.count)))

pub close-requires-clause-free : goal.close-requires-clause-free
close-requires-clause-free g c κs within =
    let before = c.args.passes in
    let none : length before.items ≡ 0 = let n : length before.items ≡ vec_len before = search rules in n ∙ c.requires.room.0 in
    subst (All OwnsNone)
    (sym (gathered before.items c.push_reserved.new.self.items c.push_reserved-2.new.self.items c.check_apart-first.result
    c.args.first c.args.second none c.push_reserved.ensures.items c.push_reserved-2.ensures.items c.check_apart-first.ensures.same))
    (both_free c.args.first c.args.second c.requires.free.0 c.requires.free.1)
