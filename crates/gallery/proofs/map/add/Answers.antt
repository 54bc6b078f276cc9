use Rattle.std.proofs.Common.{◌≡◌, ◌≢◌, ℕ, ◌+◌, ◌/◌, ◌%◌, ◌<◌, ◌^◌, List, [], map, get_or, rules, ap, sym, subst, arith}
use Rattle.std.specs.List.{sum}
use Rattle.lot_calls.proofs.Sums.{more_after_visit}
use Rattle.gallery.specs.Counters.{row_of}
use Rattle.gallery.proofs.Counting.{this_counter, other_counter, counter_within}
use Rattle.gallery.proofs.map.add.Goals as goal

-- the worker's number for the counter is as its pass has seen it, and within all that it added
pub with_lock-requires-clause-callable : goal.with_lock-requires-clause-callable
with_lock-requires-clause-callable g c κs within v kept finds =
    let place = c.args.counter / 64 in
    let all = counter_within c.args.counter (map (row_of c.args.pass.thread) c.args.pass.seen) in
    let at = ap (λ row. get_or row place 0) (finds.own_was []) in
    let few : get_or (row_of c.args.pass.thread v.now) place 0 + 1 < 2 ^ 64 = omega (arith, all, at, c.requires.few) in
    let here : get_or (row_of c.thread-thread.result v.now) place 0 + 1 < 2 ^ 64 =
    subst (λ t. get_or (row_of t v.now) place 0 + 1 < 2 ^ 64) (sym c.thread-thread.ensures) few in
    search rules

pub returns : goal.returns
returns g c =
    let (v, w, post, visits) = c.with_lock.ensures.visits in
    let t = c.args.pass.thread in
    let place = c.args.counter / 64 in
    let rows : List (List ℕ) = map (row_of t) c.args.pass.seen in
    let was : get_or rows (c.args.counter % 64) [] ≡ row_of t v.now = visits.own_was [] in
    let one : get_or (row_of t w.now) place 0 ≡ get_or (row_of t v.now) place 0 + 1 = search rules in
    let same : (p : ℕ) → p ≢ place → get_or (row_of t w.now) p 0 ≡ get_or (row_of t v.now) p 0 = search rules in
    record {
      back = search rules;
      added = more_after_visit _ sum _ _ _ v.now w.now 1 (2 ^ 64) visits (λ few. search rules) c.requires.few;
      one = this_counter rows _ _ _ c.args.counter visits.own_near was visits.own_is one;
      others = other_counter rows _ _ _ c.args.counter visits.own_near was visits.own_is same;
    }
