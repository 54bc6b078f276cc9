use Rattle.std.proofs.Common.{◌≡◌, rules, subst, arith}
use Rattle.std.proofs.lemmas.Bool.{leb-true}
use Rattle.lot_sync.specs.Lot.{HasSeen}
use Rattle.gallery.proofs.latch.Place.wait.Goals as goal

pub returns-clause-all_came : goal.returns-clause-all_came
returns-clause-all_came g c =
    let (v, w, post, region, ready, made) = c.when.ensures.visits in
    let same : w.now ≡ v.now = search rules in
    let full = leb-true v.now.size v.now.came ready in
    let all : v.now.came ≡ v.now.size = omega (arith, full, region.finds.kept) in
    (v.now, subst (HasSeen c.when.result.0 c.args.round) same region.seen, all, region.finds.grown)
