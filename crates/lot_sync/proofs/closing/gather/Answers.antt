use Rattle.std.proofs.Common.{◌≡◌, ◌++◌, ◌∷◌, [], List, length, map, sym, ap, ◌∙◌, subst, reverse, vec_len, rules, arith}
use Rattle.std.proofs.lemmas.List.{map-append}
use Rattle.std.specs.List.{All}
use Rattle.std.proofs.lemmas.List.Elements.{All-push}
use Rattle.lot_rights.proofs.Gathers.{all_popped}
use Rattle.lot_rights.proofs.Turns.{moves_on, map_turned, no_elements}
use Rattle.lot_waits.specs.Counts.{CountsView, AreKept, counts_in, counts_shown}
use Rattle.lot_waits.specs.Ledger.{AreBothSums}
use Rattle.lot_waits.specs.declared.tallies.Tallies.{Tallies}
use Rattle.lot_waits.proofs.Sums.{tallied_turned}
use Rattle.lot_sync.specs.Lot.{OwnsNone}
use Rattle.lot_sync.specs.Passes.{pass_view_of, pass_view_shown, IsFree}
use Rattle.lot_sync.proofs.Closes.{free_of}
use Rattle.lot_sync.proofs.closing.gather.Goals as goal

pub loop-pass-preserved : goal.loop-pass-preserved
loop-pass-preserved g c =
    let inv = c.loop-pass.invariant in
    let left = c.pop.new.self.items in
    let right = c.into_pass.result in
    let stood = c.apart-right.result.0 in
    let same : c.in-Some.pass ≡ pass_view_shown right = c.apart-right.ensures.same ∙ ap pass_view_of c.into_pass.ensures.same in
    let parts = all_popped OwnsNone c.loop-pass.passes.items left c.in-Some.pass c.in-Some.ensures.items inv.free in
    let kept = subst (λ (t : Tallies). AreKept g.N.LotName.locks g.N.LotName.conds (counts_in stood) t.called.items t.woken.items)
    (sym c.deref.ensures) c.apart-right.ensures.kept in
    let before : List CountsView = map counts_shown c.loop-pass.rights.items in
    let counted : map counts_shown c.push_reserved.new.self.items ≡ before ++ counts_in stood ∷ [] =
    ap (map counts_shown) c.push_reserved.ensures.items
    ∙ (map-append counts_shown c.loop-pass.rights.items (right ∷ [])
    ∙ ap (λ q. before ++ q ∷ []) (ap counts_in (sym c.into_pass.ensures.same))) in
    record {
      free = parts.0;
      moved = ap (λ ps. left ++ reverse ps) (ap (map pass_view_shown) c.push_reserved.ensures.items
          ∙ (map-append pass_view_shown c.loop-pass.rights.items (right ∷ [])
          ∙ ap (λ p. map pass_view_shown c.loop-pass.rights.items ++ p ∷ [])
          (sym same)))
          ∙ moves_on c.loop-pass.passes.items left c.in-Some.pass
          (map pass_view_shown c.loop-pass.rights.items) c.args.passes.items c.in-Some.ensures.items inv.moved;
      taken = subst (All (IsFree g.N.Name.opening.locks)) (sym c.push_reserved.ensures.items)
          (All-push (IsFree g.N.Name.opening.locks) c.loop-pass.rights.items right inv.taken
          (free_of _ _ g.N.Name.opening.locks c.in-Some.pass stood right c.apart-right.ensures.same c.into_pass.ensures.same
          c.into_pass.ensures.named c.apart-right.ensures.rest parts.1));
      tallied = subst (λ qs. AreBothSums g.N.LotName.locks g.N.LotName.conds qs c.add_up.new.sums) (sym counted)
          (c.add_up.ensures g.N.LotName.locks g.N.LotName.conds before (counts_in stood) inv.tallied kept);
      count = omega (arith, c.in-Some.ensures.len, c.push_reserved.ensures.len, inv.count);
      fits = omega (arith, c.push_reserved.ensures.capacity, inv.fits);
    }

pub returns-clause-same : goal.returns-clause-same
returns-clause-same g c =
    let none : c.loop-pass.passes.items ≡ [] = no_elements c.loop-pass.passes.items
    (let n : length c.loop-pass.passes.items ≡ vec_len c.loop-pass.passes = search rules in n ∙ c.in_default.ensures.cases.0) in
    ap (map pass_view_shown) c.reverse.ensures.items
    ∙ (map_turned pass_view_shown c.loop-pass.rights.items ∙ subst (λ ps. ps ++ reverse
    (map pass_view_shown c.loop-pass.rights.items) ≡ c.args.passes.items) none c.loop-pass.invariant.moved)

pub returns-clause-tallied : goal.returns-clause-tallied
returns-clause-tallied g c =
    let turned : map counts_shown c.reverse.new.self.items ≡ reverse (map counts_shown c.loop-pass.rights.items) =
    ap (map counts_shown) c.reverse.ensures.items ∙ map_turned counts_shown c.loop-pass.rights.items in
    subst (λ qs. AreBothSums g.N.LotName.locks g.N.LotName.conds qs c.loop-pass.sums) (sym turned)
    (tallied_turned g.N.LotName.locks g.N.LotName.conds
    (map counts_shown c.loop-pass.rights.items) c.loop-pass.sums c.loop-pass.invariant.tallied)
