use Rattle.std.proofs.Common.{rules, ◌≡◌, ◌++◌, ◌∷◌, [], ap, ◌∙◌, sym, subst, arith, reverse, append_assoc}
use Rattle.std.specs.List.{AllZip}
use Rattle.std.proofs.lemmas.List.{reverse-append}
use Rattle.std.proofs.lemmas.Slice.Zip.{all_zipped_more}
use Rattle.lot_rights.proofs.Gathers.{all_popped}
use Rattle.lot_words.proofs.shelf.move_each.Goals as goal

pub loop-item-preserved : goal.loop-item-preserved
loop-item-preserved g c =
    let inv = c.loop-item.invariant in
    let left = c.pop.new.self.items in
    let last = c.in-Some.ensures.items in
    let turned = c.turn.result ∷ [] in
    record {
      calls = (all_popped (goal.F-pre g c.args.turn) c.loop-item.from.items left c.in-Some.item last inv.calls).0;
      moved = λ ys each.
          subst (AllZip (goal.F-post g c.args.turn) c.args.from.now.items)
          (append_assoc ys turned (reverse c.loop-item.to.items)
          ∙ ap (λ zs. ys ++ zs) (sym (reverse-append c.loop-item.to.items turned) ∙ ap reverse (sym c.push_reserved.ensures.items)))
          (inv.moved (ys ++ turned)
          (subst (λ xs. AllZip (goal.F-post g c.args.turn) xs (ys ++ turned)) (sym last)
          (all_zipped_more (goal.F-post g c.args.turn) left ys c.in-Some.item c.turn.result each c.turn.ensures)));
      count = omega (arith, c.in-Some.ensures.len);
      fits = omega arith;
      room = search rules;
      same = search rules;
    }

pub returns-clause-each : goal.returns-clause-each
returns-clause-each g c =
    let none : c.loop-item.from.items ≡ [] = search rules in
    subst (AllZip (goal.F-post g c.args.turn) c.args.from.now.items) (sym c.reverse.ensures.items)
    (c.loop-item.invariant.moved [] (subst (λ xs. AllZip (goal.F-post g c.args.turn) xs []) (sym none) tt))
