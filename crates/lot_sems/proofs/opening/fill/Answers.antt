use Rattle.std.proofs.Common.{rules, ◌≡◌, ◌*◌, ◌+◌, set, get_or, sym, ap, ◌∙◌, add-one, arith, vec_len}
use Rattle.std.proofs.lemmas.List.{get_or_default}
use Rattle.lot_rights.specs.Layout.{word_at}
use Rattle.lot_sems.specs.Opening.{with_permits}
use Rattle.lot_sems.proofs.opening.fill.Goals as goal

pub loop-i-preserved : goal.loop-i-preserved
loop-i-preserved c =
    let i = c.loop-i.i in
    let ws = with_permits c.args.words.now.items c.args.first_sem c.args.permits.now.items in
    let value : c.index.result.now ≡ get_or c.args.permits.now.items i 0 =
    c.index.ensures ∙ get_or_default c.args.permits.now.items i c.index.result.now 0 (omega (arith, c.args.permits.now.ok)) in
    let place : c.word_of_key.result ≡ word_at (c.args.first_sem + i) = search rules in
    record {
      written = (λ j. set (c.loop-i.invariant.written j) (place j) (2 * value j)) ∙ sym (ap ws (add-one i));
      len = c.loop-i.invariant.len;
    }

pub returns : goal.returns
returns c =
    let done : c.loop-i.i ≡ vec_len c.args.permits.now = search (arith, rules) in
    c.loop-i.invariant.written ∙ ap (with_permits c.args.words.now.items c.args.first_sem c.args.permits.now.items) done
