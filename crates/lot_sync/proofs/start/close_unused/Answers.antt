use Rattle.std.proofs.Common.{◌≡◌, ◌∙◌, length, vec_len, rules}
use Rattle.lot_sync.proofs.Starts.{passes_done, each_thread, each_key, values_back}
use Rattle.lot_sync.proofs.start.close_unused.Goals as goal

pub close-requires-clause-done : goal.close-requires-clause-done
close-requires-clause-done g c =
    let u = c.requires.unused in
    passes_done g.V.Keeps c.args.words c.args.passes.items c.args.roots.items u.0 u.1 u.2 u.3 u.4

pub close-requires-clause-passes : goal.close-requires-clause-passes
close-requires-clause-passes g c =
    let u = c.requires.unused in
    each_thread g.V.Keeps c.args.words c.args.passes.items c.args.roots.items u.0 u.1 u.2 u.3 u.4

pub close-requires-clause-roots : goal.close-requires-clause-roots
close-requires-clause-roots g c =
    let u = c.requires.unused in
    each_key g.V.Keeps c.args.words c.args.passes.items c.args.roots.items u.0 u.1 u.2 u.3 u.4

pub returns : goal.returns
returns g c =
    let u = c.requires.unused in
    values_back g.V.Keeps c.args.words c.args.passes.items c.args.roots.items u.0 u.1 u.2 u.3 u.4 c.close.result.items
    (let n : length c.close.result.items ≡ vec_len c.close.result = search rules in n ∙ c.close.ensures.len) c.close.ensures.left
