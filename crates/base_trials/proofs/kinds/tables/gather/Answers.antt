use Rattle.std.proofs.Common.{rules}
use Rattle.lot_rights.proofs.Turns.{no_elements}
use Rattle.base_trials.proofs.Opened.{none_gathered, one_gathered, all_gathered}
use Rattle.base_trials.proofs.kinds.tables.gather.Goals as goal

pub returns : goal.returns
returns g c =
    let table = g.N.Name.opening.locks in
    let none = none_gathered table c.args.passes.now.items (no_elements c.args.passes.now.items (search rules)) in
    let zero = one_gathered table 0 _ _ _ _ c.push_reserved.ensures.items c.into_pass.ensures.same c.into_pass.ensures.named
    c.requires.calm.0 none in
    let one = one_gathered table 1 _ _ _ _ c.push_reserved-2.ensures.items c.into_pass-2.ensures.same c.into_pass-2.ensures.named
    c.requires.calm.1 zero in
    let two = one_gathered table 2 _ _ _ _ c.push_reserved-3.ensures.items c.into_pass-3.ensures.same c.into_pass-3.ensures.named
    c.requires.calm.2 one in
    all_gathered table _ two
