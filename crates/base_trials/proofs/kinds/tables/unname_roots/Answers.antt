use Rattle.std.proofs.Common.{rules, ap, ◌∙◌}
use Rattle.lot_rights.proofs.Turns.{no_elements}
use Rattle.lot_rights.specs.Shown.{RootShown}
use Rattle.lot_whole.specs.declared.views.LotRootView.{LotRootView}
use Rattle.base_trials.proofs.Opened.{no_root_back, one_root_back, roots_back, three_named}
use Rattle.base_trials.proofs.kinds.tables.unname_roots.Goals as goal

pub returns : goal.returns
returns g c =
    let table = g.N.Name.opening.locks in
    let key = λ (q : RootShown LotRootView). q.key in
    let keys = three_named _ _ _ _ _ _ _ c.requires.named c.take_last-cond.ensures.items c.take_last-second.ensures.items
    c.take_last-first.ensures.items in
    let none = no_root_back table c.args.roots.now.items (no_elements c.args.roots.now.items (search rules)) in
    let first = one_root_back table 0 _ _ _ c.push_reserved.ensures.items c.into_root.ensures.named (ap key c.into_root.ensures.same
    ∙ keys.0) none in
    let second = one_root_back table 1 _ _ _ c.push_reserved-2.ensures.items c.into_root-2.ensures.named
    (ap key c.into_root-2.ensures.same ∙ keys.1) first in
    let third = one_root_back table 2 _ _ _ c.push_reserved-3.ensures.items c.into_root-3.ensures.named
    (ap key c.into_root-3.ensures.same ∙ keys.2) second in
    roots_back table _ third
