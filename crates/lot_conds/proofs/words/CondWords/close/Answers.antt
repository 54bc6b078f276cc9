use Rattle.std.proofs.Common.{◌≡◌, ◌<◌, ℕ, sym, subst, arith}
use Rattle.std.specs.List.{Any}
use Rattle.std.specs.Slots.{slots_items}
use Rattle.lot_rights.specs.Closing.{Ended}
use Rattle.lot_rights.specs.Shown.{PassShown}
use Rattle.lot_conds.specs.declared.views.CondPassView.{CondPassView}
use Rattle.lot_conds.specs.Rule.{meaning}
use Rattle.lot_conds.specs.Shown.{CondWordsShown}
use Rattle.lot_conds.proofs.Closes.{told_to, balanced}
use Rattle.lot_conds.proofs.words.CondWords.close.Goals as goal

pub free-requires : goal.free-requires
free-requires c k near = absurd (let none = c.self.inside.no_slots in let full = c.close.ensures.full.2 in omega arith)

pub returns-clause-balanced : goal.returns-clause-balanced
returns-clause-balanced c =
    let size = c.self.inside.words.key in
    let all =
    subst (λ (z : CondWordsShown). (t : ℕ) → t < z.size.threads
    → Any (λ (p : PassShown CondPassView). p.thread ≡ t) c.args.passes.items) (sym c.self.view_is) c.requires.passes in
    balanced size c.args.passes.items c.args.roots.items (slots_items c.close.result.words)
    (slots_items c.close.result.slots) c.close.ensures.ended.left c.requires.idle all

pub returns-clause-history : goal.returns-clause-history
returns-clause-history c =
    told_to c.args.self.size c.args.passes.items c.args.roots.items (slots_items c.close.result.words) (slots_items c.close.result.slots)
    (subst
    (λ (z : CondWordsShown). Ended (meaning z.size) c.args.passes.items c.args.roots.items (slots_items c.close.result.words)
    (slots_items c.close.result.slots)) c.self.view_is
    c.close.ensures.ended)
