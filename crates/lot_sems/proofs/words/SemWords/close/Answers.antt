use Rattle.std.proofs.Common.{rules, ◌≡◌, ◌<◌, ℕ, sym, subst, arith}
use Rattle.std.specs.List.{Any}
use Rattle.std.specs.Slots.{slots_items}
use Rattle.lot_rights.specs.Shown.{PassShown}
use Rattle.lot_sems.specs.declared.views.SemPassView.{SemPassView}
use Rattle.lot_sems.specs.World.{numbers}
use Rattle.lot_sems.specs.Closing.{IsToldTo}
use Rattle.lot_sems.specs.Shown.{SemWordsShown}
use Rattle.lot_sems.proofs.Closes.{told_to}
use Rattle.lot_sems.proofs.words.SemWords.close.Goals as goal

pub free-requires : goal.free-requires
free-requires c k near = absurd (let none = c.self.inside.no_slots in let full = c.close.ensures.full.2 in omega arith)

pub returns : goal.returns
returns c =
    let size = numbers c.self.inside.words.key in
    let all =
    subst (λ (z : SemWordsShown). (t : ℕ) → t < z.size.threads → Any (λ (p : PassShown SemPassView). p.thread ≡ t) c.args.passes.items)
    (sym c.self.view_is) c.requires.passes in
    record {
      history = subst (λ (z : SemWordsShown). IsToldTo z.size c.args.passes.items c.args.roots.items) c.self.view_is
          (told_to size c.args.passes.items c.args.roots.items (slots_items c.close.result.words)
          (slots_items c.close.result.slots) c.close.ensures.ended all);
    }

pub close-requires-clause-some : goal.close-requires-clause-some
close-requires-clause-some c = search rules
