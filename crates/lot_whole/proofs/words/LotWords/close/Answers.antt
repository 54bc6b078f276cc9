use Rattle.std.proofs.Common.{◌≡◌, ◌<◌, ℕ, slice_get, Some, subst, arith}
use Rattle.std.specs.List.{All, Any}
use Rattle.std.specs.Slots.{slots_items}
use Rattle.lot_rights.proofs.Gathers.{all_shown, some_shown}
use Rattle.lot_rights.specs.Shown.{PassShown}
use Rattle.lot_words.specs.Values.{HasSeen, FoundOk}
use Rattle.lot_whole.specs.declared.views.LotPassView.{LotPassView}
use Rattle.lot_whole.specs.Closing.{IsToldTo}
use Rattle.lot_whole.specs.Rule.{size_of}
use Rattle.lot_whole.specs.Shown.{LotWordsShown}
use Rattle.lot_whole.proofs.Closes.{told_to, last_lies, last_values, balanced}
use Rattle.lot_whole.proofs.words.LotWords.close.Given.{Over}
use Rattle.lot_whole.proofs.words.LotWords.close.Goals.{After-take_values}
use Rattle.lot_whole.proofs.words.LotWords.close.Goals as goal

pub close-requires-clause-some : goal.close-requires-clause-some
close-requires-clause-some g c =
    some_shown (λ (z : LotWordsShown _). z.size.threads) c.self.view_is c.self.inside.some _ _ c.args.passes.ok.0 c.requires.passes

pub take_values-requires-clause-lie : goal.take_values-requires-clause-lie
take_values-requires-clause-lie g c k near =
    let start = c.self.inside.words.key in
    let all = all_shown (λ (z : LotWordsShown g.row.V.Denot). z.size.threads) c.self.view_is c.args.passes.items c.requires.passes in
    let here : k < start.locks = omega (arith, near, c.close.ensures.full.2, c.self.inside.slots_are) in
    last_lies g.V.Keeps (size_of start) start.values.value.items c.args.passes.items c.args.roots.items
    (slots_items c.close.result.words) (slots_items c.close.result.slots) c.close.ensures.ended.left all c.requires.done k here

pub returns-clause-balanced : goal.returns-clause-balanced
returns-clause-balanced g c =
    let start = c.self.inside.words.key in
    let all = all_shown (λ (z : LotWordsShown g.row.V.Denot). z.size.threads) c.self.view_is c.args.passes.items c.requires.passes in
    balanced g.V.Keeps (size_of start) start.values.value.items c.args.passes.items c.args.roots.items
    (slots_items c.close.result.words) (slots_items c.close.result.slots) c.close.ensures.ended.left all c.requires.done

pub returns-clause-history : goal.returns-clause-history
returns-clause-history g c =
    let start = c.self.inside.words.key in
    let all = all_shown (λ (z : LotWordsShown g.row.V.Denot). z.size.threads) c.self.view_is c.args.passes.items c.requires.passes in
    subst (λ (z : LotWordsShown g.row.V.Denot). IsToldTo z.size c.args.passes.items c.args.roots.items) c.self.view_is
    (told_to g.V.Keeps (size_of start) start.values.value.items c.args.passes.items c.args.roots.items
    (slots_items c.close.result.words) (slots_items c.close.result.slots) c.close.ensures.ended all c.requires.done)

-- what the values that come back are to the passes
values : (g : Over) (c : After-take_values g)
    → All (λ (p : PassShown (LotPassView g.row.V.Denot)). (l : ℕ) (y : g.row.V.Denot)
    → slice_get c.take_values.result.items l ≡ Some y → FoundOk g.V.Keeps l p.thread p.own.locks y) c.args.passes.items
    × ((l : ℕ) (y : g.row.V.Denot) → slice_get c.take_values.result.items l ≡ Some y
    → Any (λ (p : PassShown (LotPassView g.row.V.Denot)). HasSeen p.own.locks l y) c.args.passes.items)
values g c =
    let back = c.take_values in
    let start = c.self.inside.words.key in
    last_values g.V.Keeps (size_of start) start.values.value.items c.args.passes.items c.args.roots.items
    (slots_items c.close.result.words) (slots_items c.close.result.slots) c.close.ensures.ended.left
    (all_shown (λ (z : LotWordsShown g.row.V.Denot). z.size.threads) c.self.view_is c.args.passes.items c.requires.passes)
    c.requires.done c.take_values.result.items
    (omega (arith, c.take_values.result.ok, c.take_values.ensures.len, c.close.ensures.full.2, c.self.inside.slots_are))
    c.take_values.ensures.each

pub returns-clause-found : goal.returns-clause-found
returns-clause-found g c = (values g (goal.at.returns-clause-found g c).After-take_values).0

pub returns-clause-left : goal.returns-clause-left
returns-clause-left g c = (values g (goal.at.returns-clause-left g c).After-take_values).1
