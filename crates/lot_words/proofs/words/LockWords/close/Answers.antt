use Rattle.std.proofs.Common.{◌≡◌, ◌<◌, ℕ, slice_get, Some, subst, arith}
use Rattle.std.specs.List.{All, Any}
use Rattle.std.specs.Slots.{slots_items}
use Rattle.lot_rights.proofs.Gathers.{all_shown, some_shown}
use Rattle.lot_rights.specs.Shown.{PassShown}
use Rattle.lot_words.specs.declared.views.LockPassView.{LockPassView}
use Rattle.lot_words.specs.Values.{HasSeen, FoundOk}
use Rattle.lot_words.specs.Closing.{IsToldTo}
use Rattle.lot_words.specs.Shown.{LockWordsShown}
use Rattle.lot_words.proofs.Closes.{told_to, last_lies, last_values}
use Rattle.lot_words.proofs.words.LockWords.close.Given.{Over}
use Rattle.lot_words.proofs.words.LockWords.close.Goals.{After-take_values}
use Rattle.lot_words.proofs.words.LockWords.close.Goals as goal

pub close-requires-clause-some : goal.close-requires-clause-some
close-requires-clause-some g c =
    some_shown (λ (z : LockWordsShown _). z.size.threads) c.self.view_is c.self.inside.some _ _ c.args.passes.ok.0 c.requires.passes

pub take_values-requires-clause-lie : goal.take_values-requires-clause-lie
take_values-requires-clause-lie g c k near =
    let all = all_shown (λ (z : LockWordsShown g.row.V.Denot). z.size.threads) c.self.view_is c.args.passes.items c.requires.passes in
    let here : k < c.self.inside.words.key.size.locks = omega (arith, near, c.close.ensures.full.2, c.self.inside.slots_are) in
    last_lies g.V.Keeps c.self.inside.words.key.size c.self.inside.words.key.values.value.items c.args.passes.items c.args.roots.items
    (slots_items c.close.result.words) (slots_items c.close.result.slots) c.close.ensures.ended.left c.requires.idle all k here

pub returns-clause-history : goal.returns-clause-history
returns-clause-history g c =
    subst (λ (z : LockWordsShown g.row.V.Denot). IsToldTo z.size c.args.passes.items c.args.roots.items) c.self.view_is
    (told_to g.V.Keeps c.self.inside.words.key.size c.self.inside.words.key.values.value.items c.args.passes.items c.args.roots.items
    (slots_items c.close.result.words) (slots_items c.close.result.slots) c.close.ensures.ended)

-- what the values that come back are to the passes
values : (g : Over) (c : After-take_values g)
    → All (λ (p : PassShown (LockPassView g.row.V.Denot)). (l : ℕ) (y : g.row.V.Denot)
    → slice_get c.take_values.result.items l ≡ Some y → FoundOk g.V.Keeps l p.thread p.own y) c.args.passes.items
    × ((l : ℕ) (y : g.row.V.Denot) → slice_get c.take_values.result.items l ≡ Some y
    → Any (λ (p : PassShown (LockPassView g.row.V.Denot)). HasSeen p.own l y) c.args.passes.items)
values g c =
    let back = c.take_values in
    last_values g.V.Keeps c.self.inside.words.key.size c.self.inside.words.key.values.value.items c.args.passes.items c.args.roots.items
    (slots_items c.close.result.words) (slots_items c.close.result.slots) c.close.ensures.ended.left c.requires.idle
    (all_shown (λ (z : LockWordsShown g.row.V.Denot). z.size.threads) c.self.view_is c.args.passes.items c.requires.passes)
    back.result.items (omega (arith, back.result.ok, back.ensures.len, c.close.ensures.full.2, c.self.inside.slots_are)) back.ensures.each

pub returns-clause-found : goal.returns-clause-found
returns-clause-found g c = (values g (goal.at.returns-clause-found g c).After-take_values).0

pub returns-clause-left : goal.returns-clause-left
returns-clause-left g c = (values g (goal.at.returns-clause-left g c).After-take_values).1
