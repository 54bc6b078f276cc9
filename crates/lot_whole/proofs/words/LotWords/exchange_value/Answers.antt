use Rattle.std.proofs.Common.{sym, ap, subst, ◌∙◌, ◌<◌}
use Rattle.lot_rights.specs.Shown.{PassShown}
use Rattle.lot_words.specs.declared.views.LockPassView.{LockPassView}
use Rattle.lot_words.specs.declared.views.Place.TheVariants.{Moving}
use Rattle.lot_words.specs.Values.{place_of}
use Rattle.lot_words.proofs.Moving.{placed_twice}
use Rattle.lot_whole.specs.declared.views.LotPassView.{LotPassView}
use Rattle.lot_whole.specs.Rule.{size_of}
use Rattle.lot_whole.specs.Shown.{LotWordsShown}
use Rattle.lot_whole.specs.Calls.{placed_in}
use Rattle.lot_whole.proofs.Slots.{leaves, comes_back}
use Rattle.lot_whole.proofs.words.LotWords.exchange_value.Goals as goal

pub exchange-requires-clause-out : goal.exchange-requires-clause-out
exchange-requires-clause-out g c =
    let key = c.args.key in
    let start = c.self.inside.words.key in
    let here = subst (λ (z : LotWordsShown g.row.V.Denot). key < z.size.locks) (sym c.self.view_is) c.requires.key in
    leaves g.V.Keeps (size_of start) start.values.value.items c.args.pass key here c.requires.holds c.requires.home.0
    c.requires.home.1 c.requires.home.2

pub exchange-requires-clause-back : goal.exchange-requires-clause-back
exchange-requires-clause-back g c =
    let key = c.args.key in
    let start = c.self.inside.words.key in
    let here = subst (λ (z : LotWordsShown g.row.V.Denot). key < z.size.locks) (sym c.self.view_is) c.requires.key in
    comes_back g.V.Keeps (size_of start) start.values.value.items c.args.pass key here c.requires.holds c.args.new c.requires.lawful

pub returns-clause-pass : goal.returns-clause-pass
returns-clause-pass g c =
    let p = c.args.pass in
    let told = c.exchange.ensures.told in
    let twice = ap (λ (o : LockPassView _). let r : LotPassView _ = record p.own { locks = o } in r)
    (placed_twice p.own.locks c.args.key Moving (place_of c.args.new)) in
    let own = told.2 ∙ (ap (λ z. placed_in z c.args.key (place_of c.args.new)) told.1.0 ∙ twice) in
    (c.exchange.ensures.table, c.exchange.ensures.same ∙ ap (λ z. let q : PassShown _ = record p { own = z } in q) own)

pub returns-clause-found : goal.returns-clause-found
returns-clause-found g c = c.exchange.ensures.told.1.1
