use Rattle.std.proofs.Common.{sym, ap, subst, ◌∙◌, ◌<◌}
use Rattle.lot_rights.specs.Shown.{PassShown}
use Rattle.lot_words.specs.declared.views.Place.TheVariants.{Moving}
use Rattle.lot_words.specs.Values.{place_of}
use Rattle.lot_words.specs.Calls.{placing}
use Rattle.lot_words.specs.Shown.{LockWordsShown}
use Rattle.lot_words.proofs.Moving.{leaves, comes_back, placed_twice}
use Rattle.lot_words.proofs.words.LockWords.exchange_value.Goals as goal

pub exchange-requires-clause-out : goal.exchange-requires-clause-out
exchange-requires-clause-out g c =
    let key = c.args.key in
    let here = subst (λ (z : LockWordsShown g.row.V.Denot). key < z.size.locks) (sym c.self.view_is) c.requires.key in
    leaves g.V.Keeps c.self.inside.words.key.size c.self.inside.words.key.values.value.items c.args.pass key here c.requires.holds
    c.requires.home.0 c.requires.home.1 c.requires.home.2

pub exchange-requires-clause-back : goal.exchange-requires-clause-back
exchange-requires-clause-back g c =
    let key = c.args.key in
    let here = subst (λ (z : LockWordsShown g.row.V.Denot). key < z.size.locks) (sym c.self.view_is) c.requires.key in
    comes_back g.V.Keeps c.self.inside.words.key.size c.self.inside.words.key.values.value.items c.args.pass key here c.requires.holds
    c.args.new c.requires.lawful

pub returns-clause-pass : goal.returns-clause-pass
returns-clause-pass g c =
    let p = c.args.pass in
    let told = c.exchange.ensures.told in
    let own =
    told.2 ∙ (ap (λ z. placing z c.args.key (place_of c.args.new)) told.1.0 ∙ placed_twice p.own c.args.key Moving (place_of c.args.new)) in
    (c.exchange.ensures.table, c.exchange.ensures.same ∙ ap (λ z. let q : PassShown _ = record p { own = z } in q) own)

pub returns-clause-found : goal.returns-clause-found
returns-clause-found g c = c.exchange.ensures.told.1.1
