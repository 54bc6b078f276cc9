use Rattle.std.proofs.Common.{◌∙◌}
use Rattle.lot_rights.specs.Shown.{PassShown, the_pass}
use Rattle.lot_rights.specs.Slots.{AllowsOut, AllowsBack}
use Rattle.lot_rights.proofs.Moves.{knowing, takes_out, gives_back, carried_here, carried_new, moved, moved_back}
use Rattle.lot_rights.proofs.Ready.{of_table, allowed_with}
use Rattle.lot_rights.proofs.words.WordsOf.exchange.Goals as goal

pub load-requires : goal.load-requires
load-requires g c =
    let out = allowed_with (λ key x. AllowsOut (g.K.Kind.meaning key) g.N.Moves.slot x g.N.Moves.mid) c.self.view_is c.pass.view_is
    c.requires.out in (
      of_table (λ (x : PassShown _). x.table) c.self.view_is c.pass.view_is c.requires.table,
      c.self.inside.some,
      takes_out (g.K.Kind.meaning c.self.inside.table.shared.key) c.self.inside.table.shared.table_id.slots c.pass.inside.seat.id
          g.N.Moves.slot g.K.Kind.no_pass _ _ c.pass.inside.one g.N.Moves.mid out,
    )

pub exchange-found-requires : goal.exchange-found-requires
exchange-found-requires g c =
    let told = c.load.ensures.2 in
    let carried = moved _ _ _ _ _ c.requires.named told.2 in (
      c.load.ensures.0 ∙ of_table (λ (x : PassShown _). x.table) c.self.view_is c.pass.view_is c.requires.table,
      (told.1, carried_here _ _ _ _ carried),
    )

pub load-requires-2 : goal.load-requires-2
load-requires-2 g c =
    let p = the_pass g.K.Kind.no_pass c.pass.inside.seat.me.0 in
    let told = c.load.ensures.2 in
    let carried = moved _ _ _ _ _ c.requires.named told.2 in
    let with_new = carried_new _ _ _ _ carried _ c.args.new c.exchange-found.ensures.3 in
    let back = allowed_with
    (λ key (x : PassShown _). AllowsBack (g.K.Kind.meaning key) g.N.Moves.slot x.thread told.0 c.args.new (g.N.Moves.back told.0))
    c.self.view_is c.pass.view_is (c.requires.back told.0 told.1 told.3) in (
      c.exchange-found.ensures.0
          ∙ (c.load.ensures.0 ∙ of_table (λ (x : PassShown _). x.table) c.self.view_is c.pass.view_is c.requires.table),
      c.self.inside.some,
      gives_back (g.K.Kind.meaning c.self.inside.table.shared.key) c.self.inside.table.shared.table_id.slots c.exchange-found.new.seat.id
          g.N.Moves.slot g.K.Kind.no_pass _ (knowing p told.0) c.args.new (moved_back _ _ _ _ _ c.requires.named with_new)
          g.N.Moves.back back,
    )
