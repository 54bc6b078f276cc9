use Rattle.lot_rights.specs.Shown.{RootShown, right_of_root}
use Rattle.lot_rights.specs.Steps.{AllowsRoot, ToldRoot}
use Rattle.lot_rights.proofs.Ready.{ready_one, root_stands}
use Rattle.lot_rights.proofs.Stepping.{steps_root}
use Rattle.lot_rights.proofs.words.WordsOf.store_root.Goals as goal

pub store-requires : goal.store-requires
store-requires g c =
    ready_one g.K.Kind.meaning g.K.Kind.no_letter_in_line _ _ c.self.view_is (λ (x : RootShown _). x.table)
    (λ key x. AllowsRoot (g.K.Kind.meaning key) c.args.word (λ _. c.args.new) x (λ _. g.N.TellsRoot.then c.args.new))
    _ _ c.root.view_is _ c.requires.named _ _ _ (λ _. c.args.new)
    (λ t x. ToldRoot t (right_of_root x) (λ _. g.N.TellsRoot.then c.args.new))
    (steps_root (g.K.Kind.meaning c.self.inside.table.shared.key) (g.K.Kind.no_letter_in_line c.self.inside.table.shared.key)
    c.self.inside.table.shared.table_id.slots _ _ _ c.args.word (λ _. c.args.new) (λ _. g.N.TellsRoot.then c.args.new) c.root.inside.one)
    c.requires.table c.requires.word c.requires.allows

pub invariant_of-result : goal.invariant_of-result
invariant_of-result g c =
    let told = c.store.ensures.2 in
    root_stands g.K.Kind.no_root g.K.Kind.names _ _ c.root.view_is (g.B.Numbering.shown c.root.inside.number) c.root.inside.number_is
    c.root.inside.near
    c.root.inside.small c.root.inside.letters_near _ c.store.ensures.0
    c.store.new.seat.me told.0 told.1 told.2 (c.requires.names c.args.new _ told.3)
