use Rattle.std.proofs.Common.{sym, ap, ◌∙◌}
use Rattle.lot_rights.proofs.Ready.{ready_both, letters_after}
use Rattle.lot_rights.proofs.words.WordsOf.store_both.Goals as goal

pub store-requires : goal.store-requires
store-requires g c =
    ready_both g.K.Kind.meaning g.K.Kind.no_letter_in_line _ _ c.self.view_is
    g.K.Kind.no_pass g.K.Kind.no_root _ _ (c.requires.table.1 ∙ sym c.requires.table.0) _ c.requires.named _
    c.joined-seat.ensures.table _ _ c.joined-seat.ensures.rights
    c.args.word (λ _. c.args.new) (λ _. g.N.TellsBoth.then c.args.new) c.requires.word c.requires.allows

pub parted-requires-clause-letters : goal.parted-requires-clause-letters
parted-requires-clause-letters g c =
    let told = c.store.ensures.2 in
    letters_after g.K.Kind.no_pass g.K.Kind.no_root g.K.Kind.names c.args.root _ _ _ (ap (λ z. z.words) c.store.ensures.0)
    c.joined-seat.ensures.letters c.joined-seat.ensures.near.0 _ _ _ told.4 (c.requires.names c.args.new _ _ told.5)
