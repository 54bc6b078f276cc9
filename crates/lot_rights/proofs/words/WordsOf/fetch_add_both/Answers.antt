use Rattle.std.proofs.Common.{◌+◌, ◌^◌, ◌%◌, sym, ap, ◌∙◌}
use Rattle.lot_rights.proofs.Ready.{ready_both, letters_after}
use Rattle.lot_rights.proofs.words.WordsOf.fetch_add_both.Goals as goal

pub fetch_add-found-requires : goal.fetch_add-found-requires
fetch_add-found-requires g c =
    ready_both g.K.Kind.meaning g.K.Kind.no_letter_in_line _ _ c.self.view_is
    g.K.Kind.no_pass g.K.Kind.no_root _ _ (c.requires.table.1 ∙ sym c.requires.table.0) _ c.requires.named _
    c.joined-seat.ensures.table _ _ c.joined-seat.ensures.rights
    c.args.word (λ n. (n + c.args.more) % 2 ^ 64) g.N.TellsBoth.then c.requires.word c.requires.allows

pub parted-pass-requires-clause-letters : goal.parted-pass-requires-clause-letters
parted-pass-requires-clause-letters g c =
    let told = c.fetch_add-found.ensures.2 in
    letters_after g.K.Kind.no_pass g.K.Kind.no_root g.K.Kind.names c.args.root _ _ _ (ap (λ z. z.words) c.fetch_add-found.ensures.0)
    c.joined-seat.ensures.letters c.joined-seat.ensures.near.0 _ _ _ told.4 (c.requires.names c.fetch_add-found.result _ _ told.5)
