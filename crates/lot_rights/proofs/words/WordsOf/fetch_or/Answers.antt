use Rattle.std.proofs.Common.{bit_or}
use Rattle.lot_rights.proofs.Ready.{ready_pass}
use Rattle.lot_rights.proofs.words.WordsOf.fetch_or.Goals as goal

pub fetch_or-found-requires : goal.fetch_or-found-requires
fetch_or-found-requires g c =
    ready_pass g.K.Kind.meaning g.K.Kind.no_letter_in_line _ _ c.self.view_is
    _ _ c.pass.view_is _ c.requires.named _ _ c.pass.inside.one
    c.args.word (λ n. bit_or n c.args.bits) g.N.TellsPass.then
    c.requires.table c.requires.word c.requires.allows
