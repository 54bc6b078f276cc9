use Rattle.lot_rights.proofs.Ready.{ready_pass}
use Rattle.lot_rights.proofs.words.WordsOf.load.Goals as goal

pub load-found-requires : goal.load-found-requires
load-found-requires g c =
    ready_pass g.K.Kind.meaning g.K.Kind.no_letter_in_line _ _ c.self.view_is
    _ _ c.pass.view_is _ c.requires.named _ _ c.pass.inside.one
    c.args.word (λ n. n) g.N.TellsPass.then c.requires.table
    c.requires.word c.requires.allows
