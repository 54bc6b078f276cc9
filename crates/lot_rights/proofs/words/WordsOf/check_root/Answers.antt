use Rattle.lot_rights.proofs.Ready.{ready_fact}
use Rattle.lot_rights.proofs.words.WordsOf.check_root.Goals as goal

pub load-requires : goal.load-requires
load-requires g c =
    ready_fact g.K.Kind.meaning g.K.Kind.no_letter_in_line _ _ c.self.view_is
    _ _ c.root.view_is c.requires.table c.self.inside.some _ _ c.root.inside.one
    g.N.TellsFact.fact c.requires.tells
