use Rattle.std.proofs.Common.{◌+◌}
use Rattle.lot_rights.proofs.Places.{root_at_place}
use Rattle.lot_rights.proofs.words.WordsOf.post.Goals as goal

pub store_root-requires-clause-allows : goal.store_root-requires-clause-allows
store_root-requires-clause-allows g c =
    root_at_place (g.K.Kind.meaning c.args.self.now.key) _ _ c.letter_of-letter.ensures.is (λ _. c.args.token + 1) c.args.root
    (λ _. g.N.TellsRoot.then (c.args.token + 1)) c.requires.allows
