use Rattle.lot_core.specs.Parts.{IsAmongConds}
use Rattle.lot_rights.specs.Layout.{word_at}
use Rattle.lot_rights.proofs.Places.{pass_at_word}
use Rattle.lot_conds.specs.Rule.{meaning}
use Rattle.lot_conds.specs.Shown.{CondWordsShown}
use Rattle.lot_conds.proofs.Turns.{Looks, looks}
use Rattle.lot_conds.proofs.words.CondWords.look.Goals as goal

pub load-pass-requires-clause-allows : goal.load-pass-requires-clause-allows
load-pass-requires-clause-allows c =
    let key = c.args.key in
    pass_at_word (λ (z : CondWordsShown). meaning z.size) c.self.view_is (λ z. IsAmongConds z.size.locks z.size.conds key) c.requires.key
    (word_at key) c.word_of_key.ensures
    (λ n. n) c.args.pass (Looks c.args.pass key)
    (λ z among. looks z.size c.args.pass key among c.requires.calm)

pub returns-clause-event : goal.returns-clause-event
returns-clause-event c = c.load-pass.ensures.told
