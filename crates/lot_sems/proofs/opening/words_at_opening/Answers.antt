use Rattle.std.proofs.Common.{◌+◌, ◌∙◌, ap}
use Rattle.std.specs.Vec.{vec_len}
use Rattle.lot_rights.specs.Layout.{word_count}
use Rattle.lot_rights.proofs.Distinct.{words_near}
use Rattle.lot_sems.proofs.opening.words_at_opening.Goals as goal

pub fill-requires-clause-words : goal.fill-requires-clause-words
fill-requires-clause-words c =
    let keys = c.args.first_sem + vec_len c.args.permits.now in
    words_near c.args.threads keys _
    (c.in_ok-words.ensures.len ∙ (c.words_for.ensures ∙ ap (λ n. word_count c.args.threads (c.args.first_sem + n)) c.len.ensures))
