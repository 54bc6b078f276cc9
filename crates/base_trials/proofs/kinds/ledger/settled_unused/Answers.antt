use Rattle.base_trials.proofs.Opened.{fresh_back}
use Rattle.base_trials.proofs.kinds.ledger.settled_unused.Goals as goal

pub close_words-values-requires-clause-roots : goal.close_words-values-requires-clause-roots
close_words-values-requires-clause-roots g c =
    let back = fresh_back c.args.words.table 1 2 c.args.roots.items c.requires.roots in
    rw (← c.requires.named, c.requires.keys.0, c.requires.keys.1) back

pub settle-ledger-requires-clause-roots : goal.settle-ledger-requires-clause-roots
settle-ledger-requires-clause-roots g c =
    let back = fresh_back c.args.words.table 1 2 c.args.roots.items c.requires.roots in
    rw (← c.requires.named, c.requires.keys.0, c.requires.keys.1) back
