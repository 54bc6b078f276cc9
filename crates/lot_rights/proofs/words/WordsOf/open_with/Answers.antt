use Rattle.std.proofs.Common.{◌+◌, ◌∙◌, sym, subst}
use Rattle.lot_rights.specs.Start.{Begins}
use Rattle.lot_rights.proofs.Distinct.{words_near, words_small}
use Rattle.lot_rights.proofs.Opens.{opens}
use Rattle.lot_rights.proofs.words.WordsOf.open_with.Goals as goal

pub new-requires : goal.new-requires
new-requires g c = opens (g.K.Kind.meaning c.args.key.now) c.args.words.now c.args.slots.items c.requires.opens

pub returns-in-Ok-new-clause-rule : goal.returns-in-Ok-new-clause-rule
returns-in-Ok-new-clause-rule g c =
    subst (λ key. Begins (g.K.Kind.meaning key) c.args.words.now c.args.slots.items) (sym c.in-Ok-new.ensures.ok.5)
    (opens (g.K.Kind.meaning c.args.key.now) c.args.words.now c.args.slots.items c.requires.opens)

pub deal_roots-requires-clause-near : goal.deal_roots-requires-clause-near
deal_roots-requires-clause-near g c =
    words_near c.args.threads (c.args.first + c.args.keys) _ (c.in-Ok-new.ensures.ok.0 ∙ c.requires.wide)

pub returns-in-Ok-new-clause-near : goal.returns-in-Ok-new-clause-near
returns-in-Ok-new-clause-near g c =
    let wide = c.in-Ok-new.ensures.ok.0 ∙ c.requires.wide in (
      words_small c.args.threads (c.args.first + c.args.keys) _ c.requires.few.0 c.requires.few.1 wide,
      words_near c.args.threads (c.args.first + c.args.keys) _ wide,
    )
