use Rattle.std.proofs.Common.{◌≡◌, ◌++◌, ◌∷◌, [], sym, ap, ◌∙◌, subst, arith, append_assoc, None, Some}
use Rattle.std.proofs.lemmas.Str.Pattern.{split_after}
use Rattle.lot_witness.specs.Spelling.{SpellsSighting}
use Rattle.lot_witness.proofs.Clean.{clean_at}
use Rattle.lot_witness.proofs.Lines.{sighting_is_one}
use Rattle.lot_witness.proofs.reading.first_sighting.Goals as goal

pub returns-in_default-clause-none : goal.returns-in_default-clause-none
returns-in_default-clause-none c x rest (first, spells, parts) =
    let one = sighting_is_one first x spells in
    split_after 10 c.args.text.now one.front rest None c.in_default.ensures.cases (omega arith)
    (parts ∙ ap (λ f. f ++ rest) one.parts ∙ append_assoc one.front (10 ∷ []) rest) (clean_at 10 one.front one.clean_is)

pub returns-in_default-sighting_of-clause-none : goal.returns-in_default-sighting_of-clause-none
returns-in_default-sighting_of-clause-none c x rest (first, spells, parts) =
    let one = sighting_is_one first x spells in
    let same : (c.in-Some.line.now ≡ one.front) × (c.in-Some.rest.now ≡ rest) =
    split_after 10 c.args.text.now one.front rest (Some (c.in-Some.line, c.in-Some.rest)) c.in-Some.ensures.cases (omega arith)
    (parts ∙ ap (λ f. f ++ rest) one.parts ∙ append_assoc one.front (10 ∷ []) rest) (clean_at 10 one.front one.clean_is) in
    c.in_default-sighting_of.ensures.none x
    (subst (λ t. SpellsSighting t x) (one.parts ∙ ap (λ f. f ++ 10 ∷ []) (sym same.0)) spells)
