use Rattle.std.proofs.Common.{◌≡◌, ◌≤◌, suc, ◌-◌, subst, arith}
use Rattle.lot_rights.proofs.Places.{pass_at_place}
use Rattle.lot_rights.proofs.words.WordsOf.collect.Goals as goal

pub swap-pass-requires-clause-allows : goal.swap-pass-requires-clause-allows
swap-pass-requires-clause-allows g c =
    pass_at_place (g.K.Kind.meaning c.args.self.now.key) _ _ c.letter-place.ensures.is (λ _. 0) c.args.pass
    (λ n p. (n ≤ 2) × g.N.TellsPass.then n p) c.requires.allows

pub returns-then-letter-eq-NO_LETTER-clause-letter : goal.returns-then-letter-eq-NO_LETTER-clause-letter
returns-then-letter-eq-NO_LETTER-clause-letter g c =
    subst (λ n. g.N.TellsPass.then n c.swap-pass.result.0) c.if-letter-eq-NO_LETTER.true c.swap-pass.ensures.told.1

pub overflow_cast-result : goal.overflow_cast-result
overflow_cast-result g c = let few = c.swap-pass.ensures.told.0 in omega arith

pub returns-clause-letter : goal.returns-clause-letter
returns-clause-letter g c =
    let lies : c.swap-pass.result.1 ≡ suc (c.swap-pass.result.1 - 1) = (let some = c.if-letter-eq-NO_LETTER.false in omega arith) in
    subst (λ n. g.N.TellsPass.then n c.swap-pass.result.0) lies c.swap-pass.ensures.told.1
