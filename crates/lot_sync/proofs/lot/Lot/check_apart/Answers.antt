use Rattle.std.proofs.Common.{subst, rules}
use Rattle.lot_sync.specs.Lot.{Owns}
use Rattle.lot_sync.proofs.Rests.{owned_held}
use Rattle.lot_sync.proofs.lot.Lot.check_apart.Goals as goal

pub returns-clause-apart : goal.returns-clause-apart
returns-clause-apart g c = λ key a b. c.check_apart-first.ensures.locks key
    (owned_held c.apart-first.result.0.own.locks.holds key (subst (λ p. Owns p key) c.apart-first.ensures.same a))
    (owned_held c.apart-second.result.0.own.locks.holds key (subst (λ p. Owns p key) c.apart-second.ensures.same b))

pub returns-clause-same : goal.returns-clause-same
returns-clause-same g c = search rules
