use Rattle.lot_locks.specs.Standing.{letters_in}
use Rattle.lot_locks.proofs.Letters.{ran_on}
use Rattle.lot_locks.proofs.Seeking.{may_take, owner_on, has_found}
use Rattle.lot_locks.proofs.getting.get.Goals as goal

pub get_slowly-requires-clause-may : goal.get_slowly-requires-clause-may
get_slowly-requires-clause-may g c κs within =
    may_take g.V.Keeps g.N.LotName.locks c.args.pass c.get_free-pass.result.0 c.args.key
    (c.get_free-pass.ensures.missed c.if-found-eq-UNHELD.false)

pub get_slowly-requires-clause-found : goal.get_slowly-requires-clause-found
get_slowly-requires-clause-found g c κs within =
    has_found c.args.pass c.get_free-pass.result.0 c.args.key c.get_free-pass.result.1
    (c.get_free-pass.ensures.found c.if-found-eq-UNHELD.false)

pub returns-else-found-eq-UNHELD-clause-owner : goal.returns-else-found-eq-UNHELD-clause-owner
returns-else-found-eq-UNHELD-clause-owner g c =
    owner_on g.V.Keeps g.N.LotName.locks c.args.pass c.get_free-pass.result.0 c.get_slowly.result c.args.key
    (c.get_free-pass.ensures.missed c.if-found-eq-UNHELD.false) c.get_slowly.ensures.owner

pub returns-else-found-eq-UNHELD-clause-ran : goal.returns-else-found-eq-UNHELD-clause-ran
returns-else-found-eq-UNHELD-clause-ran g c =
    ran_on (letters_in c.get_slowly.result.did) (letters_in c.get_free-pass.result.0.did) (letters_in c.args.pass.did)
    c.get_free-pass.ensures.awake c.get_slowly.ensures.ran
