use Rattle.lot_permits.proofs.Slept.{seeks_still}
use Rattle.lot_permits.proofs.getting.LotSchemeSoughtSems.is_handed.Goals as goal

pub returns : goal.returns
returns g c = λ before asleep now key sleeps found.
    seeks_still g.V.Keeps g.N.LotName.first_sem before key asleep now c.args._token.0 sleeps found
