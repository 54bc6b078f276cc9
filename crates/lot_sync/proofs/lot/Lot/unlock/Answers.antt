use Rattle.lot_sync.proofs.lot.Lot.unlock.Goals as goal

pub returns-clause-fits : goal.returns-clause-fits
returns-clause-fits g c = c.unlock_as.ensures.fits
