use Rattle.lot_permits.proofs.getting.LotSchemeSoughtSems.queue.Goals as goal

pub returns-clause-refused : goal.returns-clause-refused
returns-clause-refused g c = λ none. rw none at c.park_permit.ensures.pass
