use Rattle.lot_rights.specs.History.{events_in}
use Rattle.base_trials.proofs.rights.sems.close_soundly.Goals as goal

pub returns : goal.returns
returns c = let told = c.close.ensures.history in
    (told, c.every_run_is_sound.ensures c.args.words.size (events_in told.recounted.log) told.recounted.part told.recounted.run)
