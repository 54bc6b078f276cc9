use Rattle.lot_core.specs.Model.{opening_with}
use Rattle.lot_core.proofs.Law.{opening_sound}
use Rattle.lot_regions.specs.Watch.{opening_watch}
use Rattle.lot_regions.proofs.Watching.{opening_watched, watch_kept, none_forgotten, run_watched}
use Rattle.lot_regions.proofs.law.no_notification_is_forgotten.Goals as goal

pub returns-clause-opening : goal.returns-clause-opening
returns-clause-opening g c = opening_watched

pub returns-clause-event : goal.returns-clause-event
returns-clause-event g c = watch_kept

pub returns-clause-watched : goal.returns-clause-watched
returns-clause-watched g c = none_forgotten

pub returns-clause-run : goal.returns-clause-run
returns-clause-run g c lock_of ready threads locks conds permits values events run =
    run_watched lock_of ready (opening_with threads locks conds permits) (opening_watch values) events
    (opening_sound threads locks conds permits) (opening_watched lock_of ready threads locks conds permits values) run
