use Rattle.lot_rights.specs.Opening.{no_table}
use Rattle.base_trials.proofs.rights.names.a_name_is_picked_after_the_opening.Given as goal

-- the opening of the ticket
abbrev pub ghosts-through_a_lock : goal.ghosts-through_a_lock
ghosts-through_a_lock g a =
    record { opening = record { locks = record no_table { words = a.ticket.words }; conds = no_table; sems = no_table } }
