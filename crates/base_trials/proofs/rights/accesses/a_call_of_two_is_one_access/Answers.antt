use Rattle.base_trials.proofs.Accesses.{call_of_two}
use Rattle.base_trials.proofs.rights.accesses.a_call_of_two_is_one_access.Goals as goal

pub returns : goal.returns
returns g c key =
    call_of_two (g.K.Kind.meaning key) (c.one_entry_is_one_access.ensures key) (c.seats_show_what_their_rights_show.ensures key)
