use Rattle.gallery.proofs.dinner.no_circle_waits.Goals as goal

pub returns : goal.returns
returns g c z values s here =
    let one = c.one_state_at_every_moment.ensures z values s here in
    let (level, rises) = c.requires.rises in
    (one, one.orderly.no_circle level rises, one.orderly.goes_on level rises)
