use Rattle.gallery.proofs.latch.Place.meet.Goals as goal

pub returns-clause-all_came : goal.returns-clause-all_came
returns-clause-all_came g c =
    let (before, after, arrives, saw) = c.arrive-pass.ensures.arrives in
    let (all, seen, came, goes_on) = c.wait.ensures.all_came in (before, after, arrives, (all, seen, came, goes_on after saw))
