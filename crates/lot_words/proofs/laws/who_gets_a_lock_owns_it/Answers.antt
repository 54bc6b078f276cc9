use Rattle.lot_words.proofs.Owning.{owns_owning}
use Rattle.lot_words.proofs.laws.who_gets_a_lock_owns_it.Goals as goal

pub returns : goal.returns
returns g c l t p x found =
    let o = owns_owning p l x found.tells in (o, record { holds = o.holds; lies = o.lies; seen = o.seen })
