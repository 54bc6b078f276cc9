use Rattle.std.proofs.Common.{arith}
use Rattle.gallery.proofs.Numbers.{two_within}
use Rattle.gallery.proofs.readers.check_alone.Goals as goal

pub returns-clause-alone : goal.returns-clause-alone
returns-clause-alone g c =
    let both = c.check_parts.ensures.parts in
    let kept = both.kept in
    let (room, saw, all) = c.requires.writes in
    let mine = both.from_one.mine (c.requires.free.0.no_lock 0) room saw in
    let two = two_within both.value.shares _ _ c.check_parts.ensures.threads in
    let theirs = both.from_other.mine (c.requires.free.1.no_lock 0) in
    (λ (r, at, some). omega (arith, two, mine, all, theirs r at), λ (r, at, is). omega (arith, two, mine, all, theirs r at))
