use Rattle.std.proofs.Common.{◌≡◌, suc, ◌%◌, false, is_some, refl, rules, subst, ap, arith}
use Rattle.lot_scheme.specs.Traces.{TryTrace}
use Rattle.lot_sync.specs.Lot.{PassView}
use Rattle.lot_sync.specs.Traces.{Adds}
use Rattle.gallery.proofs.Trying.{none_tried, one_tried}
use Rattle.gallery.proofs.connections.Pool.take_out.Goals as goal
use Rattle.gallery.proofs.connections.Pool.take_out.Goals.{then-key-lt-CONNECTIONS, else-key-lt-CONNECTIONS}

pub loop-init : goal.loop-init
loop-init g c =
    let permit = c.acquire-pass in
    (tt, tt, search rules, (0, refl, none_tried c.args.pass.thread 2 c.args.pass.made permit.result.0.made permit.ensures.made))

pub loop-preserved : goal.loop-preserved
loop-preserved g c =
    let (ones, twos, same, (n, key, sought)) = c.loop.invariant in
    let none : is_some c.try_lock-tried.result.1 ≡ false = search rules in
    let mid = c.loop.pass.made in
    let after = c.try_lock-tried.result.0.made in
    let t = c.args.pass.thread in
    let vain : Adds mid (TryTrace t c.loop.key false) after =
    subst (λ b. Adds mid (TryTrace t c.loop.key b) after) none
    (subst (λ u. Adds mid (TryTrace u c.loop.key (is_some c.try_lock-tried.result.1)) after) (ap (λ (p : PassView _). p.thread) same)
    c.try_lock-tried.ensures.made) in
    let next : c.if-key-lt-CONNECTIONS.key ≡ suc n % 2 =
    elim c.if-key-lt-CONNECTIONS.branch [ then-key-lt-CONNECTIONS w ↦ omega arith | else-key-lt-CONNECTIONS w ↦ omega arith ] in
    (tt, tt, search rules, (suc n, next, one_tried t 2 c.args.pass.made mid after n c.loop.key key sought vain))
