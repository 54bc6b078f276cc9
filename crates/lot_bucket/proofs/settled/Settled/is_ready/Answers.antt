use Rattle.std.proofs.Common.{◌≡◌, ◌%◌, ◌<◌, true, arith}
use Rattle.std.proofs.lemmas.Grind.{common_steps}
use Rattle.lot_bucket.proofs.Settling.{ready}
use Rattle.lot_bucket.proofs.settled.Settled.is_ready.Goals as goal

pub returns-then-key-keys-clause-ready : goal.returns-then-key-keys-clause-ready
returns-then-key-keys-clause-ready g c wide =
    let lying = c.self.inside in
    let opened : lying.bucket.opened ≡ true = grind (arith, common_steps) in
    let number : lying.number ≡ c.args.key % lying.size = grind (arith, common_steps) in
    let all : lying.keys ≡ c.args.keys = grind (arith, common_steps) in
    let among : c.args.key < c.args.keys = grind (arith, common_steps) in
    let room : lying.bucket.room ≡ c.args.threads = grind (arith, common_steps) in
    rw (← c.self.view_is)
    (ready g.R.Root.view c.args.key c.args.threads c.args.keys _ c.self.invariant opened number all among room)
