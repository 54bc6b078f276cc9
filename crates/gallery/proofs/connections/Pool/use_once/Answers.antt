use Rattle.std.proofs.Common.{refl, arith}
use Rattle.gallery.proofs.Leasing.{holds_lease, free_of_lease}
use Rattle.gallery.proofs.connections.Pool.use_once.Goals as goal

pub give_back-requires-clause-holds : goal.give_back-requires-clause-holds
give_back-requires-clause-holds g c κs within =
    let shape = c.take_out-pass.ensures.shape in
    let sizes = c.args.self.now.sizes in
    holds_lease c.args.pass c.take_out-pass.result.0 2 c.take_out-pass.result.1.permit c.take_out-pass.result.1.connection _
    c.take_out-pass.ensures.leases refl
    (omega (arith, shape.permits, sizes.0, sizes.1, sizes.2)) (omega (arith, shape.owns, sizes.0, c.take_out-pass.ensures.locks))

pub returns : goal.returns
returns g c =
    let shape = c.take_out-pass.ensures.shape in
    let sizes = c.args.self.now.sizes in
    free_of_lease c.args.pass c.take_out-pass.result.0 2 c.take_out-pass.result.1.permit c.take_out-pass.result.1.connection _
    c.take_out-pass.ensures.leases refl
    (omega (arith, shape.permits, sizes.0, sizes.1, sizes.2)) c.give_back.result c.requires.free c.give_back.ensures
