use Rattle.std.proofs.Common.{subst, sym, ◌∙◌, arith}
use Rattle.std.specs.List.{All}
use Rattle.std.proofs.lemmas.List.Elements.{All-push}
use Rattle.lot_calls.specs.Finished.{IsReady}
use Rattle.lot_calls.proofs.workers.register_all.Goals as goal

pub loop-preserved : goal.loop-preserved
loop-preserved g c =
    let inv = c.loop.invariant in
    let got = c.in-Ok.ensures in
    let Ready = IsReady g.V.Keeps g.N.LotName.values c.args.lot.now in
    record {
      long = omega (arith, c.push_reserved.ensures.len, inv.long);
      near = (let e = c.threads-end.ensures in let h = c.loop-test.true in omega (arith, e, h));
      capacity = c.push_reserved.ensures.capacity ∙ inv.capacity;
      room = omega (arith, c.push_reserved.ensures.capacity, inv.room);
      ready = subst (All Ready) (sym c.push_reserved.ensures.items)
          (All-push Ready c.loop.passes.items c.in-Ok.pass inv.ready (record {
            is_thread = got.thread;
            free = got.free;
            rests = got.rests;
            shape = got.shape;
            grown = got.grown;
          }));
    }
