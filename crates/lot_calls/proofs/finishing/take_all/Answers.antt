use Rattle.std.proofs.Common.{subst, sym, ◌∙◌, arith}
use Rattle.std.specs.List.{All}
use Rattle.std.proofs.lemmas.List.Elements.{All-push}
use Rattle.lot_sync.proofs.Turns.{more_are_there}
use Rattle.lot_calls.specs.Finished.{IsReady}
use Rattle.lot_calls.proofs.Taking.{one_more_in_order}
use Rattle.lot_calls.proofs.finishing.take_all.Goals as goal

pub loop-thread-preserved : goal.loop-thread-preserved
loop-thread-preserved g c =
    let inv = c.loop-thread.invariant in
    let ready = subst (λ l. IsReady g.V.Keeps g.N.LotName.values l c.take_pass-pass.result) inv.same c.take_pass-pass.ensures.ready in
    record {
      long = omega (arith, c.push_reserved.ensures.len);
      near = (let e = c.threads-thread-end.ensures in let h = c.loop-thread-test.true in omega (arith, e, h));
      room = omega (arith, c.push_reserved.ensures.capacity);
      ready = subst (All (IsReady g.V.Keeps g.N.LotName.values c.args.lot.now)) (sym c.push_reserved.ensures.items)
          (All-push (IsReady g.V.Keeps g.N.LotName.values c.args.lot.now) c.loop-thread.passes.items
          c.take_pass-pass.result inv.ready ready);
      order =
          one_more_in_order c.loop-thread.passes.items c.push_reserved.new.self.items c.take_pass-pass.result c.loop-thread.thread
          (omega (arith, inv.long, c.loop-thread.passes.ok.0)) c.push_reserved.ensures.items c.take_pass-pass.ensures.thread inv.order;
      all =
          more_are_there c.loop-thread.passes.items c.push_reserved.new.self.items c.take_pass-pass.result c.loop-thread.thread
          c.push_reserved.ensures.items c.take_pass-pass.ensures.thread inv.all;
      same = c.take_pass-pass.ensures.same ∙ inv.same;
    }
