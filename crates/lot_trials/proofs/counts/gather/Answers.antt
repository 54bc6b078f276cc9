use Rattle.std.proofs.Common.{◌≡◌, sym, subst, ◌∙◌, arith}
use Rattle.std.specs.List.{All, Any}
use Rattle.std.proofs.lemmas.List.Elements.{All-push}
use Rattle.lot_sync.specs.Lot.{PassView, OwnsNone}
use Rattle.lot_sync.proofs.Turns.{all_threads}
use Rattle.lot_trials.proofs.counts.gather.Goals as goal

pub loop-thread-preserved : goal.loop-thread-preserved
loop-thread-preserved g c =
    let inv = c.loop-thread.invariant in
    record {
      long = omega (arith, c.push_reserved.ensures.len);
      room = omega (arith, c.push_reserved.ensures.capacity);
      free =
          subst (All OwnsNone) (sym c.push_reserved.ensures.items)
          (All-push OwnsNone c.loop-thread.passes.items c.next_pass-pass.result inv.free c.next_pass-pass.ensures.free);
      all = λ t near. subst (Any (λ (p : PassView _). p.thread ≡ t)) (sym c.push_reserved.ensures.items)
          (all_threads c.loop-thread.passes.items c.next_pass-pass.result c.loop-thread.thread
          c.next_pass-pass.ensures.thread inv.all t near);
      same = c.next_pass-pass.ensures.same ∙ inv.same;
    }

pub returns-clause-all : goal.returns-clause-all
returns-clause-all g c = λ t near. c.loop-thread.invariant.all t (omega (arith, c.loop-thread-test.false))
