use Rattle.std.proofs.Common.{◌≡◌, ap, subst, arith, refl}
use Rattle.lot_sync.specs.Lot.{PassView}
use Rattle.lot_calls.proofs.Nesting.{back_first, visits_both, free_after_both}
use Rattle.gallery.specs.declared.dinner.Fork.{Fork}
use Rattle.gallery.specs.Dinner.{low_of, high_of, OneMore}
use Rattle.gallery.proofs.Eating.{counted, ate_again}
use Rattle.gallery.proofs.dinner.eat.Goals as goal

pub unlock-pass-requires-2-clause-back : goal.unlock-pass-requires-2-clause-back
unlock-pass-requires-2-clause-back g c κs within =
    let p = c.args.pass in
    let low = c.forks_of-low.result.0 in
    let high = c.forks_of-low.result.1 in
    let rises = c.forks_of-low.ensures.rises.0 in
    let one : OneMore p.thread c.lock-pass.result.1.value c.count.new.fork =
    subst (λ t. OneMore t c.lock-pass.result.1.value c.count.new.fork) c.thread-seat.ensures
    (subst (λ v. OneMore c.thread-seat.result v c.count.new.fork) c.value_mut.ensures.value c.count.ensures) in
    let two : OneMore p.thread c.lock-pass-2.result.1.value c.count-2.new.fork =
    subst (λ t. OneMore t c.lock-pass-2.result.1.value c.count-2.new.fork) c.thread-seat.ensures
    (subst (λ v. OneMore c.thread-seat.result v c.count-2.new.fork) c.value_mut-2.ensures.value c.count-2.ensures) in
    back_first _ p c.lock-pass.result.0 c.lock-pass-2.result.0 c.lock-pass.result.1 c.lock-pass-2.result.1 low high
    (λ e. omega (arith, rises, e)) (c.requires.free.no_lock low) (c.requires.free.no_lock high) c.lock-pass.ensures.gets
    c.lock-pass-2.ensures.gets c.count-2.new.fork (counted _ refl (λ k f places. places) (λ u v. tt) high p.thread _ _ two)
    c.unlock-pass.result.0 c.unlock-pass.ensures.pass c.count.new.fork
    (counted _ refl (λ k f places. places) (λ u v. tt) low p.thread _ _ one)

pub returns : goal.returns
returns g c =
    let p = c.args.pass in
    let low = c.forks_of-low.result.0 in
    let high = c.forks_of-low.result.1 in
    let rises = c.forks_of-low.ensures.rises in
    let forks = c.requires.forks in
    let one : OneMore p.thread c.lock-pass.result.1.value c.count.new.fork =
    subst (λ t. OneMore t c.lock-pass.result.1.value c.count.new.fork) c.thread-seat.ensures
    (subst (λ v. OneMore c.thread-seat.result v c.count.new.fork) c.value_mut.ensures.value c.count.ensures) in
    let two : OneMore p.thread c.lock-pass-2.result.1.value c.count-2.new.fork =
    subst (λ t. OneMore t c.lock-pass-2.result.1.value c.count-2.new.fork) c.thread-seat.ensures
    (subst (λ v. OneMore c.thread-seat.result v c.count-2.new.fork) c.value_mut-2.ensures.value c.count-2.ensures) in
    let both = visits_both _ p c.lock-pass.result.0 c.lock-pass-2.result.0 c.lock-pass.result.1 c.lock-pass-2.result.1 low high
    (λ e. omega (arith, rises.0, e)) (c.requires.free.no_lock low) (c.requires.free.no_lock high) c.lock-pass.ensures.gets
    c.lock-pass-2.ensures.gets c.count-2.new.fork (counted _ refl (λ k f places. places) (λ u v. tt) high p.thread _ _ two)
    c.unlock-pass.result.0 c.unlock-pass.ensures.pass c.count.new.fork
    (counted _ refl (λ k f places. places) (λ u v. tt) low p.thread _ _ one) c.unlock-pass-2.result.0 c.unlock-pass-2.ensures.pass
    c.unlock-pass.ensures.seen c.unlock-pass-2.ensures.seen c.args.lot.now (omega (arith, rises.0, rises.1, forks))
    (omega (arith, rises.1, forks)) c.unlock-pass-2.ensures.shape in
    let is = c.forks_of-low.ensures.forks in
    record {
      back = (
        ap (λ (z : PassView Fork). z.thread) both.after_is,
        free_after_both p c.unlock-pass-2.result.0 _ both.after_is c.requires.free,
      );
      even =
          ate_again _ refl p c.unlock-pass-2.result.0 low high _ _ _ _ both
          (subst (λ t. low ≡ low_of t) c.thread-seat.ensures (ap (λ r. r.0) is))
          (subst (λ t. high ≡ high_of t) c.thread-seat.ensures (ap (λ r. r.1) is)) one two c.requires.even;
    }
