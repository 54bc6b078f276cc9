use Rattle.std.proofs.Common.{rules, ◌≡◌, ℕ, ◌<◌, length, vec_len, refl, arith}
use Rattle.lot_rights.specs.Shown.{PassShown, RootShown}
use Rattle.lot_rights.proofs.Dealt.{dealt_last, one_back}
use Rattle.base_trials.specs.declared.rights.tally.Tally.{Tally}
use Rattle.lot_words.specs.declared.views.LockPassView.{LockPassView}
use Rattle.lot_words.specs.declared.views.LockRootView.{LockRootView}
use Rattle.lot_words.specs.Shown.{pass_at, root_at}
use Rattle.base_trials.proofs.LockSchedules.{fresh_calm}
use Rattle.base_trials.proofs.Dealt.{all_dealt, all_back, all_here, all_idle}
use Rattle.base_trials.proofs.rights.locks.the_last_of_256_threads_gets_a_lock.Goals as goal

pub visit-last-requires : goal.visit-last-requires
visit-last-requires g c =
    let z = c.in-Ok.words.table in
    let xs = c.in_ok-values.values.items in
    let len : length c.in-Ok.passes.items ≡ 256 = search rules in
    let two : length xs ≡ 2 = search rules in
    fresh_calm z xs two 255 c.take_last-last.result
    (dealt_last (pass_at z xs) 255 c.in-Ok.passes.items c.take_last-last.new.self.items c.take_last-last.result
    c.take_last-last.ensures.items (len, c.in-Ok.ensures.passes.1)).0

pub close_soundly-values-requires-clause-table : goal.close_soundly-values-requires-clause-table
close_soundly-values-requires-clause-table g c =
    let n : vec_len c.in_ok-values.values ≡ 2 = search rules in
    let few : length c.in-Ok.roots.items ≡ 2 = search rules in
    let each = λ (k : ℕ) (near : k < 2). c.in-Ok.ensures.roots.1 k (omega (arith, n)) in
    let z = c.in-Ok.words.table in
    let xs = c.in_ok-values.values.items in
    let len : length c.in-Ok.passes.items ≡ 256 = search rules in
    let rest = dealt_last (pass_at z xs) 255 c.in-Ok.passes.items c.take_last-last.new.self.items c.take_last-last.result
    c.take_last-last.ensures.items (len, c.in-Ok.ensures.passes.1) in (
      all_here z xs 255 c.take_last-last.new.self.items c.push_reserved.new.self.items c.visit-last.result rest.1
          c.push_reserved.ensures.items c.visit-last.ensures,
      all_dealt (root_at z) 2 c.in-Ok.roots.items (few, each) (λ (q : RootShown LockRootView). q.table ≡ z) (λ k _. refl),
    )

pub close_soundly-values-requires-clause-idle : goal.close_soundly-values-requires-clause-idle
close_soundly-values-requires-clause-idle g c =
    let z = c.in-Ok.words.table in
    let xs = c.in_ok-values.values.items in
    let len : length c.in-Ok.passes.items ≡ 256 = search rules in
    let rest = dealt_last (pass_at z xs) 255 c.in-Ok.passes.items c.take_last-last.new.self.items c.take_last-last.result
    c.take_last-last.ensures.items (len, c.in-Ok.ensures.passes.1) in
    all_idle z xs 255 c.take_last-last.new.self.items c.push_reserved.new.self.items c.visit-last.result rest.1
    c.push_reserved.ensures.items c.visit-last.ensures

pub close_soundly-values-requires-clause-passes : goal.close_soundly-values-requires-clause-passes
close_soundly-values-requires-clause-passes g c =
    let thread = λ (p : PassShown (LockPassView Tally)). p.thread in
    let z = c.in-Ok.words.table in
    let xs = c.in_ok-values.values.items in
    let len : length c.in-Ok.passes.items ≡ 256 = search rules in
    let rest = dealt_last (pass_at z xs) 255 c.in-Ok.passes.items c.take_last-last.new.self.items c.take_last-last.result
    c.take_last-last.ensures.items (len, c.in-Ok.ensures.passes.1) in
    let all = one_back thread 255 c.take_last-last.new.self.items c.push_reserved.new.self.items c.visit-last.result
    c.push_reserved.ensures.items c.visit-last.ensures.0.1
    (all_back (pass_at z xs) 255 c.take_last-last.new.self.items rest.1 thread (λ k. refl)) in
    λ t near. all t (omega (arith, near, c.in-Ok.ensures.size.0))

pub close_soundly-values-requires-clause-roots : goal.close_soundly-values-requires-clause-roots
close_soundly-values-requires-clause-roots g c =
    let key = λ (q : RootShown LockRootView). q.key in
    let n : vec_len c.in_ok-values.values ≡ 2 = search rules in
    let few : length c.in-Ok.roots.items ≡ 2 = search rules in
    let each = λ (k : ℕ) (near : k < 2). c.in-Ok.ensures.roots.1 k (omega (arith, n)) in
    let all = all_back (root_at c.in-Ok.words.table) 2 c.in-Ok.roots.items (few, each) key (λ k. refl) in
    λ l near. all l (omega (arith, near, c.in-Ok.ensures.size.1, n))
