use Rattle.std.proofs.Common.{rules, ◌≡◌, ◌+◌, length, refl, sym, subst, arith}
use Rattle.std.specs.List.{Any}
use Rattle.std.proofs.lemmas.List.Quantifiers.{Any-push}
use Rattle.lot_rights.specs.Shown.{PassShown, RootShown}
use Rattle.lot_rights.specs.Start.{pass_at, root_at}
use Rattle.lot_rights.proofs.Dealt.{dealt_last}
use Rattle.lot_conds.specs.declared.views.CondPassView.{CondPassView}
use Rattle.lot_conds.specs.declared.views.CondRootView.{CondRootView}
use Rattle.lot_conds.specs.Rule.{meaning}
use Rattle.base_trials.specs.CondSchedules.{IsFree}
use Rattle.base_trials.proofs.Dealt.{three_taken, three_back}
use Rattle.base_trials.proofs.CondSchedules.{fresh_is_free, fresh_is_empty}
use Rattle.base_trials.proofs.rights.conds.waits_and_notifications.Goals as goal

pub in_turn-zero-requires : goal.in_turn-zero-requires
in_turn-zero-requires g c =
    let words = c.in_ok-words.words in
    let right = pass_at (meaning words.size) words.table in
    let len : length c.in_ok-words.passes.items ≡ 3 = search rules in
    let free = three_taken right (IsFree words.table) (fresh_is_free words.size words.table) _ _ _ _ _ _ _
    c.take_three-zero.ensures.taken refl refl (len, c.in_ok-words.ensures.passes.1) in
    let lone : length c.in_ok-words.roots.items ≡ 1 = search rules in
    let root = dealt_last (λ k. root_at (meaning words.size) words.table (1 + k)) 0 _ _ _ c.take_last-root.ensures.items
    (lone, c.in_ok-words.ensures.roots.1) in
    (free.0, free.1, free.2, fresh_is_empty words.size words.table _ root.0)

pub close-requires-clause-passes : goal.close-requires-clause-passes
close-requires-clause-passes g c =
    let three = three_back (λ (p : PassShown CondPassView). p.thread) _ _ _ _ _ c.push_reserved.ensures.items c.push_reserved-2.ensures.items
    c.in_turn-zero.ensures.0.1 c.in_turn-zero.ensures.1.1 _ _ c.push_reserved-3.ensures.items
    c.in_turn-zero.ensures.2.1 in
    λ t near. three t (omega (arith, near, c.in_ok-words.ensures.size.0))

pub close-requires-clause-roots : goal.close-requires-clause-roots
close-requires-clause-roots g c d among =
    let mine = λ (q : RootShown CondRootView). q.key ≡ d in
    let key : c.in_turn-zero.result.3.key ≡ d =
    omega (arith, c.in_turn-zero.ensures.3.1, among.0, among.1, c.in_ok-words.ensures.size.1, c.in_ok-words.ensures.size.2) in
    subst (Any mine) (sym c.push_reserved-4.ensures.items) (Any-push mine c.take_last-root.new.self.items c.in_turn-zero.result.3 key)
