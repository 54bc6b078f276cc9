use Rattle.std.proofs.Common.{rules, ◌≡◌, ◌+◌, length, refl, sym, ap, subst, ◌∙◌, arith}
use Rattle.std.specs.List.{Any}
use Rattle.std.proofs.lemmas.List.Quantifiers.{Any-push}
use Rattle.lot_rights.specs.Shown.{PassShown, RootShown}
use Rattle.lot_rights.specs.Start.{pass_at, root_at}
use Rattle.lot_rights.proofs.Dealt.{dealt_last}
use Rattle.lot_sems.specs.declared.views.SemPassView.{SemPassView}
use Rattle.lot_sems.specs.declared.views.SemRootView.{SemRootView}
use Rattle.lot_sems.specs.World.{Numbers}
use Rattle.lot_sems.specs.Rule.{meaning}
use Rattle.base_trials.specs.SemSchedules.{IsFree}
use Rattle.base_trials.proofs.Dealt.{three_taken, three_back}
use Rattle.base_trials.proofs.SemSchedules.{opened_one, fresh_is_free, fresh_is_empty}
use Rattle.base_trials.proofs.rights.sems.a_permit_goes_round.Goals as goal

pub one_permit-rights-requires : goal.one_permit-rights-requires
one_permit-rights-requires g c =
    let words = c.in_ok-words.words in
    let given : length c.in_ok-permits.permits.items ≡ 1 = sym c.in_ok-permits.permits.ok.0 ∙ c.in_ok-permits.ensures.len in
    let is_one = opened_one words.size 3 c.in_ok-permits.permits.items c.in_ok-words.ensures.size given in
    let len : length c.in_ok-words.passes.items ≡ 3 = search rules in
    let free = three_taken (pass_at (meaning words.size) words.table) (IsFree words.table) (fresh_is_free words.size words.table is_one)
    _ _ _ _ _ _ _ c.take_three-zero.ensures.taken refl refl
    (len, c.in_ok-words.ensures.passes.1) in
    let lone : length c.in_ok-words.roots.items ≡ 1 = sym c.in_ok-words.roots.ok.0 ∙ (c.in_ok-words.ensures.roots.0 ∙ c.in_ok-permits.ensures.len) in
    let root = dealt_last (λ k. root_at (meaning words.size) words.table (1 + k)) 0 _ _ _ c.take_last-root.ensures.items
    (lone, λ k h. c.in_ok-words.ensures.roots.1 k (omega (arith, h, c.in_ok-permits.ensures.len))) in
    (free.0, free.1, free.2, fresh_is_empty words.size words.table is_one _ root.0)

pub close_soundly-requires-clause-passes : goal.close_soundly-requires-clause-passes
close_soundly-requires-clause-passes g c =
    let back = three_back (λ (p : PassShown SemPassView). p.thread) _ _ _ _ _ c.push_reserved.ensures.items c.push_reserved-2.ensures.items
    c.late_release-zero.ensures.0.0.1 c.late_release-zero.ensures.1.0.1 _ _ c.push_reserved-3.ensures.items
    c.late_release-zero.ensures.2.0.1 in
    let three : c.in_ok-words.words.size.threads ≡ 3 = ap (λ (z : Numbers). z.threads) c.in_ok-words.ensures.size in
    λ t near. back t (omega (arith, near, three))

pub close_soundly-requires-clause-roots : goal.close_soundly-requires-clause-roots
close_soundly-requires-clause-roots g c d among =
    let mine = λ (q : RootShown SemRootView). q.key ≡ d in
    let is_one = opened_one c.in_ok-words.words.size 3 c.in_ok-permits.permits.items c.in_ok-words.ensures.size (sym c.in_ok-permits.permits.ok.0
    ∙ c.in_ok-permits.ensures.len) in
    let key : c.late_release-zero.result.3.key ≡ d =
    omega (arith, c.late_release-zero.ensures.3.1, among.0, among.1, is_one.0, is_one.1) in
    subst (Any mine) (sym c.push_reserved-4.ensures.items) (Any-push mine c.take_last-root.new.self.items c.late_release-zero.result.3 key)
