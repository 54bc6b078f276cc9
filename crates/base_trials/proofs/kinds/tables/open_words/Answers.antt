use Rattle.std.proofs.Common.{◌≡◌, ◌∙◌, length, vec_len, rules, ap, arith, Some}
use Rattle.std.proofs.lemmas.Option.{slice_get_within, get_or_from_slice_get}
use Rattle.lot_rights.specs.Shown.{root_at_table}
use Rattle.lot_rights.specs.Start.{new_root}
use Rattle.lot_whole.specs.Family.{LotSize}
use Rattle.lot_whole.specs.Lot.{fresh_root}
use Rattle.base_trials.specs.declared.rights.tally.Tally.{Tally}
use Rattle.base_trials.specs.Opened.{fresh_at}
use Rattle.base_trials.proofs.Opened.{opened_size}
use Rattle.base_trials.proofs.kinds.tables.open_words.Goals as goal

pub open-requires-clause-keep : goal.open-requires-clause-keep
open-requires-clause-keep c = λ k v at.
    let zero = c.in-Ok.ensures.zero k v (slice_get_within _ k v at) in
    let same = ap (λ (x : Tally). x.total) (get_or_from_slice_get _ k v v at) in
    omega (arith, zero, same)

pub returns-in-Ok-open-clause-passes : goal.returns-in-Ok-open-clause-passes
returns-in-Ok-open-clause-passes c =
    let opened = c.in-Ok-open.opened in
    let size = opened_size opened.0.size c.args.locks c.args.conds _ _ c.in-Ok-open.ensures.size c.in-Ok.ensures.len c.new.ensures.items in
    let long : length opened.1.items ≡ vec_len opened.1 = search rules in
    record {
      values = opened.0.values;
      long = long ∙ c.in-Ok-open.ensures.passes.0;
      each = λ t near. c.in-Ok-open.ensures.passes.1 t near ∙ ap (λ (z : LotSize). Some (fresh_at opened.0.table z opened.0.values t)) size;
    }

pub returns-in-Ok-open-clause-roots : goal.returns-in-Ok-open-clause-roots
returns-in-Ok-open-clause-roots c =
    let opened = c.in-Ok-open.opened in
    let size = opened_size opened.0.size c.args.locks c.args.conds _ _ c.in-Ok-open.ensures.size c.in-Ok.ensures.len c.new.ensures.items in
    let long : length opened.2.items ≡ vec_len opened.2 = search rules in
    let none : vec_len c.new.result ≡ 0 = search rules in
    record {
      long = omega (arith, long, c.in-Ok-open.ensures.roots.0, c.in-Ok.ensures.len, none);
      each = λ k near. c.in-Ok-open.ensures.roots.1 k (omega (arith, near, c.in-Ok.ensures.len, none))
          ∙ ap (λ (z : LotSize). Some (root_at_table opened.0.table (new_root (fresh_root z) k))) size;
    }
