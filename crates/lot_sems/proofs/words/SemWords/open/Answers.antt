use Rattle.std.proofs.Common.{◌≡◌, ◌+◌, ◌<◌, ℕ, [], length, slice_get, Some, sym, ap, subst, ◌∙◌, arith}
use Rattle.std.specs.Vec.{vec_len}
use Rattle.lot_rights.specs.Layout.{word_count}
use Rattle.lot_rights.specs.Start.{OpensWell, Begins, pass_at, root_at}
use Rattle.lot_sems.specs.World.{Numbers, numbers}
use Rattle.lot_sems.specs.Opening.{opening_words}
use Rattle.lot_sems.specs.Rule.{meaning}
use Rattle.lot_sems.proofs.Opens.{opens_well, opening_long}
use Rattle.lot_sems.proofs.words.SemWords.open.Goals as goal

pub open_with-requires-clause-wide : goal.open_with-requires-clause-wide
open_with-requires-clause-wide c =
    let permits = c.args.permits.items in
    let size : Numbers = record { threads = c.args.threads; first_sem = c.args.first_sem; permits = permits } in
    let keys : c.len-keys.result ≡ length permits = c.len-keys.ensures ∙ c.args.permits.ok.0 in
    ap (λ ws. length {A = ℕ} ws) (c.as_slice.ensures.value ∙ c.in-Ok.ensures.words)
    ∙ (opening_long size ∙ ap (λ n. word_count c.args.threads (c.args.first_sem + n)) (sym keys))

pub open_with-requires-clause-opens : goal.open_with-requires-clause-opens
open_with-requires-clause-opens c =
    let permits = c.args.permits.items in
    let size : Numbers = record { threads = c.args.threads; first_sem = c.args.first_sem; permits = permits } in
    let start : numbers c.new-start.result ≡ size =
    (λ i. record {
      threads = c.new-start.ensures.size.0 i;
      first_sem = c.new-start.ensures.size.1 i;
      permits = (c.new-start.ensures.permits i).items;
    }) in
    let well = opens_well size (λ i h. c.in-Ok.ensures.small i (omega (arith, h, c.args.permits.ok.0))) in
    subst (OpensWell (meaning (numbers c.new-start.result)) c.as_slice.result.now) (sym c.new.ensures.items)
    (subst (λ ws. OpensWell (meaning (numbers c.new-start.result)) ws []) (sym (c.as_slice.ensures.value ∙ c.in-Ok.ensures.words))
    (subst (λ z. OpensWell (meaning z) (opening_words size) []) (sym start) well))

pub returns-in-Ok-open_with-clause-size : goal.returns-in-Ok-open_with-clause-size
returns-in-Ok-open_with-clause-size c =
    ap numbers c.in-Ok-open_with.ensures.table.2
    ∙ (λ i. record {
      threads = c.new-start.ensures.size.0 i;
      first_sem = c.new-start.ensures.size.1 i;
      permits = (c.new-start.ensures.permits i).items;
    })

pub returns-in-Ok-open_with-clause-passes : goal.returns-in-Ok-open_with-clause-passes
returns-in-Ok-open_with-clause-passes c =
    subst (λ z. (vec_len c.in-Ok-open_with.passes ≡ c.args.threads) × ((t : ℕ) → t < c.args.threads
    → slice_get c.in-Ok-open_with.passes.items t ≡ Some (pass_at (meaning z) c.in-Ok-open_with.words.table t)))
    (sym (ap numbers c.in-Ok-open_with.ensures.table.2)) c.in-Ok-open_with.ensures.passes

pub returns-in-Ok-open_with-clause-roots : goal.returns-in-Ok-open_with-clause-roots
returns-in-Ok-open_with-clause-roots c =
    let start = sym (ap numbers c.in-Ok-open_with.ensures.table.2) in
    subst (λ n. (vec_len c.in-Ok-open_with.roots ≡ n) × ((i : ℕ) → i < n
    → slice_get c.in-Ok-open_with.roots.items i
    ≡ Some (root_at (meaning (numbers c.in-Ok-open_with.words.key)) c.in-Ok-open_with.words.table (c.args.first_sem + i))))
    c.len-keys.ensures
    (subst (λ z. (vec_len c.in-Ok-open_with.roots ≡ c.len-keys.result) × ((i : ℕ) → i < c.len-keys.result
    → slice_get c.in-Ok-open_with.roots.items i ≡ Some (root_at (meaning z) c.in-Ok-open_with.words.table (c.args.first_sem + i)))) start
    c.in-Ok-open_with.ensures.roots)

pub returns-in-Ok-open_with-clause-rule : goal.returns-in-Ok-open_with-clause-rule
returns-in-Ok-open_with-clause-rule c =
    let size : Numbers = record { threads = c.args.threads; first_sem = c.args.first_sem; permits = c.args.permits.items } in
    let now : Numbers = numbers c.in-Ok-open_with.words.key in
    let same : now ≡ size = ap numbers c.in-Ok-open_with.ensures.table.2
    ∙ (λ i. record {
      threads = c.new-start.ensures.size.0 i;
      first_sem = c.new-start.ensures.size.1 i;
      permits = (c.new-start.ensures.permits i).items;
    }) in
    subst (λ ws. Begins (meaning now) ws []) (c.as_slice.ensures.value ∙ (c.in-Ok.ensures.words ∙ sym (ap opening_words same)))
    (subst (Begins (meaning now) c.as_slice.result.now) c.new.ensures.items c.in-Ok-open_with.ensures.rule)
