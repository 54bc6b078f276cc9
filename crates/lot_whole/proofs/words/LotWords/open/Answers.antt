use Rattle.std.proofs.Common.{◌≡◌, ℕ, ◌+◌, ◌<◌, slice_get, slice_index_or, map, Some, length, sym, ap, subst, ◌∙◌}
use Rattle.std.proofs.Common.{arith, zero-add}
use Rattle.std.specs.Vec.{vec_len}
use Rattle.lot_rights.specs.Layout.{word_count}
use Rattle.lot_rights.specs.Start.{OpensWell, Begins, root_at}
use Rattle.lot_sems.specs.World.{Numbers}
use Rattle.lot_sems.specs.Opening.{opening_words}
use Rattle.lot_sems.proofs.Opens.{opening_long}
use Rattle.std.specs.List.{All}
use Rattle.std.specs.Option.{IsSome}
use Rattle.lot_words.proofs.Shelves.{all_some_filled, same_values_back}
use Rattle.lot_whole.specs.Family.{sem_size, key_count}
use Rattle.lot_whole.specs.Rule.{size_of, meaning}
use Rattle.lot_whole.proofs.Opens.{opens_well}
use Rattle.lot_whole.proofs.words.LotWords.open.Goals as goal

pub open_with-requires-clause-wide : goal.open_with-requires-clause-wide
open_with-requires-clause-wide g c =
    let first_sem = c.len-locks.result + c.args.conds in
    let size : Numbers = record { threads = c.args.threads; first_sem = first_sem; permits = c.args.permits.items } in
    let keys : c.len.result ≡ length c.args.permits.items = c.len.ensures ∙ c.args.permits.ok.0 in
    ap (λ ws. length {A = ℕ} ws) (c.as_slice.ensures.value ∙ c.in-Ok.ensures.words)
    ∙ (opening_long size ∙ ap (λ n. word_count c.args.threads n)
    (ap (λ n. first_sem + n) (sym keys) ∙ sym (zero-add (first_sem + c.len.result))))

pub open_with-requires-clause-opens : goal.open_with-requires-clause-opens
open_with-requires-clause-opens g c =
    let start = c.new-start.result in
    let z = size_of start in
    let xs = start.values.value.items in
    let counts = c.new-start.ensures.counts in
    let values : xs ≡ c.args.values.items = ap (λ v. v.items) c.new-start.ensures.values in
    let permits : c.args.permits.items ≡ z.permits = ap (λ v. v.items) (sym c.new-start.ensures.permits) in
    let len : c.args.permits.len ≡ length z.permits = c.args.permits.ok.0 ∙ ap (λ ps. length {A = ℕ} ps) permits in
    let threads : c.args.threads ≡ z.threads = sym counts.0 in
    let locks : c.len-locks.result ≡ z.locks = c.len-locks.ensures ∙ sym counts.1 in
    let conds : c.args.conds ≡ z.conds = sym counts.2 in
    let keys : c.len-locks.result + c.args.conds + c.len.result ≡ key_count z = (λ i. locks i + conds i + (c.len.ensures ∙ len) i) in
    let words : c.as_slice.result.now ≡ opening_words (sem_size z) = c.as_slice.ensures.value
    ∙ (c.in-Ok.ensures.words ∙ (λ i. opening_words (record { threads = threads i; first_sem = locks i + conds i; permits = permits i }))) in
    let keep = subst (λ vs. (k : ℕ) (y : g.row.V.Denot) → slice_get vs k ≡ Some y → g.V.Keeps.keeps k y) (sym values) c.requires.keep in
    let long : z.locks ≡ length xs = counts.1 ∙ (c.args.values.ok.0 ∙ ap (λ vs. length {A = g.row.V.Denot} vs) (sym values)) in
    let small = subst (λ ps. (i : ℕ) → i < length ps → slice_index_or ps i 0 < 4294967296) permits
    (λ i h. c.in-Ok.ensures.small i (omega (arith, h, c.args.permits.ok.0))) in
    let well = opens_well g.V.Keeps z xs (omega (arith, counts.0, c.requires.limits))
    (omega (arith, counts.1, c.requires.limits)) long keep small in
    subst (λ ws. OpensWell (meaning g.V.Keeps start) ws c.shelve.new.slots.items) (sym words)
    (subst (OpensWell (meaning g.V.Keeps start) (opening_words (sem_size z)))
    (ap (map (λ (x : g.row.V.Denot). Some x)) values ∙ sym c.shelve.ensures.slots) well)

pub returns-in-Ok-open_with-clause-roots : goal.returns-in-Ok-open_with-clause-roots
returns-in-Ok-open_with-clause-roots g c =
    let made = c.in-Ok-open_with.ensures in
    let keys : c.len-locks.result + c.args.conds + c.len.result ≡ vec_len c.args.values + c.args.conds + vec_len c.args.permits =
    (λ i. c.len-locks.ensures i + c.args.conds + c.len.ensures i) in (
      made.roots.0 ∙ keys,
      λ k near. made.roots.1 k (subst (λ n. k < n) (sym keys) near)
          ∙ (λ i. Some (root_at (meaning g.V.Keeps (sym made.table.2 i)) c.in-Ok-open_with.words.table (zero-add k i))),
    )

pub returns-in-Ok-open_with-clause-rule : goal.returns-in-Ok-open_with-clause-rule
returns-in-Ok-open_with-clause-rule g c =
    let key = c.in-Ok-open_with.words.key in
    let is = c.in-Ok-open_with.ensures.table.2 in
    let z = size_of key in
    let counts = c.new-start.ensures.counts in
    let values : c.args.values.items ≡ key.values.value.items =
    sym (ap (λ s. s.values.value.items) is ∙ ap (λ v. v.items) c.new-start.ensures.values) in
    let permits : c.args.permits.items ≡ z.permits =
    sym (ap (λ s. s.permits.value.items) is ∙ ap (λ v. v.items) c.new-start.ensures.permits) in
    let len : c.args.permits.len ≡ length z.permits = c.args.permits.ok.0 ∙ ap (λ ps. length {A = ℕ} ps) permits in
    let threads : c.args.threads ≡ z.threads = sym (ap (λ s. s.threads) is ∙ counts.0) in
    let locks : c.len-locks.result ≡ z.locks = c.len-locks.ensures ∙ sym (ap (λ s. s.locks) is ∙ counts.1) in
    let conds : c.args.conds ≡ z.conds = sym (ap (λ s. s.conds) is ∙ counts.2) in
    let keys : c.len-locks.result + c.args.conds + c.len.result ≡ key_count z = (λ i. locks i + conds i + (c.len.ensures ∙ len) i) in
    let words : c.as_slice.result.now ≡ opening_words (sem_size z) = c.as_slice.ensures.value
    ∙ (c.in-Ok.ensures.words ∙ (λ i. opening_words (record { threads = threads i; first_sem = locks i + conds i; permits = permits i }))) in
    let slots : c.shelve.new.slots.items ≡ map (λ (x : g.row.V.Denot). Some x) key.values.value.items = c.shelve.ensures.slots
    ∙ ap (map (λ (x : g.row.V.Denot). Some x)) values in
    subst (λ ys. Begins (meaning g.V.Keeps key) (opening_words (sem_size z)) ys) slots
    (subst (λ ws. Begins (meaning g.V.Keeps key) ws c.shelve.new.slots.items) words c.in-Ok-open_with.ensures.rule)

pub unshelve-requires-clause-full : goal.unshelve-requires-clause-full
unshelve-requires-clause-full g c =
    subst (All IsSome) (sym (c.in-Err.ensures.back ∙ c.shelve.ensures.slots)) (all_some_filled c.args.values.items)

pub returns-clause-back : goal.returns-clause-back
returns-clause-back g c =
    same_values_back c.unshelve.result.items c.args.values.items
    (c.unshelve.ensures ∙ (c.in-Err.ensures.back ∙ c.shelve.ensures.slots))
