use Rattle.std.proofs.Common.{◌≡◌, ℕ, ◌+◌, ◌<◌, ◌≤◌, List, slice_get, replicate, map, Some, length, sym, ap, subst, ◌∙◌, arith, zero-add}
use Rattle.std.proofs.Common.{rules}
use Rattle.std.proofs.lemmas.List.{length-map}
use Rattle.std.specs.Vec.{vec_len, vec_capacity}
use Rattle.lot_core.specs.declared.state.TheConstants.{MAX_THREADS}
use Rattle.lot_rights.specs.declared.layout.TheConstants.{MOST_KEYS}
use Rattle.lot_rights.specs.Layout.{word_count}
use Rattle.lot_rights.specs.Start.{OpensWell, Begins}
use Rattle.lot_words.specs.Rule.{meaning}
use Rattle.std.specs.List.{All}
use Rattle.std.specs.Option.{IsSome}
use Rattle.lot_words.specs.Shown.{pass_at, root_at}
use Rattle.lot_words.proofs.Opens.{opens_well}
use Rattle.lot_words.proofs.Shelves.{all_some_filled, same_values_back}
use Rattle.lot_words.proofs.words.LockWords.open.Goals as goal

pub open-requires-clause-opens : goal.open-requires-clause-opens
open-requires-clause-opens g c =
    let size = c.new-start.result.size in
    let ys = c.new-start.result.values.value.items in
    let same = ap (λ v. v.items) c.new-start.ensures.values in
    let threads : size.threads ≡ c.args.threads = c.new-start.ensures.size.0 in
    let locks : size.locks ≡ c.len-locks.result = c.new-start.ensures.size.1 ∙ sym c.len-locks.ensures in
    let keep = subst (λ zs. (k : ℕ) (y : g.row.V.Denot) → slice_get zs k ≡ Some y → g.V.Keeps.keeps k y) (sym same) c.requires.keep in
    let long : size.locks ≡ length ys = omega (arith, c.new-start.ensures.size.1, c.args.values.ok, ap length same) in
    let well = opens_well g.V.Keeps size.threads (omega (arith, threads, c.requires.limits)) size.locks ys
    (omega (arith, c.new-start.ensures.size.1, c.requires.limits)) long keep in
    subst (λ ws. OpensWell (meaning g.V.Keeps size ys) ws c.shelve.new.slots.items)
    (λ i. replicate (word_count (threads i) (0 + locks i)) 0)
    (subst (OpensWell (meaning g.V.Keeps size ys) (replicate (word_count size.threads (0 + size.locks)) 0))
    (ap (map (λ (x : g.row.V.Denot). Some x)) same ∙ sym c.shelve.ensures.slots) well)

pub unshelve-requires-clause-full : goal.unshelve-requires-clause-full
unshelve-requires-clause-full g c =
    subst (All IsSome) (sym (c.in-Err-open.ensures.back ∙ c.shelve.ensures.slots)) (all_some_filled c.args.values.items)

pub returns-clause-back : goal.returns-clause-back
returns-clause-back g c =
    same_values_back c.unshelve.result.items c.args.values.items
    (c.unshelve.ensures ∙ (c.in-Err-open.ensures.back ∙ c.shelve.ensures.slots))

pub returns-in-Ok-open-clause-size : goal.returns-in-Ok-open-clause-size
returns-in-Ok-open-clause-size g c = (
  ap (λ z. z.size.threads) c.in-Ok-open.ensures.table.2 ∙ c.new-start.ensures.size.0,
  ap (λ z. z.size.locks) c.in-Ok-open.ensures.table.2 ∙ c.new-start.ensures.size.1,
)

pub returns-in-Ok-open-clause-passes : goal.returns-in-Ok-open-clause-passes
returns-in-Ok-open-clause-passes g c =
    subst (λ (v : List g.row.V.Denot). (vec_len c.in-Ok-open.passes ≡ c.args.threads) × ((k : ℕ) → k < c.args.threads
    → slice_get c.in-Ok-open.passes.items k ≡ Some (pass_at c.in-Ok-open.words.table v k)))
    (ap (λ v. v.items) c.new-start.ensures.values) c.in-Ok-open.ensures.passes

pub returns-in-Ok-open-clause-roots : goal.returns-in-Ok-open-clause-roots
returns-in-Ok-open-clause-roots g c = (
  c.in-Ok-open.ensures.roots.0 ∙ c.len-locks.ensures,
  λ k near. c.in-Ok-open.ensures.roots.1 k (subst (λ n. k < n) (sym c.len-locks.ensures) near)
      ∙ ap (λ (l : ℕ). Some (root_at c.in-Ok-open.words.table l)) (zero-add k),
)

pub returns-in-Ok-open-clause-values : goal.returns-in-Ok-open-clause-values
returns-in-Ok-open-clause-values g c =
    ap (λ z. z.values.value.items) c.in-Ok-open.ensures.table.2 ∙ ap (λ v. v.items) c.new-start.ensures.values

pub returns-in-Ok-open-clause-rule : goal.returns-in-Ok-open-clause-rule
returns-in-Ok-open-clause-rule g c =
    let key = c.in-Ok-open.words.key in
    let threads : c.args.threads ≡ key.size.threads =
    sym (ap (λ z. z.size.threads) c.in-Ok-open.ensures.table.2 ∙ c.new-start.ensures.size.0) in
    let locks : 0 + c.len-locks.result ≡ key.size.locks = zero-add c.len-locks.result
    ∙ (c.len-locks.ensures ∙ sym (ap (λ z. z.size.locks) c.in-Ok-open.ensures.table.2 ∙ c.new-start.ensures.size.1)) in
    let slots : c.shelve.new.slots.items ≡ map (λ (x : g.row.V.Denot). Some x) key.values.value.items = c.shelve.ensures.slots
    ∙ ap (map (λ (x : g.row.V.Denot). Some x))
    (sym (ap (λ z. z.values.value.items) c.in-Ok-open.ensures.table.2 ∙ ap (λ v. v.items) c.new-start.ensures.values)) in
    subst
    (λ xs. Begins (meaning g.V.Keeps key.size key.values.value.items) (replicate (word_count key.size.threads key.size.locks) 0) xs) slots
    (subst (λ ws. Begins (meaning g.V.Keeps key.size key.values.value.items) ws c.shelve.new.slots.items)
    (λ i. replicate (word_count (threads i) (locks i)) 0)
    c.in-Ok-open.ensures.rule)

pub invariant_of-result : goal.invariant_of-result
invariant_of-result g c =
    let table = c.in-Ok-open.ensures.table in
    let limits = c.requires.limits in
    let size = c.in-Ok-open.words.key.size in
    let threads : size.threads ≡ c.args.threads = ap (λ z. z.size.threads) table.2 ∙ c.new-start.ensures.size.0 in
    let locks : size.locks ≡ vec_len c.args.values = ap (λ z. z.size.locks) table.2 ∙ c.new-start.ensures.size.1 in
    let keys : 0 + c.len-locks.result ≡ size.locks = zero-add c.len-locks.result ∙ (c.len-locks.ensures ∙ sym locks) in
    let long : vec_len c.shelve.new.slots ≡ vec_len c.args.values = c.shelve.new.slots.ok.0
    ∙ (ap length c.shelve.ensures.slots ∙ (length-map c.args.values.items (λ (x : g.row.V.Denot). Some x) ∙ sym c.args.values.ok.0)) in
    let fits : vec_len c.args.values ≤ vec_capacity c.args.values = search rules in
    let room : vec_capacity c.args.values ≡ vec_capacity c.new.result.value =
    sym (ap (λ v. vec_capacity v) c.new.ensures ∙ c.shelve.ensures.room.1) in (
      subst (λ n. 0 < n) (sym threads) limits.0,
      (
        (subst (λ n. n ≤ MAX_THREADS) (sym threads) limits.1, subst (λ n. n ≤ MOST_KEYS) (sym locks) limits.3),
        (
          (λ k below. c.in-Ok-open.ensures.near.1 k (subst (λ n. k < n) (sym keys) below)),
          (
            c.in-Ok-open.ensures.near.0,
            (
              table.1 ∙ (long ∙ sym locks),
              (
                (
                  ap (λ v. vec_len v) c.new.ensures ∙ c.shelve.ensures.room.0,
                  subst (λ n. n ≤ vec_capacity c.new.result.value) (sym locks)
                      (subst (λ n. vec_len c.args.values ≤ n) room fits),
                ),
                tt,
              ),
            ),
          ),
        ),
      ),
    )

pub unshelve-requires-clause-room : goal.unshelve-requires-clause-room
unshelve-requires-clause-room g c =
    let fits : vec_len c.args.values ≤ vec_capacity c.args.values = search rules in
    let long : vec_len c.in-Err-open.slots ≡ vec_len c.args.values = c.in-Err-open.slots.ok.0
    ∙ (ap length (c.in-Err-open.ensures.back ∙ c.shelve.ensures.slots)
    ∙ (length-map c.args.values.items (λ (x : g.row.V.Denot). Some x) ∙ sym c.args.values.ok.0)) in (
      c.shelve.ensures.room.0,
      subst (λ n. vec_len c.in-Err-open.slots ≤ n) (sym c.shelve.ensures.room.1)
          (subst (λ n. n ≤ vec_capacity c.args.values) (sym long) fits),
    )
