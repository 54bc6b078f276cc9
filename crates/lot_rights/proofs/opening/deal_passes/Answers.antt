use Rattle.std.proofs.Common.{◌≡◌, ℕ, ◌+◌, ◌-◌, ◌++◌, List, [], ◌∷◌, slice_get, refl, sym, ap, subst, ◌^◌, ◌<◌, ◌∙◌, arith}
use Rattle.atomic_table.specs.Table.{Me}
use Rattle.lot_rights.specs.Layout.{letter_at}
use Rattle.lot_rights.specs.Rule.{Meaning}
use Rattle.lot_rights.specs.declared.views.Right.{Right}
use Rattle.lot_rights.specs.declared.views.Right.TheVariants.{Pass}
use Rattle.lot_rights.specs.Shown.{pass_at_table}
use Rattle.lot_rights.specs.Start.{new_pass, passes_from, pass_at}
use Rattle.lot_rights.proofs.Joining.{deals}
use Rattle.lot_rights.proofs.Deals.{next_from, one_pass, left_over, dealt_out, pass_seen, get_more}
use Rattle.lot_rights.proofs.opening.deal_passes.Goals as goal

-- the next pass is that of thread t
next : {S P R : Type 0} (k : Meaning S P R) (t threads : ℕ) (roots : List (Right P R)) (me : Me S (List (Right P R))) → t < threads
    → me ≡ (passes_from k t (threads - t) ++ roots, [])
    → me ≡ (Pass (new_pass k.fresh_pass t) ∷ (passes_from k (t + 1) (threads - (t + 1)) ++ roots), [])
next k t threads roots me near rest =
    rest
    ∙ ap (λ v. (v ++ roots, []))
    (next_from (λ u. Pass (new_pass k.fresh_pass u)) t (t + 1) (threads - t) (threads - (t + 1)) refl (omega arith))

pub split_seat-own-requires : goal.split_seat-own-requires
split_seat-own-requires g c =
    let k = g.K.Kind.meaning c.args.shared.now.key in
    let is = next k c.loop-thread.thread c.args.threads _ _ c.loop-thread-test.true c.loop-thread.invariant.rest in
    (c.loop-thread.invariant.table, c.requires.table.1, deals k _ _ _ _ (ap (λ m. m.0) is))

pub invariant_of-push_reserved : goal.invariant_of-push_reserved
invariant_of-push_reserved g c =
    let k = g.K.Kind.meaning c.args.shared.now.key in
    let t = c.loop-thread.thread in
    let is = next k t c.args.threads _ _ c.loop-thread-test.true c.loop-thread.invariant.rest in
    let dealt = dealt_out _ _ _ is _ c.split_seat-own.ensures.4 in (
      one_pass g.K.Kind.no_pass g.K.Kind.no_root _ _ dealt,
      (
        sym (ap (λ p. p.thread) (pass_seen g.K.Kind.no_pass g.K.Kind.no_root _ _ dealt)),
        (
          subst (λ z. letter_at t < z.words) (sym (c.split_seat-own.ensures.3 ∙ c.loop-thread.invariant.table))
              (c.requires.near t c.loop-thread-test.true),
          (subst (λ z. z.words < 2 ^ 64) (sym (c.split_seat-own.ensures.3 ∙ c.loop-thread.invariant.table)) c.requires.table.2, tt),
        ),
      ),
    )

pub loop-thread-preserved : goal.loop-thread-preserved
loop-thread-preserved g c =
    let inv = c.loop-thread.invariant in
    let k = g.K.Kind.meaning c.args.shared.now.key in
    let t = c.loop-thread.thread in
    let is = next k t c.args.threads _ _ c.loop-thread-test.true inv.rest in
    let seen = pass_seen g.K.Kind.no_pass g.K.Kind.no_root _ _ (dealt_out _ _ _ is _ c.split_seat-own.ensures.4) in
    let table = c.split_seat-own.ensures.3 ∙ inv.table in
    record {
      table = c.split_seat-own.ensures.0 ∙ inv.table;
      rest = left_over _ _ _ is _ c.split_seat-own.ensures.2;
      len = omega (arith, c.push_reserved.ensures.len, inv.len);
      room = omega (arith, c.push_reserved.ensures.capacity, inv.room);
      each = λ i near. ap (λ ps. slice_get ps i) c.push_reserved.ensures.items
          ∙ get_more (pass_at k c.args.shared.now.table_id) c.loop-thread.passes.items _ t (omega (arith, inv.len)) inv.each
          (λ j. pass_at_table (table j) (seen j)) i near;
    }
