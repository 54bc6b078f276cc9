use Rattle.std.proofs.Common.{◌≡◌, ℕ, ◌+◌, ◌-◌, ◌^◌, ◌<◌, List, [], ◌∷◌, slice_get, sym, ap, subst, ◌∙◌, arith}
use Rattle.atomic_table.specs.Table.{Me}
use Rattle.lot_rights.specs.Layout.{word_at}
use Rattle.lot_rights.specs.Rule.{Meaning}
use Rattle.lot_rights.specs.declared.views.Right.{Right}
use Rattle.lot_rights.specs.declared.views.Right.TheVariants.{Root}
use Rattle.lot_rights.specs.Shown.{root_at_table}
use Rattle.lot_rights.specs.Start.{new_root, roots_from, root_at}
use Rattle.lot_rights.proofs.Joining.{deals}
use Rattle.lot_rights.proofs.Deals.{next_from, one_root, left_over, dealt_out, root_seen, get_more}
use Rattle.lot_rights.proofs.opening.deal_roots.Goals as goal

pub loop-i-init : goal.loop-i-init
loop-i-init g c =
    let k = g.K.Kind.meaning c.args.shared.now.key in
    let first : c.args.first + 0 ≡ c.args.first = omega arith in
    let count : c.args.keys - 0 ≡ c.args.keys = omega arith in
    record {
      table = c.requires.table.0;
      rest = c.requires.all ∙ sym (λ i. (roots_from k (first i) (count i), []));
      len = c.requires.room.0;
      room = c.requires.room.1;
      each = λ j near. absurd (omega arith);
    }

-- the next root is that of the i-th key
next : {S P R : Type 0} (k : Meaning S P R) (first i keys : ℕ) (me : Me S (List (Right P R))) → i < keys
    → me ≡ (roots_from k (first + i) (keys - i), [])
    → me ≡ (Root (new_root k.fresh_root (first + i)) ∷ roots_from k (first + (i + 1)) (keys - (i + 1)), [])
next k first i keys me near rest =
    rest
    ∙ ap (λ v. (v, []))
    (next_from (λ d. Root (new_root k.fresh_root d)) (first + i) (first + (i + 1)) (keys - i) (keys - (i + 1)) (omega arith) (omega arith))

pub split_seat-own-requires : goal.split_seat-own-requires
split_seat-own-requires g c =
    let k = g.K.Kind.meaning c.args.shared.now.key in
    let is = next k c.args.first c.loop-i.i c.args.keys _ c.loop-i-test.true c.loop-i.invariant.rest in
    (c.loop-i.invariant.table, c.requires.table.1, deals k _ _ _ _ (ap (λ m. m.0) is))

pub invariant_of-push_reserved : goal.invariant_of-push_reserved
invariant_of-push_reserved g c =
    let k = g.K.Kind.meaning c.args.shared.now.key in
    let key = c.args.first + c.loop-i.i in
    let is = next k c.args.first c.loop-i.i c.args.keys _ c.loop-i-test.true c.loop-i.invariant.rest in
    let dealt = dealt_out _ _ _ is _ c.split_seat-own.ensures.4 in
    let seen = root_seen g.K.Kind.no_pass g.K.Kind.no_root _ _ dealt in (
      one_root g.K.Kind.no_pass g.K.Kind.no_root _ _ dealt,
      (
        subst (λ q. g.A.Numbering.shown c.of.result q.key ≡ q.key) (sym seen) c.of.ensures,
        (
          subst (λ q. word_at q.key < c.split_seat-own.result.table_id.words) (sym seen)
              (subst (λ z. word_at key < z.words) (sym (c.split_seat-own.ensures.3 ∙ c.loop-i.invariant.table))
              (c.requires.near key (omega arith))),
          (
            subst (λ z. z.words < 2 ^ 64) (sym (c.split_seat-own.ensures.3 ∙ c.loop-i.invariant.table)) c.requires.table.2,
            ((λ u h. absurd (c.requires.calm key u (subst (λ q. g.K.Kind.names q.own u) seen h))), tt),
          ),
        ),
      ),
    )

pub loop-i-preserved : goal.loop-i-preserved
loop-i-preserved g c =
    let inv = c.loop-i.invariant in
    let k = g.K.Kind.meaning c.args.shared.now.key in
    let i = c.loop-i.i in
    let is = next k c.args.first i c.args.keys _ c.loop-i-test.true inv.rest in
    let seen = root_seen g.K.Kind.no_pass g.K.Kind.no_root _ _ (dealt_out _ _ _ is _ c.split_seat-own.ensures.4) in
    let table = c.split_seat-own.ensures.3 ∙ inv.table in
    record {
      table = c.split_seat-own.ensures.0 ∙ inv.table;
      rest = left_over _ _ _ is _ c.split_seat-own.ensures.2;
      len = omega (arith, c.push_reserved.ensures.len, inv.len);
      room = omega (arith, c.push_reserved.ensures.capacity, inv.room);
      each = λ j near. ap (λ qs. slice_get qs j) c.push_reserved.ensures.items
          ∙ get_more (λ d. root_at k c.args.shared.now.table_id (c.args.first + d)) c.loop-i.roots.items _ i
          (omega (arith, inv.len)) inv.each (λ d. root_at_table (table d) (seen d)) j near;
    }
