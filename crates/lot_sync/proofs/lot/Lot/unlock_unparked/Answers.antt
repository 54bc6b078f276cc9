use Rattle.std.proofs.Common.{◌≡◌, true, false, refl, subst, sym, ap, ◌∙◌}
use Rattle.lot_words.specs.Values.{IsIn}
use Rattle.lot_words.specs.declared.views.Place.TheVariants.{Out}
use Rattle.lot_scheme.specs.Standing.{LotStanding, placing}
use Rattle.lot_locks.specs.declared.released.Released.TheVariants.{Quiet}
use Rattle.lot_sync.specs.Lot.{◌≈◌}
use Rattle.lot_sync.specs.Traces.{Adds, UnparkedTrace}
use Rattle.lot_sync.specs.Passes.{pass_view_of}
use Rattle.lot_sync.proofs.Adding.{alike_at, adds_at, quiet_trace}
use Rattle.lot_sync.proofs.Calls.{sees_left_at, adds_left}
use Rattle.lot_sync.proofs.Holdings.{sees_left}
use Rattle.lot_sync.proofs.Rests.{rests_free, rests_parked, stays_all, one_lies}
use Rattle.lot_sync.proofs.lot.Lot.unlock_unparked.Goals as goal

pub at_rest-requires-clause-rest : goal.at_rest-requires-clause-rest
at_rest-requires-clause-rest g c κs within =
    let b = c.given_back-right.ensures in
    rests_free _ _ g.V.Keeps.grows_on c.given_back-right.result.0 c.free_unparked-right.result.0 c.key-key.result c.args.held.value Quiet
    b.locks b.owner b.lies b.grown (rw c.if-freed.true at c.free_unparked-right.ensures)

pub at_rest-requires-else-freed-clause-rest : goal.at_rest-requires-else-freed-clause-rest
at_rest-requires-else-freed-clause-rest g c κs within =
    let b = c.given_back-right.ensures in
    rests_parked _ _ c.given_back-right.result.0 c.free_unparked-right.result.0 c.value_out-right.result.0 c.key-key.result
    b.locks b.owner (rw c.if-freed.false at c.free_unparked-right.ensures) c.value_out-right.ensures.out

pub returns-then-freed-clause-freed : goal.returns-then-freed-clause-freed
returns-then-freed-clause-freed g c =
    let b = c.given_back-right.ensures in
    sees_left_at c.key-key.ensures b.same c.at_rest.ensures.pass b.lies (rw c.if-freed.true at c.free_unparked-right.ensures)

pub returns-else-freed-clause-freed : goal.returns-else-freed-clause-freed
returns-else-freed-clause-freed g c =
    let b = c.given_back-right.ensures in
    let parked = rw c.if-freed.false at c.free_unparked-right.ensures in
    let same : c.value_out-right.result.1 ≡ c.args.held.value =
    one_lies c.free_unparked-right.result.0.own.locks.places c.key-key.result c.value_out-right.result.1 c.args.held.value
    c.value_out-right.ensures.value
    (subst (λ (r : LotStanding g.row.V.Denot). IsIn r.own.locks c.key-key.result c.args.held.value) (sym parked) b.lies) in (
      (λ i. record { key = (c.new.ensures.key ∙ c.key-key.ensures) i; value = (c.new.ensures.value ∙ same) i }),
      subst (λ v. c.at_rest-else-freed.result ≈ v) b.same
          (alike_at c.at_rest-else-freed.result (pass_view_of c.given_back-right.result.0) c.value_out-right.result.0
          c.at_rest-else-freed.ensures.pass
          (stays_all c.given_back-right.result.0 c.free_unparked-right.result.0 c.value_out-right.result.0 c.key-key.result b.owner.holds
          parked c.value_out-right.ensures.out)),
    )

pub returns-then-freed-clause-made : goal.returns-then-freed-clause-made
returns-then-freed-clause-made g c =
    adds_left (λ t k. UnparkedTrace t k true) c.key-key.ensures c.given_back-right.ensures.same c.at_rest.ensures.pass
    (rw c.if-freed.true at c.free_unparked-right.ensures) (quiet_trace _ _ _)

pub returns-else-freed-clause-made : goal.returns-else-freed-clause-made
returns-else-freed-clause-made g c =
    let parked = rw c.if-freed.false at c.free_unparked-right.ensures in
    subst (λ k. Adds c.args.pass.made (UnparkedTrace c.args.pass.thread k false) c.at_rest-else-freed.result.made) c.key-key.ensures
    (adds_at (λ t. UnparkedTrace t c.key-key.result false) c.args.pass c.at_rest-else-freed.result c.given_back-right.result.0
    c.value_out-right.result.0 _
    (sym c.given_back-right.ensures.same) c.at_rest-else-freed.ensures.pass
    (ap (λ (r : LotStanding g.row.V.Denot). r.did)
    (c.value_out-right.ensures.out ∙ ap (λ (r : LotStanding g.row.V.Denot). placing r c.key-key.result Out) parked)) refl)

pub returns-then-freed-clause-seen : goal.returns-then-freed-clause-seen
returns-then-freed-clause-seen g c =
    sees_left _ c.args.pass c.at_rest.result c.args.held.key c.args.held.value c.requires.key c.at_rest.ensures.shape
    (returns-then-freed-clause-freed g c)
