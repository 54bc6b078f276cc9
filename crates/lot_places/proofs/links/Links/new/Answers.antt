use Rattle.std.proofs.Common.{◌≡◌, List, ℕ, [], ◌∷◌, ◌++◌, ◌∙◌, ap, refl, arith, ◌+◌}
use Rattle.std.specs.List.{range_with_len}
use Rattle.lot_places.proofs.Openings.{range_with_len-push, opening, all_free}
use Rattle.lot_places.proofs.links.Links.new.Goals.{In_ok-push-2}
use Rattle.lot_places.proofs.links.Links.new.Goals as goal

pub loop-place-preserved : goal.loop-place-preserved
loop-place-preserved c =
    let place = c.loop-place.place in
    c.in_ok-push.ensures.items ∙ ap (λ (xs : List ℕ). xs ++ (place + 1) ∷ []) c.loop-place.invariant
    ∙ range_with_len-push 1 place (place + 1) (omega arith)

made : (c : In_ok-push-2) → c.push-2.new.self.items ≡ range_with_len 1 c.args.room ++ c.args.room ∷ []
made c =
    let over : c.loop-place.place ≡ c.args.room = omega arith in
    c.in_ok-push-2.ensures.items ∙ ap (λ (xs : List ℕ). xs ++ c.args.room ∷ []) c.loop-place.invariant ∙ rw over refl

pub invariant_of-result : goal.invariant_of-result
invariant_of-result c = opening _ c.args.room (made (goal.at.invariant_of-result c).In_ok-push-2)

pub returns : goal.returns
returns c = rw (all_free _ c.args.room (made (goal.at.returns c).In_ok-push-2)) refl
