-- How many workers have a permit, and how the count goes on.
use Rattle.std.specs.Prelude.{◌≡◌, ◌+◌, ◌-◌, ◌≤◌, min, max}
use Rattle.lot_load.specs.Growing.{NeitherFalls}
use Rattle.lot_load.specs.declared.inside.Inside.{Inside}
use Rattle.lot_load.specs.declared.inside.Going.{Going}
use Rattle.lot_load.specs.declared.inside.Going.TheVariants.{In, Out}
use Rattle.lot_load.specs.Buffers.{most}

-- never more were counted in than the most
abbrev pub IsBounded : Inside → Type 0
IsBounded inside = inside.now ≤ inside.most

-- the most that were ever in, and those that were counted out, are counted still
abbrev pub HasGoneOn : Inside → Inside → Type 0
HasGoneOn = NeitherFalls (λ inside. inside.most) (λ inside. inside.done)

-- one more is in, up to the greatest number
pub record CountsIn (old new : Inside) : Type 0 where
  pub now : new.now ≡ min (old.now + 1) most
  pub at_most : new.most ≡ max old.most new.now
  pub done : new.done ≡ old.done

-- one less is in, and one more is done, up to the greatest number
pub record CountsOut (old new : Inside) : Type 0 where
  pub now : new.now ≡ old.now - 1
  pub at_most : new.most ≡ old.most
  pub done : new.done ≡ min (old.done + 1) most

-- what is counted of a worker that goes this way
abbrev pub GoesAs : Going → Inside → Inside → Type 0
GoesAs In old new = CountsIn old new
GoesAs Out old new = CountsOut old new
