-- What a closing tells, when all passes came back.
use Rattle.std.proofs.Common.{◌≡◌, ℕ, ◌+◌, ◌<◌, List, get_or, sym, arith, sum_by}
use Rattle.std.specs.List.{Any}
use Rattle.std.proofs.lemmas.List.Elements.{All-weaker}
use Rattle.lot_core.specs.Sums.{total}
use Rattle.lot_rights.specs.Closing.{Left, Ended}
use Rattle.lot_rights.specs.Shown.{PassShown, RootShown}
use Rattle.lot_rights.proofs.Closes.{ended_recounted}
use Rattle.lot_rights.proofs.Totals.{held_once, sum_is}
use Rattle.lot_sems.specs.declared.views.SemPassView.{SemPassView}
use Rattle.lot_sems.specs.declared.views.SemRootView.{SemRootView}
use Rattle.lot_sems.specs.World.{Numbers, SemWorld, permits_of, PassKnows, RootKnows}
use Rattle.lot_sems.specs.Rule.{meaning}
use Rattle.lot_sems.specs.Closing.{out_with, IsToldTo}

module _ (size : Numbers) (passes : List (PassShown SemPassView)) (roots : List (RootShown SemRootView)) (ws : List ℕ)
    (xs : List (Unit {0})) where
  -- when all passes came back, the permits that are left and those that are out with them are all there are
  module _ (left : Left (meaning size) passes roots ws xs)
      (all : (t : ℕ) → t < size.threads → Any (λ (p : PassShown SemPassView). p.thread ≡ t) passes) where
    abbrev w : SemWorld
    w = left.world

    abbrev Fits : PassShown SemPassView → Type 0
    Fits p = PassKnows size w p.thread p.own

    pub all_out : (k : ℕ) → w.part.sems.left k + out_with passes k ≡ permits_of size k
    all_out k =
        let f : PassShown SemPassView → ℕ = (λ p. get_or p.own.out k 0) in
        let g : ℕ → ℕ = w.part.sems.out k in
        let sum : sum_by f passes ≡ total size.threads g = sum_is SemRootView size.threads g f passes
        (All-weaker Fits (λ (p : PassShown SemPassView). (p.thread < size.threads) × (f p ≡ g p.thread))
        (λ p fit. (fit.near, sym (fit.out k))) passes left.passes_fit)
        (held_once SemRootView passes roots left.once) all in
        omega (arith, sum, left.fits.sound.permits_conserved k)

  pub told_to : Ended (meaning size) passes roots ws xs
      → ((t : ℕ) → t < size.threads → Any (λ (p : PassShown SemPassView). p.thread ≡ t) passes) → IsToldTo size passes roots
  told_to ended all = record {
    recounted = ended_recounted (meaning size) passes roots ws xs ended;
    lines = All-weaker (λ (q : RootShown SemRootView). RootKnows size ended.left.world q.key q.own)
        (λ (q : RootShown SemRootView). ended.left.world.part.sems.line q.key ≡ q.own.line)
        (λ q is. is.1) roots ended.left.roots_fit;
    permits = all_out ended.left all;
  }
