-- What a closing tells, when all passes came back and none of them is out.
use Rattle.std.proofs.Common.{◌≡◌, ℕ, ◌<◌, List, get_or, sym, ap, ◌∙◌, arith, None, sum_by}
use Rattle.std.specs.List.{All, Any}
use Rattle.std.proofs.lemmas.List.Elements.{All-weaker}
use Rattle.lot_rights.specs.Closing.{Left, Ended}
use Rattle.lot_rights.specs.Shown.{PassShown, RootShown}
use Rattle.lot_core.specs.Sums.{total}
use Rattle.lot_rights.specs.World.{PassIs, RootIs}
use Rattle.lot_rights.proofs.Closes.{ended_recounted}
use Rattle.lot_core.proofs.Sums.{total_same, total_none}
use Rattle.lot_rights.proofs.Totals.{any_all, held_once, sum_is}
use Rattle.lot_conds.specs.declared.views.CondPassView.{CondPassView}
use Rattle.lot_conds.specs.declared.views.CondRootView.{CondRootView}
use Rattle.lot_conds.specs.declared.views.Size.{Size}
use Rattle.lot_conds.specs.World.{CondWorld, taken_from}
use Rattle.lot_conds.specs.Rule.{sizes_of, meaning}
use Rattle.lot_conds.specs.Closing.{IsIdle, called_in, woken_in, IsToldTo}
use Rattle.lot_conds.proofs.Machine.{awake_is}

module _ (size : Size) (passes : List (PassShown CondPassView)) (roots : List (RootShown CondRootView)) (ws : List ℕ)
    (xs : List (Unit {0})) where
  pub told_to : Ended (meaning size) passes roots ws xs → IsToldTo size passes roots
  told_to ended = record {
    recounted = ended_recounted (meaning size) passes roots ws xs ended;
    lines = All-weaker (λ (q : RootShown CondRootView). RootIs (sizes_of size) ended.left.world q.key q.own)
        (λ (q : RootShown CondRootView). (ended.left.world.root q.key).line ≡ q.own.line)
        (λ q is. ap (λ (z : CondRootView). z.line) is.1) roots ended.left.roots_fit;
  }

  -- what is left when no pass is out
  module _ (left : Left (meaning size) passes roots ws xs) (idle : All IsIdle passes)
      (all : (t : ℕ) → t < size.threads → Any (λ (p : PassShown CondPassView). p.thread ≡ t) passes) where
    abbrev w : CondWorld
    w = left.world

    abbrev Fits : PassShown CondPassView → Type 0
    Fits p = PassIs (sizes_of size) w p.thread p.own

    -- no letter is owed or lies
    none_taken : (c t : ℕ) → t < size.threads → taken_from c (w.spot t) ≡ 0
    none_taken c t near =
        let mine = λ (p : PassShown CondPassView). p.thread ≡ t in
        let p = any_all mine Fits passes (all t near) left.passes_fit in
        let q = any_all mine IsIdle passes (all t near) idle in
        let out : (w.pass t).out ≡ None = ap (λ z. (w.pass z).out) (sym p.1) ∙ (ap (λ (x : CondPassView). x.out) p.2.1 ∙ q.2) in
        ap (taken_from c) (awake_is size.threads w.root t (w.pass t) (w.spot t) (left.fits.kept.threads t).spot out)

    -- a count that the world keeps of each thread
    counts : (of : CondPassView → List ℕ) (c : ℕ)
        → sum_by (λ (p : PassShown CondPassView). get_or (of p.own) c 0) passes ≡ total size.threads (λ t. get_or (of (w.pass t)) c 0)
    counts of c =
        let f : PassShown CondPassView → ℕ = (λ p. get_or (of p.own) c 0) in
        let g : ℕ → ℕ = (λ t. get_or (of (w.pass t)) c 0) in
        sum_is CondRootView size.threads g f passes
        (All-weaker Fits (λ (p : PassShown CondPassView). (p.thread < size.threads) × (f p ≡ g p.thread))
        (λ p fit. (fit.0, sym (ap (λ z. get_or (of z) c 0) fit.1))) passes
        left.passes_fit)
        (held_once CondRootView passes roots left.once) all

    pub balanced : (c : ℕ) → called_in passes c ≡ woken_in passes c
    balanced c =
        let called = counts (λ (p : CondPassView). p.called) c in
        let woken = counts (λ (p : CondPassView). p.woken) c in
        let none : total size.threads (λ t. taken_from c (w.spot t)) ≡ 0 =
        total_same size.threads (λ t. taken_from c (w.spot t)) (λ t. 0) (none_taken c) ∙ total_none size.threads in
        omega (arith, called, woken, none, (left.fits.kept.conds c).ledger)
