-- How a lot's pass stands after a call of a condition, and its root.
use Rattle.std.proofs.Common.{◌≡◌, ℕ, ◌<◌, ◌≤◌, Bool, [], ◌∷◌, refl, arith}
use Rattle.lot_rights.specs.Shown.{PassShown}
use Rattle.lot_events.specs.declared.events.Event.TheVariants.{Enlist, Look, Call, Lower, Sweep}
use Rattle.lot_events.specs.declared.events.Seen.TheVariants.{Bool as Saw, Done, Count}
use Rattle.lot_rights.specs.declared.views.Access.TheVariants.{Makes}
use Rattle.lot_conds.specs.Calls.{enlisted as cond_enlisted, called_more as cond_called_more, lowering, swept_pass}
use Rattle.lot_whole.specs.declared.views.LotPassView.{LotPassView}
use Rattle.lot_whole.specs.declared.views.LotRootView.{LotRootView}
use Rattle.lot_whole.specs.declared.views.LotRootView.TheVariants.{Lock, Cond, Sem}
use Rattle.lot_whole.specs.Family.{cond}
use Rattle.lot_whole.specs.Lifts.{lot_own}
use Rattle.lot_whole.specs.Standing.{IsCondRoot, as_cond}
use Rattle.lot_whole.specs.Calls.{NotesIn}
use Rattle.lot_whole.specs.Lot.{line_of_root}
use Rattle.lot_scheme.specs.Roots.{IsInItsKind}
use Rattle.lot_scheme.specs.Standing.{standing, adding, enlisted, called_more as stand_called_more, setting_out, swept}
use Rattle.lot_scheme.proofs.Noted.{noted}

-- a key that is a condition's has a condition's root, whose line is the one that the bucket sees
pub cond_root : (locks first_sem c : ℕ) (own : LotRootView) → IsInItsKind locks first_sem c own
    → (locks ≤ c) × (c < first_sem) → IsCondRoot own
cond_root locks first_sem c (Lock q) kind near = absurd (omega (arith, kind, near.0))
cond_root locks first_sem c (Cond q) kind near = tt
cond_root locks first_sem c (Sem q) kind near = absurd (omega (arith, kind.1, near.1))

pub cond_line : (own : LotRootView) → IsCondRoot own → line_of_root own ≡ (as_cond own).line
cond_line (Lock q) is = absurd is
cond_line (Cond q) is = refl
cond_line (Sem q) is = absurd is

module _ {V : Type 0} where
  pub enlists : (p : PassShown (LotPassView V)) (c l : ℕ) (q : PassShown (LotPassView V))
      → NotesIn cond p (cond_enlisted p.own.conds c) (Makes (Enlist p.thread c l) Done) q
      → standing q ≡ adding (enlisted (standing p) c l) (Makes (Enlist p.thread c l) Done ∷ [])
  enlists p c l q note =
      noted p (lot_own cond p.own (cond_enlisted p.own.conds c) (Makes (Enlist p.thread c l) Done))
      (Makes (Enlist p.thread c l) Done) q note

  pub looks : (p : PassShown (LotPassView V)) (c : ℕ) (saw : Bool) (q : PassShown (LotPassView V))
      → NotesIn cond p p.own.conds (Makes (Look p.thread c) (Saw saw)) q
      → standing q ≡ adding (standing p) (Makes (Look p.thread c) (Saw saw) ∷ [])
  looks p c saw q note = noted p p.own (Makes (Look p.thread c) (Saw saw)) q note

  pub lowers : (p : PassShown (LotPassView V)) (c : ℕ) (q : PassShown (LotPassView V))
      → NotesIn cond p (lowering p.own.conds c) (Makes (Lower p.thread c) Done) q
      → standing q ≡ adding (setting_out (standing p) c) (Makes (Lower p.thread c) Done ∷ [])
  lowers p c q note = noted p (lot_own cond p.own (lowering p.own.conds c) (Makes (Lower p.thread c) Done))
      (Makes (Lower p.thread c) Done) q note

  pub calls : (p : PassShown (LotPassView V)) (c n taken : ℕ) (more : Bool) (q : PassShown (LotPassView V))
      → NotesIn cond p (cond_called_more p.own.conds c taken) (Makes (Call p.thread c n more) (Count taken)) q
      → standing q ≡ adding (stand_called_more (standing p) c taken) (Makes (Call p.thread c n more) (Count taken) ∷ [])
  calls p c n taken more q note =
      noted p (lot_own cond p.own (cond_called_more p.own.conds c taken) (Makes (Call p.thread c n more) (Count taken)))
      (Makes (Call p.thread c n more) (Count taken)) q note

  pub sweeps : (p : PassShown (LotPassView V)) (c taken : ℕ) (q : PassShown (LotPassView V))
      → NotesIn cond p (swept_pass p.own.conds c taken) (Makes (Sweep p.thread c) (Count taken)) q
      → standing q ≡ adding (swept (standing p) c taken) (Makes (Sweep p.thread c) (Count taken) ∷ [])
  sweeps p c taken q note =
      noted p (lot_own cond p.own (swept_pass p.own.conds c taken) (Makes (Sweep p.thread c) (Count taken)))
      (Makes (Sweep p.thread c) (Count taken)) q note
