-- What each kind of event is to the condition part of the model: a step of lot_core's.
use Rattle.std.proofs.Common.{◌≡◌, ℕ, ◌<◌, Bool, true, false, List, [], ◌∷◌, ◌++◌, drop, length, refl, sym, ap, ◌∙◌, arith, Option, Some}
use Rattle.std.proofs.Common.{None}
use Rattle.std.proofs.lemmas.List.{drop_all}
use Rattle.lot_core.specs.Model.{put}
use Rattle.lot_core.specs.Steps.{IsCallCount, SaysMoreBehind, dequeued_count, flag_after_call}
use Rattle.lot_core.specs.Parts.{IsAmongConds, IsCalmIn}
use Rattle.lot_events.specs.declared.events.Event.TheVariants.{Enlist, Look, Call, Lower, Sweep}
use Rattle.lot_events.specs.declared.events.Seen.TheVariants.{Bool as Saw, Done, Count}
use Rattle.lot_core.proofs.Put.{put_again, told_put, told_same}
use Rattle.lot_rights.specs.World.{Spot}
use Rattle.lot_conds.specs.declared.views.CondPassView.{CondPassView}
use Rattle.lot_conds.specs.declared.views.CondRootView.{CondRootView}
use Rattle.lot_conds.specs.declared.views.Size.{Size}
use Rattle.lot_conds.specs.World.{CondWorld}
use Rattle.lot_conds.specs.Rule.{part_of, IsStep}
use Rattle.lot_conds.proofs.Machine.{turned}

module _ (w : CondWorld) where
  abbrev lines : ℕ → List ℕ
  lines = λ k. (w.root k).line

  abbrev sweeping : ℕ → Option ℕ
  sweeping = λ v. (w.pass v).sweeps

  -- nobody sweeps anything else
  same_sweeps : (t : ℕ) (p : CondPassView) → p.sweeps ≡ (w.pass t).sweeps → (λ v. (put w.pass t p v).sweeps) ≡ sweeping
  same_sweeps t p e = told_same (λ (x : CondPassView). x.sweeps) w.pass t p e

  now_sweeps : (t : ℕ) (p : CondPassView) (s : Option ℕ) → p.sweeps ≡ s → (λ v. (put w.pass t p v).sweeps) ≡ put sweeping t s
  now_sweeps t p s e = told_put (λ (x : CondPassView). x.sweeps) w.pass t p ∙ ap (put sweeping t) e

  same_line : (c : ℕ) (q : CondRootView) → q.line ≡ (w.root c).line → (λ k. (put w.root c q k).line) ≡ lines
  same_line c q e = told_same (λ (x : CondRootView). x.line) w.root c q e

  now_line : (c : ℕ) (q : CondRootView) (line : List ℕ) → q.line ≡ line → (λ k. (put w.root c q k).line) ≡ put lines c line
  now_line c q line e = told_put (λ (x : CondRootView). x.line) w.root c q ∙ ap (put lines c) e

  part_is : (t : ℕ) (p : CondPassView) (spots : ℕ → Spot) (c : ℕ) (f : Bool) (q : CondRootView) (flag : ℕ → Bool) (line : ℕ → List ℕ)
      (sweeps : ℕ → Option ℕ)
      → put w.word c f ≡ flag → (λ k. (put w.root c q k).line) ≡ line → (λ v. (put w.pass t p v).sweeps) ≡ sweeps
      → part_of (turned w t p spots c f q) ≡ record { conds = record { flag = flag; line = line }; sweeps = sweeps }
  part_is t p spots c f q flag line sweeps a b d = λ i. record { conds = record { flag = a i; line = b i }; sweeps = d i }

  -- the part stays
  pub same_part : (t : ℕ) (p : CondPassView) (spots : ℕ → Spot) (c : ℕ) (q : CondRootView) → p.sweeps ≡ (w.pass t).sweeps
      → q.line ≡ (w.root c).line
      → part_of (turned w t p spots c (w.word c) q) ≡ part_of w
  same_part t p spots c q e l =
      part_is t p spots c (w.word c) q w.word lines sweeping (put_again w.word c) (same_line c q l) (same_sweeps t p e)

  module _ (size : Size) (t : ℕ) (near : t < size.threads) (c : ℕ) (among : IsAmongConds size.locks size.conds c) (p : CondPassView)
      (spots : ℕ → Spot) where
    module _ (calm : IsCalmIn (part_of w) t) where
      pub row_enlist : (l : ℕ) → l < size.locks → (q : CondRootView) → p.sweeps ≡ (w.pass t).sweeps → q.line ≡ (w.root c).line ++ t ∷ []
          → IsStep size (part_of w) (Enlist t c l) Done (part_of (turned w t p spots c true q))
      row_enlist l some q e line = (
        (near, among, some, calm),
        refl,
        part_is t p spots c true q (put w.word c true) (put lines c ((w.root c).line ++ t ∷ [])) sweeping refl
            (now_line c q ((w.root c).line ++ t ∷ []) line) (same_sweeps t p e),
      )

      pub row_look : (b : Bool) → b ≡ w.word c → IsStep size (part_of w) (Look t c) (Saw b) (part_of w)
      row_look b is = ((near, among, calm), ap Saw is, refl)

      pub row_lower : p.sweeps ≡ Some c → IsStep size (part_of w) (Lower t c) Done (part_of (turned w t p spots c false (w.root c)))
      row_lower e = (
        (near, among, calm),
        refl,
        part_is t p spots c false (w.root c) (put w.word c false) lines (put sweeping t (Some c)) refl (same_line c (w.root c) refl)
            (now_sweeps t p (Some c) e),
      )

      -- the first n of the line are taken
      pub row_call : (n : ℕ) (more : Bool) (q : CondRootView) → IsCallCount n → SaysMoreBehind n (w.root c).line more
          → p.sweeps ≡ (w.pass t).sweeps → q.line ≡ drop n (w.root c).line
          → IsStep size (part_of w) (Call t c n more) (Count (dequeued_count n (w.root c).line))
          (part_of (turned w t p spots c (flag_after_call (w.word c) more (w.root c).line) q))
      row_call n more q few says e rest =
          let f : Bool = flag_after_call (w.word c) more (w.root c).line in (
            (near, among, calm, few, says),
            refl,
            part_is t p spots c f q (put w.word c f) (put lines c (drop n (w.root c).line)) sweeping refl
                (now_line c q (drop n (w.root c).line) rest) (same_sweeps t p e),
          )

    pub row_sweep : (w.pass t).sweeps ≡ Some c → (q : CondRootView) → p.sweeps ≡ None → q.line ≡ []
        → IsStep size (part_of w) (Sweep t c) (Count (length (w.root c).line)) (part_of (turned w t p spots c (w.word c) q))
    row_sweep lowered q e none_left = (
      (near, among, lowered),
      refl,
      part_is t p spots c (w.word c) q w.word (put lines c (drop (length (w.root c).line) (w.root c).line))
          (put sweeping t None) (put_again w.word c)
          (now_line c q (drop (length (w.root c).line) (w.root c).line)
          (none_left ∙ sym (drop_all (length (w.root c).line) (w.root c).line (omega arith)))) (now_sweeps t p None e),
    )
