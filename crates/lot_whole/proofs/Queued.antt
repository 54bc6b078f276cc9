-- Who is in the line of a key has no letter, of whatever kind the key and the letter are.
use Rattle.std.proofs.Common.{◌≡◌, ℕ, ◌<◌, true, List, sym, ap, subst, ◌∙◌, Option}
use Rattle.std.specs.Prelude.{is_some}
use Rattle.std.specs.List.{Contains}
use mathlib.Core.Option as maybe
use Rattle.lot_core.specs.Parts.{LockPart, CondPart, SemaphorePart}
use Rattle.lot_rights.specs.World.{queued, letter_of}
use Rattle.lot_words.specs.declared.views.LockPassView.{LockPassView}
use Rattle.lot_words.specs.CallersRule.{CallersRule}
use Rattle.lot_words.specs.World.{SpotFits as LockSpotFits}
use Rattle.lot_conds.specs.declared.views.CondPassView.{CondPassView}
use Rattle.lot_conds.specs.World.{SpotFits as CondSpotFits}
use Rattle.lot_sems.specs.World.{sleeps}
use Rattle.lot_whole.specs.Family.{Which, lock, cond, sem, LotSize, away, homes_in, meaning_of, part_in}
use Rattle.lot_whole.specs.Whole.{line_in, IsQueued}
use Rattle.lot_whole.specs.Lot.{own_of, sum_of, LotWorld, letters_in, PassOk}
use Rattle.lot_whole.proofs.Family.{not_true, three_one, still}

module _ {V Part : Type 0} (rule : CallersRule V Part) (z : LotSize) (xs : List V) (w : LotWorld rule z xs)
    (hs : List (maybe.Option (Option V)))
    (parts : (j : Which) → (meaning_of rule z xs j).Fits (w.each j) (w.words j) (homes_in j hs))
    (passes : (t : ℕ) → t < z.threads → PassOk rule z xs w t (w.pass t))
    (agrees : (j : Which) → part_in rule z xs j w.whole ≡ ((meaning_of rule z xs j).told_by (w.each j)).part) where
  -- who is in a line is away in that kind, which has no letter for it
  queued_away : (j : Which) (c t : ℕ) → Contains (line_in w.whole j c) t
      → (t < z.threads) × (away V j (own_of V (w.pass t) j) ≡ true) × (letters_in rule z xs w j t ≡ 0)
  queued_away lock c t h =
      let v = w.each lock in
      let kept = (parts lock).kept.threads t in
      let at : v.spot t ≡ queued c = kept.in_line c (subst (λ (a : LockPart). Contains (a.locks.line c) t) (agrees lock) h) in
      let fits : LockSpotFits z.threads v.word v.root t (v.pass t) (queued c) =
      subst (LockSpotFits z.threads v.word v.root t (v.pass t)) at kept.spot in (
        fits.0.0,
        ap (λ (p : LockPassView V). p.asleep) (sym ((passes t fits.0.0).each lock).1) ∙ fits.0.1,
        ap letter_of at,
      )
  queued_away cond c t h =
      let v = w.each cond in
      let kept = (parts cond).kept.threads t in
      let at : v.spot t ≡ queued c = kept.in_line c (subst (λ (a : CondPart). Contains (a.conds.line c) t) (agrees cond) h) in
      let fits : CondSpotFits z.threads v.root t (v.pass t) (queued c) =
      subst (CondSpotFits z.threads v.root t (v.pass t)) at kept.spot in (
        fits.0.0,
        ap is_some (ap (λ (p : CondPassView). p.out) (sym ((passes t fits.0.0).each cond).1) ∙ fits.0.1),
        ap letter_of at,
      )
  queued_away sem c t h =
      let v = w.each sem in
      let there : Contains (v.part.sems.line c) t = subst (λ (a : SemaphorePart). Contains (a.sems.line c) t) (agrees sem) h in
      let at = (parts sem).letters.in_line t c there in
      let near = ((parts sem).sound.seeks c t there).0 in
      (near, sym ((passes t near).each sem).asleep ∙ ap sleeps at, ap letter_of at)

  pub none_queued : (t : ℕ) → IsQueued w.whole t → sum_of (letters_in rule z xs w) t ≡ 0
  none_queued t h =
      let j : Which = h.0 in
      let q = queued_away j h.1 t h.2 in
      let mine = passes t q.0 in
      three_one (letters_in rule z xs w) j t (λ k ne.
      still rule z xs k (w.each k) (w.words k) hs (parts k) t (own_of V (w.pass t) k) (mine.each k)
      (not_true (away V k (own_of V (w.pass t) k)) (λ there. ne (mine.apart k j there q.1)))) ∙ q.2
