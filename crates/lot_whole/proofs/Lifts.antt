-- What a kind allows, the lot allows.
use Rattle.std.proofs.Common.{◌≡◌, ◌≢◌, ℕ, ◌+◌, ◌*◌, ◌^◌, ◌<◌, List, length, get_or, set, refl, sym, ap, subst, ◌∙◌, inl, arith, Option}
use mathlib.Core.Option as maybe
use Rattle.lot_core.specs.Model.{put}
use Rattle.lot_core.specs.Rows.{told}
use Rattle.lot_core.proofs.Put.{put_same, put_other}
use Rattle.lot_rights.specs.declared.views.Access.{Access}
use Rattle.lot_rights.specs.History.{doer, taken_by, tokens_by}
use Rattle.lot_rights.specs.Layout.{word_at}
use Rattle.lot_rights.specs.Steps.{IsOwed, PassTurn, BothTurn, RootTurn}
use Rattle.lot_rights.proofs.Puts.{put_elim}
use Rattle.lot_words.specs.CallersRule.{CallersRule}
use Rattle.lot_whole.specs.declared.views.LotPassView.{LotPassView}
use Rattle.lot_whole.specs.Family.{Which, lock, cond, sem, LotSize, PassIn, homes_in, meaning_of, dput}
use Rattle.lot_whole.specs.Whole.{stand_of, moves_by, whole_by}
use Rattle.lot_whole.specs.Lot.{sum_of, owed_in, root_from, LotWorld, PassOk, LotFits, lot_meaning}
use Rattle.lot_whole.specs.Lifts.{part_pass, whole_root, lot_own, MayBeAway, InPlace, LiftsPass, LiftsBoth, LiftsRoot}
use Rattle.lot_whole.proofs.Owing.{owed_by_kind}
use Rattle.lot_whole.proofs.Steps.{root_in, found, Gone, gone, next, fits_after, pass_stays, pass_turned, roots_after, root_turned}

module _ {V Part : Type 0} (rule : CallersRule V Part) (z : LotSize) (xs : List V) where
  -- ---- a step of the thread t, of which the kind's turn is known
  module _ (j : Which) (w : LotWorld rule z xs) (ws : List ℕ) (hs : List (maybe.Option (Option V))) (ok : LotFits rule z xs w ws hs)
      (i : ℕ) (place : InPlace rule z xs j w i)
      (x : ℕ) (v : (meaning_of rule z xs j).World) (fits : (meaning_of rule z xs j).Fits v (set (w.words j) i x) (homes_in j hs))
      (a : Access) (g : Gone rule z xs j w ws hs ok i place x v fits a) where
    -- the others stand as they did
    stand_else : (t u : ℕ) → doer a ≡ 2 * t → u ≢ t → stand_of ((whole_by a w.whole).point u) ≡ stand_of (w.whole.point u)
    stand_else t u by ne = (λ h. g.moved t by h u)
        ∙ put_other (told stand_of w.whole.point) t (moves_by a (stand_of (w.whole.point t))) u ne

    stand_mine : (t : ℕ) (p : LotPassView V) → doer a ≡ 2 * t → PassOk rule z xs w t p
        → stand_of ((whole_by a w.whole).point t) ≡ moves_by a p.stand
    stand_mine t p by h = (λ y. g.moved t by y t)
        ∙ (put_same (told stand_of w.whole.point) t (moves_by a (stand_of (w.whole.point t))) ∙ ap (moves_by a) h.stand)

    -- the pass of t knows this now, and each other what it knew
    module _ (t : ℕ) (near : t < z.threads) (p : LotPassView V) (mine : PassOk rule z xs w t p) (own : PassIn V j) (by : doer a ≡ 2 * t)
        (may : MayBeAway j p own)
        (fit : (meaning_of rule z xs j).PassFits v t own)
        (others : (u : ℕ) (y : PassIn V j) → u ≢ t → (meaning_of rule z xs j).PassFits (w.each j) u y
        → (meaning_of rule z xs j).PassFits v u y) where
      abbrev passes : ℕ → LotPassView V
      passes = put w.pass t (lot_own j p own a)

      pub thread_fits : LotFits rule z xs (next rule z xs j w ws hs ok i place x v fits passes a g) (set ws i x) hs
      thread_fits = fits_after rule z xs j w ws hs ok i place x v fits passes a g
          (λ u here. put_elim (λ y. PassOk rule z xs (next rule z xs j w ws hs ok i place x v fits passes a g) u y) w.pass t
          (lot_own j p own a) u
          (λ e. subst (λ n. PassOk rule z xs (next rule z xs j w ws hs ok i place x v fits passes a g) n (lot_own j p own a)) (sym e)
          (pass_turned rule z xs j w ws hs ok i place x v fits passes a g t p mine own may fit (stand_mine t p by mine)))
          (λ ne. pass_stays rule z xs j w ws hs ok i place x v fits passes a g u (w.pass u) (ok.passes u here) (λ y. others u y ne)
          (stand_else t u by ne)))

  -- what roots of one kind owe, the lot's roots owe
  owed_lifts : (j : Which) (w : LotWorld rule z xs) (v : (meaning_of rule z xs j).World) (a : Access)
      → IsOwed (meaning_of rule z xs j) (w.each j) a v
      → (c : ℕ) → taken_by c a + sum_of (owed_in rule z xs w) c
      ≡ tokens_by c a + sum_of (λ k. (meaning_of rule z xs k).owed_in (dput {X = λ k. (meaning_of rule z xs k).World} j v w.each k)) c
  owed_lifts lock w v a due c = omega (arith, due c)
  owed_lifts cond w v a due c = omega (arith, due c)
  owed_lifts sem w v a due c = omega (arith, due c)

  pub lifts_pass : LiftsPass rule z xs
  lifts_pass j i f p told_of whole allows placed carries w ws hs ok fit small =
      let place = placed w ws hs ok fit in
      let same : get_or ws i 0 ≡ get_or (w.words j) i 0 = found rule z xs j w ws hs ok i place in
      let n : ℕ = get_or (w.words j) i 0 in
      let mine : PassOk rule z xs w p.thread p.own = subst (PassOk rule z xs w p.thread) fit.1 (ok.passes p.thread fit.0) in
      let turn : PassTurn (meaning_of rule z xs j) i (f n) (part_pass j p) (told_of n) (w.each j) (w.words j) (homes_in j hs) =
      allows (w.each j) (w.words j) (homes_in j hs) (ok.parts j) (mine.each j) (subst (λ m. m < 2 ^ 64) same small) in
      let carried = carries n turn.own turn.access turn.told in
      let g = gone rule z xs j w ws hs ok i place (f n) turn.world turn.fits turn.access turn.made.1 (carried.1 w ws hs ok fit) in
      let own : LotPassView V = lot_own j p.own turn.own turn.access in
      subst (λ m. PassTurn (lot_meaning rule z xs) i (f m) p (whole m) w ws hs) (sym same) (record {
        own = own;
        access = turn.access;
        world = next rule z xs j w ws hs ok i place (f n) turn.world turn.fits (put w.pass p.thread own) turn.access g;
        fits = thread_fits j w ws hs ok i place
            (f n) turn.world turn.fits turn.access g p.thread fit.0 p.own mine turn.own turn.made.0 carried.0 turn.pass turn.passes;
        pass = (fit.0, put_same w.pass p.thread own);
        passes = λ u y ne h. (h.0, put_other w.pass p.thread own u ne ∙ h.1);
        roots = λ d. roots_after rule z xs j w ws hs ok i place (f n) turn.world turn.fits (put w.pass p.thread own) turn.access g d
            (turn.roots d);
        made = (turn.made.0, g.leads);
        owed = owed_lifts j w turn.world turn.access turn.owed;
        counted = turn.counted;
        told = carried.2;
      })

  pub lifts_both : LiftsBoth rule z xs
  lifts_both j f p q told_of whole allows carries w ws hs ok fit root small =
      let i : ℕ = word_at q.key in
      let its = root_in rule z xs j w q.key q.own root in
      let place : InPlace rule z xs j w i = inl (q.key, (its.0, refl)) in
      let same : get_or ws i 0 ≡ get_or (w.words j) i 0 = found rule z xs j w ws hs ok i place in
      let n : ℕ = get_or (w.words j) i 0 in
      let mine : PassOk rule z xs w p.thread p.own = subst (PassOk rule z xs w p.thread) fit.1 (ok.passes p.thread fit.0) in
      let turn : BothTurn (meaning_of rule z xs j) i (f n) (part_pass j p) q (told_of n) (w.each j) (w.words j) (homes_in j hs) =
      allows (w.each j) (w.words j) (homes_in j hs) (ok.parts j) (mine.each j) its.1 (subst (λ m. m < 2 ^ 64) same small) in
      let carried = carries n turn.own turn.its turn.access turn.told in
      let g = gone rule z xs j w ws hs ok i place (f n) turn.world turn.fits turn.access turn.made.1 (carried.1 w ws hs ok fit root) in
      let own : LotPassView V = lot_own j p.own turn.own turn.access in
      subst (λ m. BothTurn (lot_meaning rule z xs) i (f m) p (whole_root j q) (whole m) w ws hs) (sym same) (record {
        own = own;
        its = root_from j turn.its;
        access = turn.access;
        world = next rule z xs j w ws hs ok i place (f n) turn.world turn.fits (put w.pass p.thread own) turn.access g;
        fits = thread_fits j w ws hs ok i place
            (f n) turn.world turn.fits turn.access g p.thread fit.0 p.own mine turn.own turn.made.0 carried.0 turn.pass turn.passes;
        pass = (fit.0, put_same w.pass p.thread own);
        root = root_turned rule z xs j w ws hs ok i place (f n) turn.world turn.fits
            (put w.pass p.thread own) turn.access g q.key turn.its its.0 turn.root;
        passes = λ u y ne h. (h.0, put_other w.pass p.thread own u ne ∙ h.1);
        roots = λ d y ne. roots_after rule z xs j w ws hs ok i place (f n) turn.world turn.fits (put w.pass p.thread own) turn.access g d
            (λ r. turn.roots d r ne) y;
        made = (turn.made.0, g.leads);
        owed = owed_lifts j w turn.world turn.access turn.owed;
        counted = λ log same all. turn.counted log same
            (all ∙ ap (λ n. length q.made + n) (owed_by_kind rule z xs w q.key j its.0));
        told = carried.2;
      })

  pub lifts_root : LiftsRoot rule z xs
  lifts_root j i f q told_of whole allows placed carries w ws hs ok root small =
      let its = root_in rule z xs j w q.key q.own root in
      let place = placed w ws hs ok root in
      let same : get_or ws i 0 ≡ get_or (w.words j) i 0 = found rule z xs j w ws hs ok i place in
      let n : ℕ = get_or (w.words j) i 0 in
      let turn : RootTurn (meaning_of rule z xs j) i (f n) q (told_of n) (w.each j) (w.words j) (homes_in j hs) =
      allows (w.each j) (w.words j) (homes_in j hs) (ok.parts j) its.1 (subst (λ m. m < 2 ^ 64) same small) in
      let carried = carries n turn.its turn.access turn.told in
      let g = gone rule z xs j w ws hs ok i place (f n) turn.world turn.fits turn.access turn.made.1 (carried.0 w ws hs ok root) in
      subst (λ m. RootTurn (lot_meaning rule z xs) i (f m) (whole_root j q) (whole m) w ws hs) (sym same) (record {
        its = root_from j turn.its;
        access = turn.access;
        world = next rule z xs j w ws hs ok i place (f n) turn.world turn.fits w.pass turn.access g;
        fits = fits_after rule z xs j w ws hs ok i place (f n) turn.world turn.fits w.pass turn.access g
            (λ u here. pass_stays rule z xs j w ws hs ok i place (f n) turn.world turn.fits w.pass turn.access g u (w.pass u)
            (ok.passes u here) (turn.passes u)
            (ap (λ s. stand_of (s.point u)) (g.rests q.key turn.made.0)));
        root = root_turned rule z xs j w ws hs ok i place (f n) turn.world turn.fits w.pass turn.access g q.key turn.its its.0 turn.root;
        passes = λ u y h. h;
        roots = λ d y ne. roots_after rule z xs j w ws hs ok i place (f n) turn.world turn.fits w.pass turn.access g d
            (λ r. turn.roots d r ne) y;
        made = (turn.made.0, g.leads);
        owed = owed_lifts j w turn.world turn.access turn.owed;
        counted = turn.counted;
        told = carried.1;
      })
