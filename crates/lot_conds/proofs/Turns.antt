-- The turns of each call: whatever world the words stand for, its step leads to one that they stand for then.
use Rattle.std.proofs.Common.{◌≡◌, ◌≢◌, ℕ, ◌+◌, ◌<◌, ◌≤◌, ◌&&◌, ◌⊎◌, ◌==◌, Bool, true, false, List, [], ◌∷◌, ◌++◌, take}
use Rattle.std.proofs.Common.{drop, length, get_or, set, refl, sym, ap, subst, ◌∙◌, inl}
use Rattle.std.proofs.Common.{inr, ⊎_elim, arith, Option, Some, None}
use Rattle.std.specs.List.{Contains}
use Rattle.std.proofs.lemmas.List.{append-nil, length-append, set-get_or, length-take, take-append-drop, nil_from_length}
use mathlib.Core.Option as maybe
use Rattle.lot_core.specs.Model.{put}
use Rattle.lot_core.specs.Steps.{IsCallCount, SaysMoreBehind, dequeued_count, flag_after_call}
use Rattle.lot_core.proofs.Members.{some_behind}
use Rattle.lot_core.specs.Parts.{IsAmongConds, IsCalmIn}
use Rattle.lot_events.specs.declared.events.Event.TheVariants.{Enlist, Look, Call, Lower, Sweep}
use Rattle.lot_events.specs.declared.events.Seen.TheVariants.{Bool as Saw, Done, Count}
use Rattle.lot_core.proofs.Put.{put_same, put_other, put_again}
use Rattle.lot_rights.specs.declared.views.Access.TheVariants.{Makes, Posts, Collects}
use Rattle.lot_rights.specs.Shown.{PassShown, RootShown}
use Rattle.lot_rights.specs.Layout.{word_at, letter_at}
use Rattle.lot_rights.specs.World.{Spot, awake, queued, owed, lying, letter_of, letters_of, IsKeyOf, WordsFit}
use Rattle.lot_rights.specs.Steps.{Notes, RootNotes, PassTurn, BothTurn, AllowsPass, AllowsBoth, AllowsRoot}
use Rattle.lot_rights.proofs.Lines.{one_less}
use Rattle.lot_rights.proofs.Owing.{owed_more, owed_less, owed_same}
use Rattle.lot_rights.proofs.Worlds.{same_letters, one_letter, word_written, letter_written}
use Rattle.lot_conds.specs.declared.views.CondPassView.{CondPassView}
use Rattle.lot_conds.specs.declared.views.CondRootView.{CondRootView}
use Rattle.lot_conds.specs.declared.views.Size.{Size}
use Rattle.lot_conds.specs.World.{CondWorld, flag_word, SpotFits, Kept}
use Rattle.lot_conds.specs.Rule.{key_count, sizes_of, part_of, IsStep, Fits, meaning}
use Rattle.lot_conds.specs.Calls.{IsCalm, enlisted, lowering, called_more, swept_pass, one_wait_more, enlisted_root, called_root}
use Rattle.lot_conds.specs.Calls.{swept_root, paid_root, CollectedBy}
use Rattle.lot_conds.proofs.Machine.{turned, owing, awake_is}
use Rattle.lot_conds.proofs.Enlists.{is_awake, enlists_kept, lowers_kept}
use Rattle.lot_conds.proofs.Takes.{took_root, takes_letters, takes_kept}
use Rattle.lot_conds.proofs.Letters.{waits, waits_out, posts_kept, collects_kept}
use Rattle.lot_conds.proofs.Rows.{same_part, row_enlist, row_look, row_lower, row_call, row_sweep}

-- ---- a world after an event
module _ (size : Size) (w : CondWorld) (t : ℕ) (p : CondPassView) (spots : ℕ → Spot) (c : ℕ) (f : Bool) (q : CondRootView) where
  words_turned : (ws : List ℕ) → Fits size w ws → (x : ℕ) → IsAmongConds size.locks size.conds c → x ≡ flag_word f
      → letters_of spots ≡ letters_of w.spot
      → WordsFit flag_word (sizes_of size) (turned w t p spots c f q) (set ws (word_at c) x)
  words_turned ws ok x among is letters = word_written flag_word (sizes_of size) w (turned w t p spots c f q) ws ok.words c x among
      (is ∙ sym (ap flag_word (put_same w.word c f))) (λ d ne. ap flag_word (put_other w.word c f d ne)) letters

  passes_else : (u : ℕ) (x : CondPassView) → u ≢ t → (u < size.threads) × (w.pass u ≡ x) → (u < size.threads) × (put w.pass t p u ≡ x)
  passes_else u x ne h = (h.0, put_other w.pass t p u ne ∙ h.1)

  roots_else : (d : ℕ) (y : CondRootView) → d ≢ c → IsAmongConds size.locks size.conds d × (w.root d ≡ y)
      → IsAmongConds size.locks size.conds d × (put w.root c q d ≡ y)
  roots_else d y ne h = (h.0, put_other w.root c q d ne ∙ h.1)

-- the root that is put again
roots_same : (size : Size) (w : CondWorld) (c d : ℕ) (y : CondRootView) → IsAmongConds size.locks size.conds d × (w.root d ≡ y)
    → IsAmongConds size.locks size.conds d × (put w.root c (w.root c) d ≡ y)
roots_same size w c d y h = (h.0, (λ i. put_again w.root c i d) ∙ h.1)

passes_same : (size : Size) (w : CondWorld) (t u : ℕ) (x : CondPassView) → (u < size.threads) × (w.pass u ≡ x)
    → (u < size.threads) × (put w.pass t (w.pass t) u ≡ x)
passes_same size w t u x h = (h.0, (λ i. put_again w.pass t i u) ∙ h.1)

-- a thread whose pass is calm is calm in the part of the model
calm_in : (size : Size) (w : CondWorld) → Kept size.threads (key_count size) w → (t : ℕ) (p : CondPassView) → w.pass t ≡ p → IsCalm p
    → IsCalmIn (part_of w) t
calm_in size w ok t p is calm =
    let home : (w.pass t).out ≡ None = ap (λ (x : CondPassView). x.out) is ∙ calm.0 in (
      ap (λ (x : CondPassView). x.sweeps) is ∙ calm.1,
      λ k h. let e : awake ≡ queued k =
          sym (awake_is size.threads w.root t (w.pass t) (w.spot t) (ok.threads t).spot home) ∙ (ok.threads t).in_line k h in cc,
    )

-- ---- looking and lowering
flag_found : (f : Bool) → (flag_word f == 1) ≡ f
flag_found true = refl
flag_found false = refl

abbrev pub Looks : PassShown CondPassView → ℕ → ℕ → PassShown CondPassView → Type 0
Looks p c n p' = Notes p p.own (Makes (Look p.thread c) (Saw (n == 1))) p'

abbrev pub Lowers : PassShown CondPassView → ℕ → PassShown CondPassView → Type 0
Lowers p c p' = Notes p (lowering p.own c) (Makes (Lower p.thread c) Done) p'

module _ (size : Size) (p : PassShown CondPassView) (c : ℕ) (among : IsAmongConds size.locks size.conds c) (calm : IsCalm p.own) where
  pub looks : AllowsPass (meaning size) (word_at c) (λ n. n) p (Looks p c)
  looks w ws hs ok fit small =
      let found = ok.words.words c among in
      record {
        own = p.own;
        access = Makes (Look p.thread c) (Saw (get_or ws (word_at c) 0 == 1));
        world = w;
        fits = subst (Fits size w) (sym (set-get_or ws (word_at c) 0)) ok;
        pass = fit;
        passes = λ u x ne h. h;
        roots = λ d y h. h;
        made = (
          refl,
          (
            row_look w size p.thread fit.0 c among (w.pass p.thread) w.spot (calm_in size w ok.kept p.thread p.own fit.1 calm)
                (get_or ws (word_at c) 0 == 1)
                (ap (λ z. z == 1) found ∙ flag_found (w.word c)),
            refl,
          ),
        );
        owed = λ k. refl;
        counted = λ log. tt;
        told = λ k. (k, refl);
      }

  pub lowers : AllowsPass (meaning size) (word_at c) (λ _. 0) p (λ _. Lowers p c)
  lowers w ws hs ok fit small =
      let t : ℕ = p.thread in
      let p1 : CondPassView = lowering (w.pass t) c in
      let calm' : (w.pass t).sweeps ≡ None = ap (λ (x : CondPassView). x.sweeps) fit.1 ∙ calm.1 in
      record {
        own = lowering p.own c;
        access = Makes (Lower t c) Done;
        world = turned w t p1 w.spot c false (w.root c);
        fits = record {
          some = ok.some;
          words = words_turned size w t p1 w.spot c false (w.root c) ws ok 0 among refl refl;
          kept = lowers_kept size.threads (key_count size) w ok.kept t c fit.0 calm';
        };
        pass = (fit.0, put_same w.pass t p1 ∙ ap (λ x. lowering x c) fit.1);
        passes = passes_else size w t p1 w.spot c false (w.root c);
        roots = roots_same size w c;
        made = (refl, (row_lower w size t fit.0 c among p1 w.spot (calm_in size w ok.kept t p.own fit.1 calm) refl, refl));
        owed = owed_same (sizes_of size) (λ r. length r.owes) w.root c (w.root c) refl;
        counted = λ log. tt;
        told = λ k. (k, refl);
      }

-- ---- queueing, calling and sweeping
and_true : (f : Bool) → (f && true) ≡ f
and_true true = refl
and_true false = refl

and_false : (f : Bool) → (f && false) ≡ false
and_false true = refl
and_false false = refl

flag_kept : (f more : Bool) (line : List ℕ) → more ≡ true → line ≢ [] → flag_after_call f more line ≡ f
flag_kept f more [] e some = absurd (some refl)
flag_kept f more (u ∷ line) e some = ap (λ b. f && b) e ∙ and_true f

flag_cleared : (f more : Bool) (line : List ℕ) → (line ≡ []) ⊎ (more ≡ false) → flag_after_call f more line ≡ false
flag_cleared f more [] e = refl
flag_cleared f more (u ∷ line) e =
    ⊎_elim {C = (f && more) ≡ false} (λ g. absurd (let h : u ∷ line ≡ [] = g in cc)) (λ m. ap (λ b. f && b) m ∙ and_false f) e

-- where somebody is left, more was said, so the flag is as it was
flag_left : (f more : Bool) (n : ℕ) (line : List ℕ) → SaysMoreBehind n line more → flag_after_call f more line ≡ false
    → drop n line ≢ [] → f ≡ false
flag_left f more n line says e some =
    let behind : n < length line = some_behind n line some in
    sym (flag_kept f more line (says behind) (λ none_left. let z : length line ≡ 0 = ap length none_left in absurd (omega arith))) ∙ e

other_sweeps : (o : Option ℕ) (c k : ℕ) → o ≡ Some c → k ≢ c → o ≡ Some k → None ≡ Some k
other_sweeps o c k e ne f = absurd (ne (let g : Some k ≡ Some c = sym f ∙ e in cc))

-- with the lock l
abbrev pub EnlistsWith : ℕ → PassShown CondPassView → RootShown CondRootView → PassShown CondPassView → RootShown CondRootView → Type 0
EnlistsWith l p q p' q' =
    Notes p (enlisted p.own q.key) (Makes (Enlist p.thread q.key l) Done) p' × (q' ≡ record q { own = enlisted_root q.own p.thread })

abbrev pub Enlists : PassShown CondPassView → RootShown CondRootView → PassShown CondPassView → RootShown CondRootView → Type 0
Enlists = EnlistsWith 0

abbrev pub Calls : PassShown CondPassView → RootShown CondRootView → ℕ → Bool → PassShown CondPassView → RootShown CondRootView → Type 0
Calls p q n more p' q' =
    Notes p (called_more p.own q.key (dequeued_count n q.own.line))
    (Makes (Call p.thread q.key n more) (Count (dequeued_count n q.own.line))) p' × (q' ≡ record q { own = called_root q.own n })

abbrev pub Sweeps : PassShown CondPassView → RootShown CondRootView → PassShown CondPassView → RootShown CondRootView → Type 0
Sweeps p q p' q' =
    Notes p (swept_pass p.own q.key (length q.own.line)) (Makes (Sweep p.thread q.key) (Count (length q.own.line))) p'
    × (q' ≡ record q { own = swept_root q.own })

module _ (size : Size) (p : PassShown CondPassView) (q : RootShown CondRootView) where
  abbrev t : ℕ
  t = p.thread

  abbrev c : ℕ
  c = q.key

  enlists_turn : IsCalm p.own → (l : ℕ) → l < size.locks
      → (w : CondWorld) (ws : List ℕ) (hs : List (maybe.Option (Unit {0}))) → Fits size w ws
      → (t < size.threads) × (w.pass t ≡ p.own) → IsKeyOf (sizes_of size) c × (w.root c ≡ q.own)
      → BothTurn (meaning size) (word_at c) 1 p q (EnlistsWith l p q) w ws hs
  enlists_turn calm l lock w ws hs ok fit root =
      let p1 : CondPassView = enlisted (w.pass t) c in
      let q1 : CondRootView = enlisted_root (w.root c) t in
      let spots : ℕ → Spot = put w.spot t (queued c) in
      let home : (w.pass t).out ≡ None = ap (λ (x : CondPassView). x.out) fit.1 ∙ calm.0 in
      let letters : letters_of spots ≡ letters_of w.spot =
      same_letters w.spot t (queued c) (ap letter_of (sym (is_awake size.threads (key_count size) w ok.kept t c fit.0 root.0.1 home))) in
      record {
        own = enlisted p.own c;
        its = enlisted_root q.own t;
        access = Makes (Enlist t c l) Done;
        world = turned w t p1 spots c true q1;
        fits = record {
          some = ok.some;
          words = words_turned size w t p1 spots c true q1 ws ok 1 root.0 refl letters;
          kept = enlists_kept size.threads (key_count size) w ok.kept t c fit.0 root.0.1 home;
        };
        pass = (fit.0, put_same w.pass t p1 ∙ ap (λ x. enlisted x c) fit.1);
        root = (root.0, put_same w.root c q1 ∙ ap (λ x. enlisted_root x t) root.1);
        passes = passes_else size w t p1 spots c true q1;
        roots = roots_else size w t p1 spots c true q1;
        made =
            (refl, (row_enlist w size t fit.0 c root.0 p1 spots (calm_in size w ok.kept t p.own fit.1 calm) l lock q1 refl refl, letters));
        owed = owed_same (sizes_of size) (λ r. length r.owes) w.root c q1 refl;
        counted = λ log same all. tt;
        told = λ k. ((k, refl), refl);
      }

  pub enlists_with : (l : ℕ) → l < size.locks → IsCalm p.own → AllowsBoth (meaning size) (word_at c) (λ _. 1) p q (λ _. EnlistsWith l p q)
  enlists_with l lock calm w ws hs ok fit root small = enlists_turn calm l lock w ws hs ok fit root

  -- to a table of conditions alone, which lock it is makes no difference: there is the lock 0
  pub enlists : IsCalm p.own → AllowsBoth (meaning size) (word_at c) (λ _. 1) p q (λ _. Enlists p q)
  enlists calm w ws hs ok fit root small = enlists_turn calm 0 ok.some w ws hs ok fit root

  module _ (calm : IsCalm p.own) (n : ℕ) (more : Bool) (few : IsCallCount n) (says : SaysMoreBehind n q.own.line more) where
    -- in the world w the thread calls at most n of c's line, and c's word becomes x, which says its flag after that
    module _ (w : CondWorld) (ws : List ℕ) (hs : List (maybe.Option (Unit {0}))) (ok : Fits size w ws)
        (fit : (t < size.threads) × (w.pass t ≡ p.own)) (root : IsAmongConds size.locks size.conds c × (w.root c ≡ q.own))
        (x : ℕ) (is : x ≡ flag_word (flag_after_call (w.word c) more q.own.line)) where
      abbrev flag : Bool
      flag = flag_after_call (w.word c) more q.own.line

      abbrev caller : CondPassView
      caller = called_more (w.pass t) c (dequeued_count n q.own.line)

      abbrev spots : ℕ → Spot
      spots = owing c (take n q.own.line) w.spot

      abbrev rest : CondRootView
      rest = took_root (w.root c) (take n q.own.line) (drop n q.own.line)

      -- the line is those that are dequeued, and behind them those that are not
      parted : (w.root c).line ≡ take n q.own.line ++ drop n q.own.line
      parted = ap (λ (z : CondRootView). z.line) root.1 ∙ sym (take-append-drop n q.own.line)

      -- no letter is posted or collected
      letters : letters_of spots ≡ letters_of w.spot
      letters = takes_letters size.threads (key_count size) w ok.kept c root.0.1 (take n q.own.line) (drop n q.own.line) parted flag

      -- the rule of threads and conditions is kept
      call_kept : Kept size.threads (key_count size) (turned w t caller spots c flag rest)
      call_kept = subst (λ z. Kept size.threads (key_count size) (turned w t (called_more (w.pass t) c z) spots c flag rest))
          (length-take n q.own.line)
          (takes_kept size.threads (key_count size) w ok.kept c root.0.1 (take n q.own.line) (drop n q.own.line) parted flag t fit.0
          (w.pass t).sweeps (λ _ _ e. e) (λ e some. (flag_left (w.word c) more n q.own.line says e some, (λ g. g))))

      -- it is the model's step
      call_step : IsStep size (part_of w) (Call t c n more) (Count (dequeued_count n q.own.line))
          (part_of (turned w t caller spots c flag rest))
      call_step = subst
          (λ z. IsStep size (part_of w) (Call t c n more) (Count (dequeued_count n z))
          (part_of (turned w t caller spots c (flag_after_call (w.word c) more z) rest))) (ap (λ (z : CondRootView). z.line) root.1)
          (row_call w size t fit.0 c root.0 caller spots (calm_in size w ok.kept t p.own fit.1 calm) n more rest few
          (subst (λ (z : CondRootView). SaysMoreBehind n z.line more) (sym root.1) says) refl
          (ap (λ (z : CondRootView). drop n z.line) (sym root.1)))

      -- those that are dequeued are owed a letter
      more_owed : dequeued_count n q.own.line + length (w.root c).owes ≡ length rest.owes
      more_owed =
          let long = length-append (w.root c).owes (take n q.own.line) in
          let taken = length-take n q.own.line in
          omega (arith, long, taken)

      -- so a call is a step of the pass and the root
      calls : BothTurn (meaning size) (word_at c) x p q (Calls p q n more) w ws hs
      calls = record {
        own = called_more p.own c (dequeued_count n q.own.line);
        its = called_root q.own n;
        access = Makes (Call t c n more) (Count (dequeued_count n q.own.line));
        world = turned w t caller spots c flag rest;
        fits = record {
          some = ok.some;
          words = words_turned size w t caller spots c flag rest ws ok x root.0 is letters;
          kept = call_kept;
        };
        pass = (fit.0, put_same w.pass t caller ∙ ap (λ z. called_more z c (dequeued_count n q.own.line)) fit.1);
        root = (root.0, put_same w.root c rest ∙ ap (λ z. took_root z (take n q.own.line) (drop n q.own.line)) root.1);
        passes = passes_else size w t caller spots c flag rest;
        roots = roots_else size w t caller spots c flag rest;
        made = (refl, (call_step, letters));
        owed = owed_more (sizes_of size) (λ r. length r.owes) w.root c rest (dequeued_count n q.own.line) root.0 more_owed;
        counted = λ log same all. tt;
        told = λ i. ((i, refl), refl);
      }

    pub call_loads : more ≡ true → 0 < dequeued_count n q.own.line
        → AllowsBoth (meaning size) (word_at c) (λ n. n) p q (λ _. Calls p q n more)
    call_loads is_more some w ws hs ok fit root small =
        let kept : flag_after_call (w.word c) more q.own.line ≡ w.word c = flag_kept (w.word c) more q.own.line is_more
        (λ none_left. let z : length q.own.line ≡ 0 = ap length none_left in absurd (omega arith)) in
        calls w ws hs ok fit root (get_or ws (word_at c) 0) (ok.words.words c root.0 ∙ ap flag_word (sym kept))

    pub call_stores : (dequeued_count n q.own.line ≡ 0) ⊎ (more ≡ false)
        → AllowsBoth (meaning size) (word_at c) (λ _. 0) p q (λ _. Calls p q n more)
    call_stores last w ws hs ok fit root small = calls w ws hs ok fit root 0 (ap flag_word (sym (flag_cleared (w.word c) more q.own.line
        (⊎_elim {C = (q.own.line ≡ []) ⊎ (more ≡ false)}
        (λ none_taken. inl (nil_from_length q.own.line (omega (arith, few.0)))) inr last))))

  pub sweeps : p.own.sweeps ≡ Some c → AllowsBoth (meaning size) (word_at c) (λ n. n) p q (λ _. Sweeps p q)
  sweeps lowered w ws hs ok fit root small =
      let m : ℕ = key_count size in
      let lowered' : (w.pass t).sweeps ≡ Some c = ap (λ (z : CondPassView). z.sweeps) fit.1 ∙ lowered in
      let line : (w.root c).line ≡ q.own.line = ap (λ (z : CondRootView). z.line) root.1 in
      let line' : (w.root c).line ≡ q.own.line ++ [] = line ∙ sym (append-nil q.own.line) in
      let f : Bool = w.word c in
      let p1 : CondPassView = swept_pass (w.pass t) c (length q.own.line) in
      let q1 : CondRootView = took_root (w.root c) q.own.line [] in
      let spots : ℕ → Spot = owing c q.own.line w.spot in
      let letters : letters_of spots ≡ letters_of w.spot = takes_letters size.threads m w ok.kept c root.0.1 q.own.line [] line' f in
      record {
        own = swept_pass p.own c (length q.own.line);
        its = swept_root q.own;
        access = Makes (Sweep t c) (Count (length q.own.line));
        world = turned w t p1 spots c f q1;
        fits = record {
          some = ok.some;
          words = words_turned size w t p1 spots c f q1 ws ok (get_or ws (word_at c) 0) root.0 (ok.words.words c root.0) letters;
          kept =
              takes_kept size.threads m w ok.kept c root.0.1 q.own.line [] line' f t fit.0 None
              (λ k ne e. other_sweeps (w.pass t).sweeps c k lowered' ne e) (λ e some. absurd (some refl));
        };
        pass = (fit.0, put_same w.pass t p1 ∙ ap (λ z. swept_pass z c (length q.own.line)) fit.1);
        root = (root.0, put_same w.root c q1 ∙ ap (λ z. took_root z q.own.line []) root.1);
        passes = passes_else size w t p1 spots c f q1;
        roots = roots_else size w t p1 spots c f q1;
        made = (
          refl,
          (
            subst (λ z. IsStep size (part_of w) (Sweep t c) (Count (length z)) (part_of (turned w t p1 spots c f q1))) line
                (row_sweep w size t fit.0 c root.0 p1 spots lowered' q1 refl refl),
            letters,
          ),
        );
        owed = owed_more (sizes_of size) (λ r. length r.owes) w.root c q1 (length q.own.line) root.0
            (let long = length-append (w.root c).owes q.own.line in omega (arith, long));
        counted = λ log same all. tt;
        told = λ k. ((k, refl), refl);
      }

-- ---- letters
abbrev pub Pays : RootShown CondRootView → ℕ → RootShown CondRootView → Type 0
Pays q u q' = RootNotes q (paid_root q.own u) (Posts q.key u 0) q'

module _ (size : Size) (q : RootShown CondRootView) (u : ℕ) (debt : Contains q.own.owes u) where
  pub posts : AllowsRoot (meaning size) (letter_at u) (λ _. 1) q (λ _. Pays q u)
  posts w ws hs ok root small =
      let m : ℕ = key_count size in
      let c : ℕ = q.key in
      let debt' : Contains (w.root c).owes u = subst (λ (z : CondRootView). Contains z.owes u) (sym root.1) debt in
      let q1 : CondRootView = paid_root (w.root c) u in
      let spots : ℕ → Spot = put w.spot u (lying c 0) in
      let w' : CondWorld = turned w u (w.pass u) spots c (w.word c) q1 in
      record {
        its = paid_root q.own u;
        access = Posts c u 0;
        world = w';
        fits = record {
          some = ok.some;
          words =
              letter_written flag_word (sizes_of size) w w' ws ok.words u 1 (waits_out size.threads m w ok.kept u c debt').0.0
              (sym (ap letter_of (put_same w.spot u (lying c 0))))
              (λ v ne. ap letter_of (put_other w.spot u (lying c 0) v ne)) (λ d. ap flag_word (λ i. put_again w.word c i d));
          kept = posts_kept size.threads m w ok.kept u c debt';
        };
        root = (root.0, put_same w.root c q1 ∙ ap (λ z. paid_root z u) root.1);
        passes = passes_same size w u;
        roots = roots_else size w u (w.pass u) spots c (w.word c) q1;
        made = (
          refl,
          (
            ap letter_of (waits size.threads m w ok.kept u c debt'),
            λ i. record { part = same_part w u (w.pass u) spots c q1 refl refl i; letters = one_letter w.spot u (lying c 0) i },
          ),
        );
        owed = owed_less (sizes_of size) (λ r. length r.owes) w.root c q1 root.0 (one_less u (w.root c).owes debt');
        counted = λ log. tt;
        told = λ k. (k, refl);
      }

abbrev pub Collecting : PassShown CondPassView → ℕ → PassShown CondPassView → Type 0
Collecting p n q = (n ≤ 2) × CollectedBy p n q

module _ (size : Size) (p : PassShown CondPassView) where
  module _ (w : CondWorld) (ws : List ℕ) (hs : List (maybe.Option (Unit {0}))) (ok : Fits size w ws)
      (fit : (p.thread < size.threads) × (w.pass p.thread ≡ p.own)) where
    abbrev Turn : ℕ → Type 0
    Turn n = PassTurn (meaning size) (letter_at p.thread) 0 p (Collecting p n) w ws hs

    -- no letter lies
    none_lies : letter_of (w.spot p.thread) ≡ 0 → Turn 0
    none_lies none_there = record {
      own = p.own;
      access = Collects p.thread None;
      world = w;
      fits =
          subst (Fits size w)
          (sym (ap (set ws (letter_at p.thread)) (sym none_there ∙ sym (ok.words.letters p.thread fit.0))
          ∙ set-get_or ws (letter_at p.thread) 0)) ok;
      pass = fit;
      passes = λ u x ne h. h;
      roots = λ d y h. h;
      made = (refl, (none_there, refl));
      owed = λ c. refl;
      counted = λ log. tt;
      told = λ k. (omega arith, (k, refl));
    }

    one_lies : (c : ℕ) → w.spot p.thread ≡ lying c 0 → Turn 1
    one_lies c lies =
        let t : ℕ = p.thread in
        let m : ℕ = key_count size in
        let fits : SpotFits size.threads w.root t (w.pass t) (lying c 0) =
        subst (SpotFits size.threads w.root t (w.pass t)) lies (ok.kept.threads t).spot in
        let near : c < m = (ok.kept.threads t).outs c fits.0.1 in
        let p1 : CondPassView = one_wait_more (w.pass t) c in
        let spots : ℕ → Spot = put w.spot t awake in
        let w' : CondWorld = turned w t p1 spots c (w.word c) (w.root c) in
        record {
          own = one_wait_more p.own c;
          access = Collects t (Some 0);
          world = w';
          fits = record {
            some = ok.some;
            words =
                letter_written flag_word (sizes_of size) w w' ws ok.words t 0 fit.0 (sym (ap letter_of (put_same w.spot t awake)))
                (λ v ne. ap letter_of (put_other w.spot t awake v ne))
                (λ d. ap flag_word (λ i. put_again w.word c i d));
            kept = collects_kept size.threads m w ok.kept t c near lies;
          };
          pass = (fit.0, put_same w.pass t p1 ∙ ap (λ z. one_wait_more z c) fit.1);
          passes = passes_else size w t p1 spots c (w.word c) (w.root c);
          roots = roots_same size w c;
          made = (
            refl,
            (
              ap letter_of lies,
              λ i. record {
                part = same_part w t p1 spots c (w.root c) refl refl i;
                letters = one_letter w.spot t awake i;
              },
            ),
          );
          owed = owed_same (sizes_of size) (λ r. length r.owes) w.root c (w.root c) refl;
          counted = λ log. tt;
          told = λ k. (omega arith, (refl, (c, (sym (ap (λ (z : CondPassView). z.out) fit.1) ∙ fits.0.1, (k, refl)))));
        }

    by_spot : (sp : Spot) → w.spot p.thread ≡ sp → SpotFits size.threads w.root p.thread (w.pass p.thread) sp → Turn (letter_of sp)
    by_spot awake is fits = none_lies (ap letter_of is)
    by_spot (queued c) is fits = none_lies (ap letter_of is)
    by_spot (owed c k) is fits = none_lies (ap letter_of is)
    by_spot (lying c k) is fits = subst (λ z. Turn (z + 1)) (sym fits.1) (one_lies c (is ∙ ap (lying c) fits.1))

  pub collects : AllowsPass (meaning size) (letter_at p.thread) (λ _. 0) p (Collecting p)
  collects w ws hs ok fit small =
      subst (Turn w ws hs ok fit) (sym (ok.words.letters p.thread fit.0))
      (by_spot w ws hs ok fit (w.spot p.thread) refl (ok.kept.threads p.thread).spot)
