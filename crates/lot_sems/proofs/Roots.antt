-- The turns of the calls that take a semaphore's root, and of those that post and collect letters.
use Rattle.std.proofs.Common.{◌≡◌, ◌≢◌, ℕ, zero, suc, ◌+◌, ◌-◌, ◌*◌, ◌%◌, ◌^◌, ◌<◌, ◌≤◌, ◌&&◌, ◌==◌, Bool, true, false, List, [], ◌∷◌, ◌++◌}
use Rattle.std.proofs.Common.{get_or, set, bit_and, refl, sym, ap, subst, ◌∙◌}
use Rattle.std.proofs.Common.{arith, ne_eqb, Option, Some, None}
use Rattle.std.specs.List.{Contains}
use Rattle.std.proofs.lemmas.Nat.Bits.{and_high_mask}
use mathlib.Core.Option as maybe
use Rattle.lot_core.specs.Model.{put}
use Rattle.lot_core.specs.Steps.{SaysMore, first, none_left}
use Rattle.lot_events.specs.declared.events.Event.{Event}
use Rattle.lot_events.specs.declared.events.Event.TheVariants.{SemPark, SemPass, SemClear}
use Rattle.lot_events.specs.declared.events.Seen.{Seen}
use Rattle.lot_events.specs.declared.events.Seen.TheVariants.{Bool as Saw, Done, Sleeper}
use Rattle.lot_core.proofs.Members.{in_head}
use Rattle.lot_core.proofs.Put.{by_bit, put_same, put_other}
use Rattle.lot_rights.specs.declared.views.Access.TheVariants.{Makes, Posts, Collects}
use Rattle.lot_rights.specs.Shown.{PassShown, RootShown}
use Rattle.lot_rights.specs.History.{maker}
use Rattle.lot_rights.specs.Layout.{word_at, letter_at}
use Rattle.lot_rights.specs.World.{Spot, awake, queued, owed, lying, letter_of, letters_of, number_of, owed_at}
use Rattle.lot_rights.specs.Steps.{Notes, RootNotes, IsOwed, PassTurn, BothTurn, AllowsPass, AllowsBoth, AllowsRoot, pass_after}
use Rattle.lot_rights.proofs.Owing.{no_more, owed_more, owed_less}
use Rattle.lot_rights.proofs.Staying.{pass_stays, both_stay}
use Rattle.lot_rights.proofs.Worlds.{same_letters, one_letter, letter_written}
use Rattle.lot_sems.specs.declared.views.SemPassView.{SemPassView}
use Rattle.lot_sems.specs.declared.views.SemRootView.{SemRootView}
use Rattle.lot_sems.specs.World.{Numbers, sizes_of, SemWorld, word_of, told_in, sleeps, NoticesFit, PassKnows, RootKnows}
use Rattle.lot_sems.specs.Rule.{IsStep, Fits, meaning}
use Rattle.lot_sems.specs.Calls.{IsCalm, IsSeeking, MayGive, one_permit_less, woken, parked_pass, parked_root, passed_root, paid_root}
use Rattle.lot_sems.specs.Calls.{raise_of, CollectedBy}
use Rattle.lot_sems.proofs.Machine.{awake_is, in_no_line, notice_at, park_letters, was_queued, pass_letters, pass_sleeps, is_owed_here}
use Rattle.lot_sems.proofs.Machine.{post_letters, post_sleeps, collect_letters}
use Rattle.lot_sems.proofs.Rows.{turned, same_line, same_seeks, row_queued, row_not_queued, row_pass_none, row_pass, row_clear}
use Rattle.lot_sems.proofs.Turning.{after, fits_after, pass_after as knows_after, passes_else, roots_else, root_after, out_same, left_few}
use Rattle.lot_sems.proofs.Turns.{bit_few}

-- ---- what each step tells
abbrev pub Parks : PassShown SemPassView → RootShown SemRootView → ℕ → PassShown SemPassView → RootShown SemRootView → Type 0
Parks p q n p' q' =
    Notes p (parked_pass p.own (n == 1)) (Makes (SemPark p.thread q.key) (Saw (n == 1))) p'
    × (q' ≡ record q { own = parked_root q.own p.thread (n == 1) })

abbrev pub Passes : PassShown SemPassView → RootShown SemRootView → List ℕ → Bool → PassShown SemPassView → RootShown SemRootView → Type 0
Passes p q line more p' q' =
    Notes p (one_permit_less p.own q.key) (Makes (SemPass p.thread q.key more) (Sleeper (first line))) p'
    × (q' ≡ record q { own = passed_root q.own line })

abbrev pub Clears : PassShown SemPassView → RootShown SemRootView → PassShown SemPassView → RootShown SemRootView → Type 0
Clears p q p' q' = Notes p p.own (Makes (SemClear p.thread q.key) Done) p' × (q' ≡ q)

abbrev pub Pays : RootShown SemRootView → ℕ → RootShown SemRootView → Type 0
Pays q u q' = RootNotes q (paid_root q.own) (Posts q.key u 0) q'

abbrev pub Collecting : PassShown SemPassView → ℕ → PassShown SemPassView → Type 0
Collecting p n q = (n ≤ 2) × CollectedBy p n q

-- ---- words
-- 1 says that no permit is left and that the semaphore is parked
one_says : (left : ℕ) (b : Bool) → (word_of left b == 1) ≡ ((left == 0) && b)
one_says zero true = refl
one_says zero false = refl
one_says (suc l) true = ne_eqb (word_of (suc l) true) 1 (λ e. omega arith) ∙ sym (ap (λ z. z && true) (ne_eqb (suc l) 0 (λ e. omega arith)))
one_says (suc l) false =
    ne_eqb (word_of (suc l) false) 1 (λ e. omega arith) ∙ sym (ap (λ z. z && false) (ne_eqb (suc l) 0 (λ e. omega arith)))

-- the parked bit is cleared
cleared : (left : ℕ) (b : Bool) → word_of left b < 2 ^ 64 → bit_and (word_of left b) (2 ^ 64 - 2) ≡ word_of left false
cleared left b small = and_high_mask 64 1 (omega arith) (word_of left b) small ∙ omega (arith, bit_few b)

-- the parked bit becomes `more`, where it was set
raised : (left u : ℕ) (more : Bool) → (word_of left true + raise_of (Some u) more) ≡ word_of (left + 1) more
raised left u true = omega arith
raised left u false = omega arith

module _ (size : Numbers) (p : PassShown SemPassView) (q : RootShown SemRootView) (w : SemWorld) (ws : List ℕ)
    (hs : List (maybe.Option (Unit {0}))) (ok : Fits size w ws)
    (fit : PassKnows size w p.thread p.own) (root : RootKnows size w q.key q.own) where
  abbrev t : ℕ
  t = p.thread

  abbrev k : ℕ
  k = q.key

  abbrev n : ℕ
  n = get_or ws (word_at k) 0

  abbrev left : ℕ
  left = w.part.sems.left k

  abbrev parked : Bool
  parked = w.part.sems.parked k

  abbrev line : List ℕ
  line = w.part.sems.line k

  found : n ≡ word_of left parked
  found = ok.words.words k root.0

  -- ---- an event of pass and root
  makes : (x l : ℕ) (b : Bool) (xs : List ℕ) (o : ℕ) (spots : ℕ → Spot) (owes : ℕ → Option ℕ) (own : SemPassView) (its : SemRootView)
      (e : Event) (saw : Seen)
      (then : PassShown SemPassView → RootShown SemRootView → Type 0) → maker e ≡ t
      → IsStep size w.part e saw (turned w.part t k l b xs o (w.part.seeks t))
      → IsOwed (meaning size) w (Makes e saw) (after size w t k root.0 l b xs o (w.part.seeks t) spots owes)
      → x ≡ word_of l b → letters_of spots ≡ letters_of w.spot
      → NoticesFit size.threads (put w.part.sems.line k xs) w.part.seeks owes spots
      → ((u : ℕ) → u ≢ t → sleeps (spots u) ≡ sleeps (w.spot u)) → ((d : ℕ) → d ≢ k → owes d ≡ w.owes d)
      → own.seeks ≡ p.own.seeks → sleeps (spots t) ≡ own.asleep → own.out ≡ set p.own.out k o → xs ≡ its.line → owes k ≡ its.owes
      → ((i : ℕ) → then (pass_after p own i (Makes e saw)) (record q { own = its }))
      → BothTurn (meaning size) (word_at k) x p q then w ws hs
  makes x l b xs o spots owes own its e saw then by step due is same letters others debts seeks asleep out itsline itsowes told =
      let s : Option ℕ = w.part.seeks t in
      record {
        own = own;
        its = its;
        access = Makes e saw;
        world = after size w t k root.0 l b xs o s spots owes;
        fits = fits_after size w t k root.0 l b xs o s spots owes ws ok x is same e saw step
            (subst (λ z. NoticesFit size.threads (put w.part.sems.line k xs) z owes spots) (sym (same_seeks w.part t)) letters);
        pass = knows_after size w t k root.0 l b xs o s spots owes p.own own fit (fit.seeks ∙ sym seeks) asleep out;
        root = root_after size w t k root.0 l b xs o s spots owes its itsline itsowes;
        passes = passes_else size w t k root.0 l b xs o s spots owes others;
        roots = roots_else size w t k root.0 l b xs o s spots owes debts;
        made = ((λ i. 2 * by i), (step, same));
        owed = due;
        counted = λ log same all. tt;
        told = told;
      }

  -- ---- queueing
  module _ (up : p.own.asleep ≡ false) where
    up' : w.spot t ≡ awake
    up' = awake_is (w.spot t) (fit.asleep ∙ up)

    out_of : (j : ℕ) → ¬ Contains (w.part.sems.line j) t
    out_of = in_no_line size.threads w.part.sems.line w.part.seeks w.owes w.spot ok.letters t up'

    parks_turn : p.own.seeks ≡ Some k → BothTurn (meaning size) (word_at k) n p q (Parks p q n) w ws hs
    parks_turn aim = by_bit (λ b. (none_left w.part.sems k && parked) ≡ b → BothTurn (meaning size) (word_at k) n p q
        (λ p' q'. Notes p (parked_pass p.own b) (Makes (SemPark t k) (Saw b)) p' × (q' ≡ record q { own = parked_root q.own t b })) w ws hs)
        (n == 1)
        (λ one both.
        let xs : List ℕ = line ++ t ∷ [] in
        makes n left parked xs (w.part.sems.out k t) (put w.spot t (queued k)) w.owes (record p.own { asleep = true })
        (record q.own { line = q.own.line ++ t ∷ [] }) (SemPark t k) (Saw true)
        (λ p' q'. Notes p (record p.own { asleep = true }) (Makes (SemPark t k) (Saw true)) p'
        × (q' ≡ record q { own = record q.own { line = q.own.line ++ t ∷ [] } })) refl
        (row_queued w.part size t fit.near k root.0 (fit.seeks ∙ aim, out_of k) both) (λ c. refl) found
        (same_letters w.spot t (queued k) (ap letter_of (sym up')))
        (park_letters size.threads w.part.sems.line w.part.seeks w.owes w.spot ok.letters t up' k)
        (λ u ne. ap sleeps (put_other w.spot t (queued k) u ne)) (λ d ne. refl) refl (ap sleeps (put_same w.spot t (queued k)))
        (out_same size w t k p.own fit) (ap (λ z. z ++ t ∷ []) root.1)
        root.2 (λ i. ((i, refl), refl)))
        (λ _ neither.
        both_stay (meaning size) (word_at k) n w ws hs ok refl p fit (Makes (SemPark t k) (Saw false))
        (refl, (row_not_queued w.part size t fit.near k root.0 (fit.seeks ∙ aim, out_of k) neither, refl)) (λ c. refl) q
        (λ log same all. tt)
        (λ p' q'. Notes p p.own (Makes (SemPark t k) (Saw false)) p' × (q' ≡ record q { own = q.own })) root (λ i. ((i, refl), refl)))
        (sym (one_says left parked) ∙ ap (λ z. z == 1) (sym found))

  -- ---- passing on
  module _ (may : MayGive p.own k) (free : q.own.owes ≡ None) (more : Bool) (says : SaysMore q.own.line more) where
    room : left < 4294967296
    room = left_few size w ws ok k

    some' : 1 ≤ w.part.sems.out k t
    some' = subst (λ z. 1 ≤ z) (sym (fit.out k)) may.1

    calm' : w.part.seeks t ≡ None
    calm' = fit.seeks ∙ may.0.1

    out_now : (one_permit_less p.own k).out ≡ set p.own.out k (w.part.sems.out k t - 1)
    out_now = ap (λ z. set p.own.out k (z - 1)) (sym (fit.out k))

    pass_turn : (xs : List ℕ) → q.own.line ≡ xs
        → BothTurn (meaning size) (word_at k) ((n + raise_of (first xs) more) % 2 ^ 64) p q (Passes p q xs more) w ws hs
    pass_turn [] is =
        let two : word_of (left + 1) parked ≡ word_of left parked + 2 = omega arith in
        makes ((n + 2) % 2 ^ 64) (left + 1) parked line (w.part.sems.out k t - 1) w.spot w.owes (one_permit_less p.own k) q.own
        (SemPass t k more) (Sleeper None) (Passes p q [] more) refl
        (row_pass_none w.part size t fit.near k root.0 calm' more some' (root.1 ∙ is))
        (λ c. ap (λ n. n + owed_at (sizes_of size) number_of w.owes c) (no_more (c == k))) (omega (arith, found, room, bit_few parked)) refl
        (subst (λ z. NoticesFit size.threads z w.part.seeks w.owes w.spot) (sym (same_line w.part k)) ok.letters)
        (λ u ne. refl) (λ d ne. refl) refl fit.asleep out_now root.1 root.2 (λ i. ((i, refl), refl))
    pass_turn (u ∷ rest) is =
        let here : line ≡ u ∷ rest = root.1 ∙ is in
        let inside : Contains line u = subst (λ z. Contains z u) (sym here) (in_head u rest) in
        let marked : parked ≡ true = ok.sound.seekers_are_marked k u inside in
        let up : word_of left parked + raise_of (Some u) more ≡ word_of (left + 1) more =
        ap (λ b. word_of left b + raise_of (Some u) more) marked ∙ raised left u more in
        let debt : w.owes k ≡ None = root.2 ∙ free in
        let seek = ok.sound.seeks k u inside in
        let queued_here : w.spot u ≡ queued k =
        was_queued size.threads w.part.sems.line w.part.seeks w.owes w.spot ok.letters k u rest here (ok.sound.once k) debt seek in
        makes ((n + raise_of (Some u) more) % 2 ^ 64) (left + 1) more rest (w.part.sems.out k t - 1) (put w.spot u (owed k 0))
        (put w.owes k (Some u)) (one_permit_less p.own k)
        (record q.own { line = rest; owes = Some u })
        (SemPass t k more) (Sleeper (Some u)) (Passes p q (u ∷ rest) more) refl
        (row_pass w.part size t fit.near k root.0 calm' more u rest some' here (subst (λ z. SaysMore z more) (sym root.1) says))
        (owed_more (sizes_of size) number_of w.owes k (Some u) 1 root.0 (ap (λ o. 1 + number_of o) debt))
        (omega (arith, found, up, room, bit_few more))
        (same_letters w.spot u (owed k 0) (ap letter_of (sym queued_here)))
        (pass_letters size.threads w.part.sems.line w.part.seeks w.owes w.spot ok.letters k u rest here (ok.sound.once k) debt seek)
        (λ v ne. pass_sleeps size.threads w.part.sems.line w.part.seeks w.owes w.spot ok.letters k u rest here
        (ok.sound.once k) debt seek v)
        (λ d ne. put_other w.owes k (Some u) d ne) refl
        (pass_sleeps size.threads w.part.sems.line w.part.seeks w.owes w.spot ok.letters k u rest here (ok.sound.once k) debt seek t
        ∙ fit.asleep) out_now refl (put_same w.owes k (Some u))
        (λ i. ((i, refl), refl))

  -- ---- clearing
  clear_turn : n < 2 ^ 64 → IsCalm p.own → q.own.line ≡ []
      → BothTurn (meaning size) (word_at k) (bit_and n (2 ^ 64 - 2)) p q (Clears p q) w ws hs
  clear_turn small calm nobody =
      makes (bit_and n (2 ^ 64 - 2)) left false line (w.part.sems.out k t) w.spot w.owes p.own q.own (SemClear t k) Done (Clears p q) refl
      (row_clear w.part size t fit.near k root.0 (fit.seeks ∙ calm.1) (root.1 ∙ nobody)) (λ c. refl)
      (ap (λ z. bit_and z (2 ^ 64 - 2)) found ∙ cleared left parked (subst (λ z. z < 2 ^ 64) found small)) refl
      (subst (λ z. NoticesFit size.threads z w.part.seeks w.owes w.spot) (sym (same_line w.part k)) ok.letters)
      (λ u ne. refl) (λ d ne. refl) refl fit.asleep (out_same size w t k p.own fit) root.1 root.2 (λ i. ((i, refl), refl))

module _ (size : Numbers) (p : PassShown SemPassView) (q : RootShown SemRootView) where
  pub parks : IsSeeking p.own q.key → AllowsBoth (meaning size) (word_at q.key) (λ n. n) p q (Parks p q)
  parks is w ws hs ok fit root small = parks_turn size p q w ws hs ok fit root is.0 is.1

  pub passes : MayGive p.own q.key → q.own.owes ≡ None → (more : Bool) → SaysMore q.own.line more → (x : ℕ)
      → x ≡ raise_of (first q.own.line) more
      → AllowsBoth (meaning size) (word_at q.key) (λ n. (n + x) % 2 ^ 64) p q (λ _. Passes p q q.own.line more)
  passes may free more says x is w ws hs ok fit root small =
      subst
      (λ z. BothTurn (meaning size) (word_at q.key) ((get_or ws (word_at q.key) 0 + z) % 2 ^ 64) p q (Passes p q q.own.line more) w ws hs)
      (sym is)
      (pass_turn size p q w ws hs ok fit root may free more says q.own.line refl)

  pub clears : IsCalm p.own → q.own.line ≡ []
      → AllowsBoth (meaning size) (word_at q.key) (λ n. bit_and n (2 ^ 64 - 2)) p q (λ _. Clears p q)
  clears calm nobody w ws hs ok fit root small = clear_turn size p q w ws hs ok fit root small calm nobody

-- ---- letters
module _ (size : Numbers) (q : RootShown SemRootView) (u : ℕ) (debt : q.own.owes ≡ Some u) where
  pub posts : AllowsRoot (meaning size) (letter_at u) (λ _. 1) q (λ _. Pays q u)
  posts w ws hs ok root small =
      let k : ℕ = q.key in
      let debt' : w.owes k ≡ Some u = root.2 ∙ debt in
      let waits : w.spot u ≡ owed k 0 = is_owed_here size.threads w.part.sems.line w.part.seeks w.owes w.spot ok.letters k u debt' in
      let near = (notice_at size.threads w.part.sems.line w.part.seeks w.owes w.spot ok.letters u (owed k 0) waits).0 in
      let spots : ℕ → Spot = put w.spot u (lying k 0) in
      let w' : SemWorld = record { part = w.part; spot = spots; owes = put w.owes k None } in
      record {
        its = paid_root q.own;
        access = Posts k u 0;
        world = w';
        fits = record {
          few = ok.few;
          words =
              letter_written (λ n. n) (sizes_of size) (told_in w) (told_in w') ws ok.words u 1 near
              (sym (ap letter_of (put_same w.spot u (lying k 0))))
              (λ v ne. ap letter_of (put_other w.spot u (lying k 0) v ne)) (λ d. refl);
          sound = ok.sound;
          letters = post_letters size.threads w.part.sems.line w.part.seeks w.owes w.spot ok.letters k u debt';
        };
        root = (root.0, root.1, put_same w.owes k None);
        passes = λ v x h. record {
          near = h.near;
          seeks = h.seeks;
          asleep = post_sleeps size.threads w.part.sems.line w.part.seeks w.owes w.spot ok.letters k u debt' v ∙ h.asleep;
          long = h.long;
          out = h.out;
        };
        roots = λ d y ne h. (h.0, h.1, put_other w.owes k None d ne ∙ h.2);
        made = (refl, (ap letter_of waits, λ i. record { part = w.part; letters = one_letter w.spot u (lying k 0) i }));
        owed = owed_less (sizes_of size) number_of w.owes k None root.0 (sym (ap number_of debt'));
        counted = λ log. tt;
        told = λ i. (i, refl);
      }

module _ (size : Numbers) (p : PassShown SemPassView) where
  module _ (w : SemWorld) (ws : List ℕ) (hs : List (maybe.Option (Unit {0}))) (ok : Fits size w ws)
      (fit : PassKnows size w p.thread p.own) where
    abbrev Turn : ℕ → Type 0
    Turn n = PassTurn (meaning size) (letter_at p.thread) 0 p (Collecting p n) w ws hs

    -- no letter lies
    none_lies : letter_of (w.spot p.thread) ≡ 0 → Turn 0
    none_lies none_there =
        pass_stays (meaning size) (letter_at p.thread) 0 w ws hs ok (sym (ok.words.letters p.thread fit.near ∙ none_there)) p fit
        (Collects p.thread None)
        (refl, (none_there, refl)) (λ c. refl) (λ log. tt) (Collecting p 0) (λ i. (omega arith, (i, refl)))

    one_lies : (k : ℕ) → w.spot p.thread ≡ lying k 0 → Turn 1
    one_lies k lies =
        let t : ℕ = p.thread in
        let spots : ℕ → Spot = put w.spot t awake in
        let w' : SemWorld = record { part = w.part; spot = spots; owes = w.owes } in
        record {
          own = woken p.own;
          access = Collects t (Some 0);
          world = w';
          fits = record {
            few = ok.few;
            words =
                letter_written (λ n. n) (sizes_of size) (told_in w) (told_in w') ws ok.words t 0 fit.near
                (sym (ap letter_of (put_same w.spot t awake)))
                (λ v ne. ap letter_of (put_other w.spot t awake v ne)) (λ d. refl);
            sound = ok.sound;
            letters = collect_letters size.threads w.part.sems.line w.part.seeks w.owes w.spot ok.letters t k 0 lies;
          };
          pass =
              record { near = fit.near; seeks = fit.seeks; asleep = ap sleeps (put_same w.spot t awake); long = fit.long; out = fit.out };
          passes =
              λ v x ne h. record {
                near = h.near;
                seeks = h.seeks;
                asleep = ap sleeps (put_other w.spot t awake v ne) ∙ h.asleep;
                long = h.long;
                out = h.out;
              };
          roots = λ d y h. h;
          made = (refl, (ap letter_of lies, λ i. record { part = w.part; letters = one_letter w.spot t awake i }));
          owed = λ c. refl;
          counted = λ log. tt;
          told = λ i. (omega arith, (refl, sym fit.asleep ∙ ap sleeps lies, (i, refl)));
        }

    by_spot : (sp : Spot) → w.spot p.thread ≡ sp → Turn (letter_of sp)
    by_spot awake is = none_lies (ap letter_of is)
    by_spot (queued k) is = none_lies (ap letter_of is)
    by_spot (owed k x) is = none_lies (ap letter_of is)
    by_spot (lying k x) is =
        let e = (notice_at size.threads w.part.sems.line w.part.seeks w.owes w.spot ok.letters p.thread (lying k x) is).2 in
        subst (λ z. Turn (z + 1)) (sym e) (one_lies k (is ∙ ap (lying k) e))

  pub collects : AllowsPass (meaning size) (letter_at p.thread) (λ _. 0) p (Collecting p)
  collects w ws hs ok fit small =
      subst (Turn w ws hs ok fit) (sym (ok.words.letters p.thread fit.near)) (by_spot w ws hs ok fit (w.spot p.thread) refl)
