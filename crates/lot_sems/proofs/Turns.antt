-- The turns of the calls that take a pass alone: whatever world the words stand for, the step leads to one that they
-- stand for then.
use Rattle.std.proofs.Common.{◌≡◌, ◌≢◌, ℕ, zero, suc, ◌+◌, ◌-◌, ◌*◌, ◌%◌, ◌^◌, ◌<◌, ◌≤◌, ◌⊎◌, ◌==◌, Bool, true, false, List, get_or, set}
use Rattle.std.proofs.Common.{refl, sym, ap, subst, ◌∙◌, inl, inr, ⊎_elim, arith}
use Rattle.std.proofs.Common.{MatchBool, Option, Some, None}
use mathlib.Core.Option as maybe
use prog.Atomic.{either}
use Rattle.lot_core.specs.Model.{put}
use Rattle.lot_core.specs.Sums.{bit}
use Rattle.lot_core.specs.Parts.{PartSeeks}
use Rattle.lot_events.specs.declared.events.Event.{Event}
use Rattle.lot_events.specs.declared.events.Event.TheVariants.{SemTake, SemMark, SemFree}
use Rattle.lot_events.specs.declared.events.Seen.{Seen}
use Rattle.lot_events.specs.declared.events.Seen.TheVariants.{Bool as Saw, Done}
use Rattle.lot_rights.specs.declared.views.Access.TheVariants.{Makes, Finds}
use Rattle.lot_rights.specs.Shown.{PassShown}
use Rattle.lot_rights.specs.History.{maker}
use Rattle.lot_rights.specs.Layout.{word_at}
use Rattle.lot_rights.specs.World.{awake}
use Rattle.lot_rights.specs.Steps.{Notes, IsOwed, PassTurn, AllowsPass, pass_after}
use Rattle.lot_rights.proofs.Places.{pass_at_word}
use Rattle.lot_rights.proofs.Puts.{by_test}
use Rattle.lot_rights.proofs.Staying.{pass_stays}
use Rattle.lot_sems.specs.declared.taking.Taken.{Taken}
use Rattle.lot_sems.specs.declared.taking.Taken.TheVariants.{Got, Empty, Busy}
use Rattle.lot_sems.specs.declared.views.SemPassView.{SemPassView}
use Rattle.lot_sems.specs.World.{Numbers, IsAmong, SemWorld, word_of, NoticesFit, PassKnows}
use Rattle.lot_sems.specs.Rule.{IsStep, Fits, meaning}
use Rattle.lot_sems.specs.Shown.{SemWordsShown}
use Rattle.lot_sems.specs.Calls.{IsSeeking, MayTake, MayGive, seeking, one_permit_more, one_permit_less, Found, Exchanges, Misses}
use Rattle.lot_sems.specs.Calls.{IsAnyLeft, Tries, Takes, TakesFrom, taken_after, IsUnmarked, Frees}
use Rattle.lot_sems.proofs.Machine.{awake_is, in_no_line, seeks_letters}
use Rattle.lot_sems.proofs.Rows.{turned, same_line, row_got, row_empty, row_mark, row_free}
use Rattle.lot_sems.proofs.Turning.{after, fits_after, pass_after as knows_after, passes_else, out_same, left_few}

-- a call's step at a semaphore's word is allowed, if it is so whatever the table's numbers are
pub at_sem : {z shown : SemWordsShown} → z ≡ shown → {k place : ℕ} → IsAmong shown.size k → place ≡ word_at k → (f : ℕ → ℕ)
    (p : PassShown SemPassView) (then : ℕ → PassShown SemPassView → Type 0)
    → ((y : SemWordsShown) → IsAmong y.size k → AllowsPass (meaning y.size) (word_at k) f p then)
    → AllowsPass (meaning z.size) place f p then
at_sem is {k} among at = pass_at_word (λ (z : SemWordsShown). meaning z.size) is (λ z. IsAmong z.size k) among (word_at k) at

-- ---- what each step tells
-- a look at the word of k, by a thread that seeks a permit where none is left
abbrev pub Seeks : PassShown SemPassView → ℕ → ℕ → PassShown SemPassView → Type 0
Seeks p k zero q = Takes p k Empty q
Seeks p k (suc zero) q = Takes p k Empty q
Seeks p k (suc (suc n)) q = Found p k (suc (suc n)) q

-- an exchange of the word that was seen: it was made, and by this event the thread knows this; or it found another word
abbrev pub Swaps : PassShown SemPassView → ℕ → SemPassView → Event → ℕ → ℕ → PassShown SemPassView → Type 0
Swaps p k own e seen n q = MatchBool (n == seen) (Notes p own (Makes e (Saw true)) q) (Found p k n q)

abbrev pub Marks : PassShown SemPassView → ℕ → ℕ → PassShown SemPassView → Type 0
Marks p k n q = MatchBool (n == 0) (Notes p p.own (Makes (SemMark p.thread k) Done) q) ((x : ℕ) × (x ≢ 0) × Found p k x q)

-- ---- what a number found tells the caller
pub seeks_empty : (p : PassShown SemPassView) (k n : ℕ) (q : PassShown SemPassView) → n < 2 → Seeks p k n q → Takes p k Empty q
seeks_empty p k zero q few h = h
seeks_empty p k (suc zero) q few h = h
seeks_empty p k (suc (suc n)) q few h = absurd (omega arith)

pub seeks_left : (p : PassShown SemPassView) (k n : ℕ) (q : PassShown SemPassView) → IsAnyLeft n → Seeks p k n q → Found p k n q
seeks_left p k zero q some h = absurd (omega arith)
seeks_left p k (suc zero) q some h = absurd (omega arith)
seeks_left p k (suc (suc n)) q some h = h

-- the exchange for a permit was made, or it failed
pub took : (p : PassShown SemPassView) (k seen n : ℕ) (q : PassShown SemPassView)
    → Swaps p k (one_permit_more p.own k) (SemTake p.thread k) seen n q → TakesFrom p k seen (taken_after (n == seen)) q
took p k seen n q = by_test (λ b. MatchBool b (Notes p (one_permit_more p.own k) (Makes (SemTake p.thread k) (Saw true)) q) (Found p k n q)
    → TakesFrom p k seen (taken_after b) q) n seen (λ is h. h) (λ ne h. (n, ne, h))

-- ---- a look, by which p became r, and then an exchange
module _ (p r : PassShown SemPassView) (k seen : ℕ) (look : Found p k seen r) where
  -- what was asked of the pass is so after the look
  pub after_look : (Asks : SemPassView → Type 0) → Asks p.own → Asks r.own
  after_look Asks may = subst (λ (z : PassShown SemPassView). Asks z.own) (sym look.1) may

  exchanged : (could : ℕ → Type 0) (own : SemPassView → SemPassView) (e : ℕ → Event) (q : PassShown SemPassView) → could seen
      → Notes r (own r.own) (Makes (e r.thread) (Saw true)) q → Exchanges p k could (own p.own) (e p.thread) q
  exchanged could own e q may note =
      (seen, may, (r, look, subst (λ (z : PassShown SemPassView). Notes r (own z.own) (Makes (e z.thread) (Saw true)) q) look.1 note))

  missed : (could : ℕ → Type 0) (n : ℕ) (q : PassShown SemPassView) → could seen → n ≢ seen → Found r k n q → Misses p k could q
  missed could n q may ne found = (seen, n, may, ne, (r, look, found))

  pub tried : IsAnyLeft seen → (became : Taken) (q : PassShown SemPassView) → TakesFrom r k seen became q → Tries p k became q
  tried left Got q h = exchanged IsAnyLeft (λ own. one_permit_more own k) (λ t. SemTake t k) q left h
  tried left Empty q h = absurd h
  tried left Busy q (n, ne, found) = missed IsAnyLeft n q left ne found

  pub taken : IsAnyLeft seen → (became : Taken) (q : PassShown SemPassView) → TakesFrom r k seen became q → Takes p k became q
  taken left Got q h = tried left Got q h
  taken left Empty q h = absurd h
  taken left Busy q h = tried left Busy q h

  pub freed : IsUnmarked seen → (n : ℕ) (q : PassShown SemPassView)
      → Swaps r k (one_permit_less r.own k) (SemFree r.thread k) seen n q → Frees p k (n == seen) q
  freed clear n q = by_test
      (λ b. MatchBool b (Notes r (one_permit_less r.own k) (Makes (SemFree r.thread k) (Saw true)) q) (Found r k n q)
      → Frees p k b q) n seen
      (λ is h. exchanged IsUnmarked (λ own. one_permit_less own k) (λ t. SemFree t k) q clear h)
      (λ ne h. inr (missed IsUnmarked n q clear ne h))

-- ---- words
pub bit_few : (b : Bool) → bit b ≤ 1
bit_few true = omega arith
bit_few false = omega arith

even_clear : (left old : ℕ) (b : Bool) → word_of left b ≡ old → old % 2 ≡ 0 → b ≡ false
even_clear left old true e even = absurd (let f : 2 * left + 1 ≡ old = e in omega arith)
even_clear left old false e even = refl

module _ (size : Numbers) (p : PassShown SemPassView) (k : ℕ) (among : IsAmong size k) (w : SemWorld) (ws : List ℕ)
    (hs : List (maybe.Option (Unit {0}))) (ok : Fits size w ws)
    (fit : PassKnows size w p.thread p.own) where
  abbrev t : ℕ
  t = p.thread

  abbrev n : ℕ
  n = get_or ws (word_at k) 0

  abbrev left : ℕ
  left = w.part.sems.left k

  found : n ≡ word_of left (w.part.sems.parked k)
  found = ok.words.words k among

  -- ---- nothing changes
  finds : (x : ℕ) → x ≡ n → (then : PassShown SemPassView → Type 0) → ((i : ℕ) → then (pass_after p p.own i (Finds t k x)))
      → PassTurn (meaning size) (word_at k) x p then w ws hs
  finds x is then told =
      pass_stays (meaning size) (word_at k) x w ws hs ok is p fit (Finds t k x) (refl, (is ∙ found, refl)) (λ c. refl) (λ log. tt) then told

  module _ (up : p.own.asleep ≡ false) where
    up' : w.spot t ≡ awake
    up' = awake_is (w.spot t) (fit.asleep ∙ up)

    -- ---- an event of a thread that is awake, after which the line is as it was
    makes : (x l : ℕ) (b : Bool) (o : ℕ) (s : Option ℕ) (own : SemPassView) (e : Event) (saw : Seen)
        (then : PassShown SemPassView → Type 0) → maker e ≡ t
        → IsStep size w.part e saw (turned w.part t k l b (w.part.sems.line k) o s)
        → IsOwed (meaning size) w (Makes e saw) (after size w t k among l b (w.part.sems.line k) o s w.spot w.owes)
        → x ≡ word_of l b → s ≡ own.seeks → own.asleep ≡ false
        → own.out ≡ set p.own.out k o
        → ((i : ℕ) → then (pass_after p own i (Makes e saw))) → PassTurn (meaning size) (word_at k) x p then w ws hs
    makes x l b o s own e saw then by step due is seeks asleep out told =
        let line : List ℕ = w.part.sems.line k in
        record {
          own = own;
          access = Makes e saw;
          world = after size w t k among l b line o s w.spot w.owes;
          fits = fits_after size w t k among l b line o s w.spot w.owes ws ok x is refl e saw step
              (subst (λ z. NoticesFit size.threads z (put w.part.seeks t s) w.owes w.spot) (sym (same_line w.part k))
              (seeks_letters size.threads w.part.sems.line w.part.seeks w.owes w.spot ok.letters t up' s));
          pass = knows_after size w t k among l b line o s w.spot w.owes p.own own fit seeks (fit.asleep ∙ (up ∙ sym asleep)) out;
          passes = passes_else size w t k among l b line o s w.spot w.owes (λ u ne. refl);
          roots = λ d y h. (h.0, (λ i. same_line w.part k i d) ∙ h.1, h.2);
          made = ((λ i. 2 * by i), (step, refl));
          owed = due;
          counted = λ log. tt;
          told = told;
        }

    -- ---- taking
    module _ (aim : (p.own.seeks ≡ None) ⊎ (p.own.seeks ≡ Some k)) where
      may : (w.part.seeks t ≡ None) ⊎ PartSeeks w.part t k
      may = ⊎_elim {C = (w.part.seeks t ≡ None) ⊎ PartSeeks w.part t k} (λ e. inl (fit.seeks ∙ e))
          (λ e. inr (fit.seeks ∙ e, in_no_line size.threads w.part.sems.line w.part.seeks w.owes w.spot ok.letters t up' k)) aim

      got_turn : (old : ℕ) → 2 ≤ old → n ≡ old → (then : PassShown SemPassView → Type 0)
          → ((i : ℕ) → then (pass_after p (one_permit_more p.own k) i (Makes (SemTake t k) (Saw true))))
          → PassTurn (meaning size) (word_at k) (old - 2) p then w ws hs
      got_turn old some is then told =
          let few = bit_few (w.part.sems.parked k) in
          makes (old - 2) (left - 1) (w.part.sems.parked k) (w.part.sems.out k t + 1) None (one_permit_more p.own k)
          (SemTake t k) (Saw true) then refl
          (row_got w.part size t fit.near k among may (λ none. omega (arith, found, is, few))) (λ c. refl) (omega
          (arith, found, is, few)) refl up
          (ap (λ z. set p.own.out k (z + 1)) (sym (fit.out k))) told

      empty_turn : (x : ℕ) → x ≡ n → x < 2 → (then : PassShown SemPassView → Type 0)
          → ((i : ℕ) → then (pass_after p (seeking p.own k) i (Makes (SemTake t k) (Saw false))))
          → PassTurn (meaning size) (word_at k) x p then w ws hs
      empty_turn x is few then told =
          makes x left (w.part.sems.parked k) (w.part.sems.out k t) (Some k) (seeking p.own k) (SemTake t k) (Saw false) then refl
          (row_empty w.part size t fit.near k among may (omega (arith, found, is))) (λ c. refl) (is ∙ found) refl up
          (out_same size w t k p.own fit) told

      swap_turn : (old : ℕ) → IsAnyLeft old
          → PassTurn (meaning size) (word_at k) (either (n == old) (old - 2) n) p
          (Swaps p k (one_permit_more p.own k) (SemTake t k) old n) w ws hs
      swap_turn old some = by_test (λ b. PassTurn (meaning size) (word_at k) (either b (old - 2) n) p
          (λ q. MatchBool b (Notes p (one_permit_more p.own k) (Makes (SemTake t k) (Saw true)) q) (Found p k n q)) w ws hs) n old
          (λ is. got_turn old some is (λ q. Notes p (one_permit_more p.own k) (Makes (SemTake t k) (Saw true)) q) (λ i. (i, refl)))
          (λ _. finds n refl (Found p k n) (λ i. (i, refl)))

      seek_turn : (x : ℕ) → x ≡ n → PassTurn (meaning size) (word_at k) x p (Seeks p k x) w ws hs
      seek_turn zero is = empty_turn 0 is (omega arith) (Seeks p k 0) (λ i. (i, refl))
      seek_turn (suc zero) is = empty_turn (suc zero) is (omega arith) (Seeks p k (suc zero)) (λ i. (i, refl))
      seek_turn (suc (suc m)) is = finds (suc (suc m)) is (Seeks p k (suc (suc m))) (λ i. (i, refl))

    -- ---- marking
    mark_turn : p.own.seeks ≡ Some k → PassTurn (meaning size) (word_at k) (either (n == 0) 1 n) p (Marks p k n) w ws hs
    mark_turn aim =
        by_test
        (λ b. PassTurn (meaning size) (word_at k) (either b 1 n) p
        (λ q. MatchBool b (Notes p p.own (Makes (SemMark t k) Done) q) ((x : ℕ) × (x ≢ 0) × Found p k x q)) w ws hs) n 0
        (λ is. let none : left ≡ 0 = omega (arith, found, is) in
        makes 1 left true (w.part.sems.out k t) (w.part.seeks t) p.own (SemMark t k) Done
        (λ q. Notes p p.own (Makes (SemMark t k) Done) q) refl
        (row_mark w.part size t fit.near k among
        (fit.seeks ∙ aim, in_no_line size.threads w.part.sems.line w.part.seeks w.owes w.spot ok.letters t up' k) none) (λ c. refl)
        (omega (arith, none)) fit.seeks up (out_same size w t k p.own fit) (λ i. (i, refl)))
        (λ ne. finds n refl (λ q. (x : ℕ) × (x ≢ 0) × Found p k x q) (λ i. (n, ne, (i, refl))))

    -- ---- giving back
    free_turn : p.own.seeks ≡ None → 1 ≤ get_or p.own.out k 0 → (old : ℕ) → IsUnmarked old
        → PassTurn (meaning size) (word_at k) (either (n == old) ((old + 2) % 2 ^ 64) n) p
        (Swaps p k (one_permit_less p.own k) (SemFree t k) old n) w ws hs
    free_turn aim some old even = by_test (λ b. PassTurn (meaning size) (word_at k) (either b ((old + 2) % 2 ^ 64) n) p
        (λ q. MatchBool b (Notes p (one_permit_less p.own k) (Makes (SemFree t k) (Saw true)) q) (Found p k n q)) w ws hs) n old
        (λ is.
        let clear : w.part.sems.parked k ≡ false = even_clear left old (w.part.sems.parked k) (sym found ∙ is) even in
        let bare : word_of left (w.part.sems.parked k) ≡ 2 * left = ap (word_of left) clear ∙ omega arith in
        let more : word_of (left + 1) (w.part.sems.parked k) ≡ 2 * (left + 1) = ap (word_of (left + 1)) clear ∙ omega arith in
        let few = left_few size w ws ok k in
        makes ((old + 2) % 2 ^ 64) (left + 1) (w.part.sems.parked k) (w.part.sems.out k t - 1) (w.part.seeks t) (one_permit_less p.own k)
        (SemFree t k) (Saw true)
        (λ q. Notes p (one_permit_less p.own k) (Makes (SemFree t k) (Saw true)) q) refl
        (row_free w.part size t fit.near k among (fit.seeks ∙ aim) (subst (λ z. 1 ≤ z) (sym (fit.out k)) some) clear) (λ c. refl)
        (omega (arith, found, is, bare, more, few)) fit.seeks up (ap (λ z. set p.own.out k (z - 1)) (sym (fit.out k))) (λ i. (i, refl)))
        (λ _. finds n refl (Found p k n) (λ i. (i, refl)))

module _ (size : Numbers) (p : PassShown SemPassView) (k : ℕ) (among : IsAmong size k) where
  pub looks : AllowsPass (meaning size) (word_at k) (λ n. n) p (Found p k)
  looks w ws hs ok fit small =
      let n : ℕ = get_or ws (word_at k) 0 in finds size p k among w ws hs ok fit n refl (Found p k n) (λ i. (i, refl))

  pub seeks : MayTake p.own k → AllowsPass (meaning size) (word_at k) (λ n. n) p (Seeks p k)
  seeks may w ws hs ok fit small = seek_turn size p k among w ws hs ok fit may.0 may.1 (get_or ws (word_at k) 0) refl

  pub swaps : MayTake p.own k → (old : ℕ) → IsAnyLeft old
      → AllowsPass (meaning size) (word_at k) (λ n. either (n == old) (old - 2) n) p
      (Swaps p k (one_permit_more p.own k) (SemTake p.thread k) old)
  swaps may old some w ws hs ok fit small = swap_turn size p k among w ws hs ok fit may.0 may.1 old some

  pub marks : IsSeeking p.own k → AllowsPass (meaning size) (word_at k) (λ n. either (n == 0) 1 n) p (Marks p k)
  marks is w ws hs ok fit small = mark_turn size p k among w ws hs ok fit is.0 is.1

  pub frees : MayGive p.own k → (old : ℕ) → IsUnmarked old
      → AllowsPass (meaning size) (word_at k) (λ n. either (n == old) ((old + 2) % 2 ^ 64) n) p
      (Swaps p k (one_permit_less p.own k) (SemFree p.thread k) old)
  frees may old even w ws hs ok fit small = free_turn size p k among w ws hs ok fit may.0.0 may.0.1 may.1 old even
