-- The turn of a letter that is collected, or looked for in vain.
use Rattle.std.proofs.Common.{◌≡◌, ℕ, ◌+◌, ◌<◌, ◌≤◌, true, false, List, length, refl, sym, ap, subst, ◌∙◌}
use Rattle.std.proofs.Common.{⊎_elim, arith, Option, Some, None}
use mathlib.Core.Option as maybe
use Rattle.lot_core.specs.Model.{put}
use Rattle.lot_core.proofs.Put.{put_same, put_other}
use Rattle.lot_rights.specs.declared.views.Access.TheVariants.{Collects}
use Rattle.lot_rights.specs.Shown.{PassShown}
use Rattle.lot_rights.specs.Layout.{letter_at}
use Rattle.lot_rights.specs.World.{Spot, awake, queued, owed, lying, letter_of}
use Rattle.lot_rights.specs.Steps.{pass_after, PassTurn, AllowsPass}
use Rattle.lot_rights.proofs.Staying.{pass_stays}
use Rattle.lot_rights.proofs.Worlds.{one_letter, letter_written}
use Rattle.lot_words.specs.declared.views.LockPassView.{LockPassView}
use Rattle.lot_words.specs.declared.views.Size.{Size}
use Rattle.lot_words.specs.CallersRule.{CallersRule}
use Rattle.lot_words.specs.World.{LockWorld, word_of, Holds, IsHanded, TellsTrue, SpotFits, Kept}
use Rattle.lot_words.specs.Values.{FoundOk, IsLawful}
use Rattle.lot_words.specs.Rule.{sizes_of, wants_of, Fits, meaning}
use Rattle.lot_words.specs.Calls.{owning, woken, CollectedBy}
use Rattle.lot_words.proofs.Letters.{wakes_kept, collector_sleeps, lies_fits, handed_owner, handed_near, handed_kept}
use Rattle.lot_words.proofs.Rows.{same_collect}
use Rattle.lot_words.proofs.Valuing.{same_values, finds_value, gets_value}

module _ {V Part : Type 0} (rule : CallersRule V Part) where
  -- what the swap tells, by the number found
  abbrev pub Collecting : PassShown (LockPassView V) → ℕ → PassShown (LockPassView V) → Type 0
  Collecting p n q = (n ≤ 2) × CollectedBy rule p n q

  module _ (size : Size) (xs : List V) (p : PassShown (LockPassView V)) (w : LockWorld V) (ws : List ℕ)
      (hs : List (maybe.Option (Option V)))
      (ok : Fits rule size w ws hs) (fit : (p.thread < size.threads) × (w.pass p.thread ≡ p.own)) where
    abbrev t : ℕ
    t = p.thread

    abbrev n : ℕ
    n = size.threads

    abbrev m : ℕ
    m = size.locks

    abbrev Turn : ℕ → Type 0
    Turn x = PassTurn (meaning rule size xs) (letter_at t) 0 p (Collecting p x) w ws hs

    -- no letter lies
    none_lies : letter_of (w.spot t) ≡ 0 → Turn 0
    none_lies none_there =
        pass_stays (meaning rule size xs) (letter_at t) 0 w ws hs ok (sym (ok.words.letters t fit.0 ∙ none_there)) p fit (Collects t None)
        (refl, (none_there, refl)) (λ c. refl) (λ log. tt) (Collecting p 0) (λ k. (omega arith, (k, refl)))

    -- a letter lies: the pass is awake then
    wakes : (f : LockPassView V → LockPassView V) (token l : ℕ) → w.spot t ≡ lying l token
        → wants_of awake (f (w.pass t)).aim ≡ wants_of (lying l token) (w.pass t).aim
        → Kept n m (record w { pass = put w.pass t (f (w.pass t)); spot = put w.spot t awake })
        → IsLawful rule n m (put w.pass t (f (w.pass t))) hs
        → (then : PassShown (LockPassView V) → Type 0) → ((k : ℕ) → then (pass_after p (f p.own) k (Collects t (Some token))))
        → PassTurn (meaning rule size xs) (letter_at t) 0 p then w ws hs
    wakes f token l lies want kept lawful then told =
        let p1 : LockPassView V = f (w.pass t) in
        let w' : LockWorld V = record w { pass = put w.pass t p1; spot = put w.spot t awake } in
        record {
          own = f p.own;
          access = Collects t (Some token);
          world = w';
          fits = record {
            words =
                letter_written word_of (sizes_of size) w w' ws ok.words t 0 fit.0 (sym (ap letter_of (put_same w.spot t awake)))
                (λ v ne. ap letter_of (put_other w.spot t awake v ne)) (λ d. refl);
            kept = kept;
            lawful = lawful;
          };
          pass = (fit.0, put_same w.pass t p1 ∙ ap f fit.1);
          passes = λ u y ne h. (h.0, put_other w.pass t p1 u ne ∙ h.1);
          roots = λ d y h. h;
          made = (
            refl,
            (
              ap letter_of lies,
              λ i. record {
                part = same_collect w t p1 (want ∙ ap (λ z. wants_of z (w.pass t).aim) (sym lies)) i;
                letters = one_letter w.spot t awake i;
              },
            ),
          );
          owed = λ c. refl;
          counted = λ log. tt;
          told = told;
        }

    module _ (l : ℕ) where
      slept : (k : ℕ) → w.spot t ≡ lying l k → p.own.asleep ≡ true
      slept k lies = sym (ap (λ (z : LockPassView V). z.asleep) fit.1) ∙ collector_sleeps n m w ok.kept t l k lies

      barges : w.spot t ≡ lying l 0 → Turn 1
      barges lies = wakes woken 0 l lies refl (wakes_kept n m w ok.kept t l lies)
          (same_values rule n m w.pass hs ok.lawful t (woken (w.pass t))
          (λ k. record { down = λ h. h; up = λ h. h; places = refl; seen = refl }) (refl, refl)) (Collecting p 1)
          (λ k. (omega arith, (slept 0 lies, (k, refl))))

      handed : w.spot t ≡ lying l 1 → Turn 2
      handed lies =
          let near = handed_near n m w ok.kept t l lies in
          let own = handed_owner n m w ok.kept t l lies in
          let x : V = ok.lawful.value l in
          let mine : ¬ Holds (w.pass t) l = (ok.kept.threads t).handed l (subst (λ z. IsHanded z l) (sym lies) (refl, refl)) in
          let nobody : (u : ℕ) → ¬ Holds (w.pass u) l =
          (λ u h. let f : Some u ≡ Some t = sym ((ok.kept.threads u).holds l h) ∙ own in let same : u ≡ t = cc in mine
          (subst (λ z. Holds (w.pass z) l) same h)) in
          let long : l < length (w.pass t).holds = (let e = (ok.kept.threads t).long in omega arith) in
          wakes (λ z. woken (owning z l x)) 1 l lies refl (handed_kept n m w ok.kept t l lies x)
          (gets_value rule n m w.pass hs ok.lawful t fit.0 l near nobody long false) (Collecting p 2)
          (λ k. (
            omega arith,
            (
              refl,
              slept 1 lies,
              (
                l,
                sym (ap (λ (z : LockPassView V). z.aim) fit.1) ∙ (lies_fits n m w ok.kept t l lies).0.2,
                (x, subst (λ z. FoundOk rule l t z x) fit.1 (finds_value rule n m w.pass hs ok.lawful t fit.0 l near long mine), (k, refl)),
              ),
            ),
          ))

    by_token : (l k : ℕ) → w.spot t ≡ lying l k → TellsTrue (w.word l).owner t k → Turn (k + 1)
    by_token l k lies truly = ⊎_elim {C = Turn (k + 1)} (λ e. subst (λ z. Turn (z + 1)) (sym e) (barges l (lies ∙ ap (lying l) e)))
        (λ e. subst (λ z. Turn (z + 1)) (sym e.0) (handed l (lies ∙ ap (lying l) e.0))) truly

    by_spot : (sp : Spot) → w.spot t ≡ sp → SpotFits n w.word w.root t (w.pass t) sp → Turn (letter_of sp)
    by_spot awake is fits = none_lies (ap letter_of is)
    by_spot (queued l) is fits = none_lies (ap letter_of is)
    by_spot (owed l k) is fits = none_lies (ap letter_of is)
    by_spot (lying l k) is fits = by_token l k is fits.1

  pub collects : (size : Size) (xs : List V) (p : PassShown (LockPassView V))
      → AllowsPass (meaning rule size xs) (letter_at p.thread) (λ _. 0) p (Collecting p)
  collects size xs p w ws hs ok fit small =
      subst (λ z. PassTurn (meaning rule size xs) (letter_at p.thread) 0 p (Collecting p z) w ws hs) (sym (ok.words.letters p.thread fit.0))
      (by_spot size xs p w ws hs ok fit (w.spot p.thread) refl (ok.kept.threads p.thread).spot)
