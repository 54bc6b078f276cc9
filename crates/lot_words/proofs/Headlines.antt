-- What keeps the rule keeps the headline.
use Rattle.std.proofs.Common.{◌≡◌, ◌≢◌, ℕ, zero, suc, true, false, List, refl, sym, subst, ◌∙◌, ⊎_elim, arith, Option, Some, None}
use Rattle.std.specs.List.{Contains}
use Rattle.atomic_table.specs.Table.{State}
use Rattle.lot_core.proofs.Members.{in_none}
use Rattle.lot_core.proofs.Soundness.{owner_one, owner_some}
use Rattle.lot_rights.specs.declared.views.Right.{Right}
use Rattle.lot_rights.specs.Rule.{Ruled}
use Rattle.lot_rights.specs.World.{Spot, awake, queued, owed, lying, waits_on, IsLetter}
use Rattle.lot_rights.proofs.Settling.{one_history_led}
use Rattle.lot_words.specs.declared.views.LockPassView.{LockPassView}
use Rattle.lot_words.specs.declared.views.LockRootView.{LockRootView}
use Rattle.lot_words.specs.declared.views.Size.{Size}
use Rattle.lot_words.specs.CallersRule.{CallersRule}
use Rattle.lot_words.specs.World.{LockWorld, IsHanded, TellsTrue, SpotFits, Kept}
use Rattle.lot_words.specs.Rule.{wants_of, meaning}
use Rattle.lot_words.specs.Headline.{LettersFit, IsSound, Headline}
use Rattle.lot_words.proofs.Owners.{owner_has, owner_is, unowned}

module _ {V : Type 0} (n m : ℕ) (w : LockWorld V) (ok : Kept n m w) where
  at_spot : (t : ℕ) (sp : Spot) → w.spot t ≡ sp → SpotFits n w.word w.root t (w.pass t) sp
  at_spot t sp is = subst (SpotFits n w.word w.root t (w.pass t)) is (ok.threads t).spot

  -- ---- letters
  sleeps : (t : ℕ) (sp : Spot) → SpotFits n w.word w.root t (w.pass t) sp
      → ((w.pass t).asleep ≡ true → sp ≢ awake) × (sp ≢ awake → (w.pass t).asleep ≡ true)
  sleeps t awake fits = ((λ up. absurd (let e : false ≡ true = sym fits ∙ up in cc)), (λ ne. absurd (ne refl)))
  sleeps t (queued l) fits = ((λ _ e. cc), (λ _. fits.0.1))
  sleeps t (owed l k) fits = ((λ _ e. cc), (λ _. fits.0.1))
  sleeps t (lying l k) fits = ((λ _ e. cc), (λ _. fits.0.1))

  aims : (t : ℕ) (sp : Spot) → SpotFits n w.word w.root t (w.pass t) sp → (l : ℕ) → waits_on sp ≡ Some l → (w.pass t).aim ≡ Some l
  aims t awake fits l e = absurd (let f : None ≡ Some l = e in cc)
  aims t (queued k) fits l e = fits.0.2 ∙ e
  aims t (owed k c) fits l e = fits.0.2 ∙ e
  aims t (lying k c) fits l e = fits.0.2 ∙ e

  tells : (t : ℕ) (sp : Spot) → SpotFits n w.word w.root t (w.pass t) sp → (l k : ℕ) → IsLetter sp l k → TellsTrue (w.word l).owner t k
  tells t awake fits l k h = absurd h
  tells t (queued j) fits l k h = absurd h
  tells t (owed j c) fits l k h = subst (λ z. TellsTrue (w.word l).owner t z) h.1 (subst (λ z. TellsTrue (w.word z).owner t c) h.0 fits.2)
  tells t (lying j c) fits l k h = subst (λ z. TellsTrue (w.word l).owner t z) h.1 (subst (λ z. TellsTrue (w.word z).owner t c) h.0 fits.1)

  pub letters_fit : LettersFit w
  letters_fit = record {
    asleep = λ t. sleeps t (w.spot t) (ok.threads t).spot;
    aims = λ t. aims t (w.spot t) (ok.threads t).spot;
    lines = λ t l. ((ok.threads t).in_line l, λ is. (at_spot t (queued l) is).1);
    owes = λ t l k. ((ok.threads t).is_owed l k, λ is. (at_spot t (owed l k) is).1);
    tells = λ t. tells t (w.spot t) (ok.threads t).spot;
    once_in_line = λ l. (ok.locks l).once;
  }

  -- ---- who has a lock, who wants one
  handed_owner : (t l : ℕ) → IsHanded (w.spot t) l → (w.word l).owner ≡ Some t
  handed_owner t l h =
      ⊎_elim {C = (w.word l).owner ≡ Some t} (λ e. absurd (omega arith)) (λ e. e.1) (tells t (w.spot t) (ok.threads t).spot l 1 h)

  -- a letter of another token than 0 hands the lock over, so the thread wants nothing then
  gets_so : (t k c : ℕ) → (w.pass t).aim ≡ Some k → TellsTrue (w.word k).owner t (suc c) → (l : ℕ)
      → (None ≡ Some l → ((w.pass t).aim ≡ Some l) × ¬ ((k ≡ l) × (suc c ≡ 1)))
      × ((((w.pass t).aim ≡ Some l) × ¬ ((k ≡ l) × (suc c ≡ 1))) → None ≡ Some l)
  gets_so t k c aim told l = (
    (λ e. absurd (let f : None ≡ Some l = e in cc)),
    (λ h.
        absurd
        (h.1 ((let e : Some k ≡ Some l = sym aim ∙ h.0 in cc), ⊎_elim {C = suc c ≡ 1} (λ e. absurd (omega arith)) (λ e. e.0) told))),
  )

  -- a letter of token 0 leaves what the thread wants; the other token is 1
  wants_so : (t : ℕ) (sp : Spot) → SpotFits n w.word w.root t (w.pass t) sp → (l : ℕ)
      → (wants_of sp (w.pass t).aim ≡ Some l → ((w.pass t).aim ≡ Some l) × ¬ IsHanded sp l)
      × ((((w.pass t).aim ≡ Some l) × ¬ IsHanded sp l) → wants_of sp (w.pass t).aim ≡ Some l)
  wants_so t awake fits l = ((λ e. (e, (λ h. h))), (λ h. h.0))
  wants_so t (queued k) fits l = ((λ e. (e, (λ h. h))), (λ h. h.0))
  wants_so t (owed k zero) fits l = ((λ e. (e, (λ h. absurd (omega (arith, h.1))))), (λ h. h.0))
  wants_so t (owed k (suc c)) fits l = gets_so t k c fits.0.2 fits.2 l
  wants_so t (lying k zero) fits l = ((λ e. (e, (λ h. absurd (omega (arith, h.1))))), (λ h. h.0))
  wants_so t (lying k (suc c)) fits l = gets_so t k c fits.0.2 fits.1 l

  pub sound : IsSound w n
  sound = record {
    one_owner = record {
      one = λ l t u. owner_one (w.word l).owner t u;
      some = λ l. owner_some (w.word l).owner;
    };
    has_is = λ l t. (
      (λ e. ((ok.locks l).had t (owner_is (w.word l).owner t e)).1),
      (λ h. owner_has (w.word l).owner t (⊎_elim {C = (w.word l).owner ≡ Some t} ((ok.threads t).holds l) (handed_owner t l) h)),
    );
    wants_is = λ l t. wants_so t (w.spot t) (ok.threads t).spot l;
    are_threads = λ l t h. (at_spot t (queued l) ((ok.threads t).in_line l h)).0.0;
    sleepers_are_marked = λ l t h. (ok.locks l).parks (λ e. in_none t (subst (λ z. Contains z t) e h));
    someone_is_trying = λ l unheld line.
        let free = unowned (w.word l).owner unheld in
        let h = (ok.locks l).tried free line in (
          h.0,
          (
            h.1.0,
            (wants_so h.0 (w.spot h.0) (ok.threads h.0).spot l).1
                (h.1.1, (λ g. absurd (let e : Some h.0 ≡ None = sym (handed_owner h.0 l g) ∙ free in cc))),
            (λ g. h.1.2 l ((ok.threads h.0).in_line l g)),
          ),
        );
    found_parked = λ l t. (ok.threads t).found l;
  }

pub headline : {V Part : Type 0} (rule : CallersRule V Part) (size : Size) (xs : List V)
    (s : State (Option V) (List (Right (LockPassView V) LockRootView)))
    → Ruled (meaning rule size xs) s → Headline rule size xs s
headline rule size xs s ru = record {
  world = ru.world;
  words = ru.fits.words;
  letters = letters_fit size.threads size.locks ru.world ru.fits.kept;
  sound = sound size.threads size.locks ru.world ru.fits.kept;
  lawful = ru.fits.lawful;
  run = one_history_led (meaning rule size xs) s ru;
}
