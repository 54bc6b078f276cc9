-- What keeps the rule keeps the headline.
use Rattle.std.proofs.Common.{◌≡◌, ◌≢◌, ℕ, zero, suc, ◌+◌, ◌<◌, ◌≤◌, ◌⊎◌, List, ⊎_elim, arith, inl, inr}
use Rattle.std.proofs.lemmas.Bool.{cases_lt}
use Rattle.atomic_table.specs.Table.{State}
use Rattle.lot_core.specs.Parts.{PartSeeks}
use Rattle.lot_core.specs.Sums.{total}
use Rattle.lot_rights.specs.declared.views.Right.{Right}
use Rattle.lot_rights.specs.Rule.{Ruled}
use Rattle.lot_rights.specs.World.{owed, lying}
use Rattle.lot_rights.proofs.Settling.{one_history_led}
use Rattle.lot_sems.specs.declared.views.SemPassView.{SemPassView}
use Rattle.lot_sems.specs.declared.views.SemRootView.{SemRootView}
use Rattle.lot_sems.specs.World.{Numbers, SemWorld, LettersFit}
use Rattle.lot_sems.specs.Rule.{meaning}
use Rattle.lot_sems.specs.Headline.{Headline}
use Rattle.lot_sems.proofs.Machine.{notice_at, queued_owed, lying_queued}

-- one of a sum, and two of it
one_of : (n : ℕ) (f : ℕ → ℕ) (t : ℕ) → t < n → f t ≤ total n f
one_of zero f t near = absurd (omega arith)
one_of (suc n) f t near = ⊎_elim {C = f t ≤ total (suc n) f} (λ h. omega (arith, one_of n f t h))
    (λ h. let e : t ≡ n = omega arith in let g : f t ≡ f n = (λ i. f (e i)) in omega arith) (cases_lt t n)

pub two_of : (n : ℕ) (f : ℕ → ℕ) (t u : ℕ) → t ≢ u → t < n → u < n → f t + f u ≤ total n f
two_of zero f t u ne a b = absurd (omega arith)
two_of (suc n) f t u ne a b = ⊎_elim {C = f t + f u ≤ total (suc n) f}
    (λ h. ⊎_elim {C = f t + f u ≤ total (suc n) f} (λ g. omega (arith, two_of n f t u ne h g))
    (λ g. let e : u ≡ n = omega arith in let same : f u ≡ f n = (λ i. f (e i)) in omega (arith, one_of n f t h)) (cases_lt u n))
    (λ h. let e : t ≡ n = omega arith in let same : f t ≡ f n = (λ i. f (e i)) in
    omega (arith, one_of n f u (let g : u ≢ n = (λ d. ne (omega arith)) in omega arith)))
    (cases_lt t n)

module _ (n : ℕ) (w : SemWorld) (ok : LettersFit n w) where
  pub is_trying : (t k token : ℕ) → (w.spot t ≡ owed k token) ⊎ (w.spot t ≡ lying k token) → PartSeeks w.part t k
  is_trying t k token (inl e) = (
    (notice_at n w.part.sems.line w.part.seeks w.owes w.spot ok t (owed k token) e).1,
    λ h. queued_owed (w.spot t) k k token (ok.in_line t k h) e,
  )
  is_trying t k token (inr e) = (
    (notice_at n w.part.sems.line w.part.seeks w.owes w.spot ok t (lying k token) e).1,
    λ h. lying_queued (w.spot t) k k token e (ok.in_line t k h),
  )

pub headline : (size : Numbers) (s : State (Unit {0}) (List (Right SemPassView SemRootView))) → Ruled (meaning size) s → Headline size s
headline size s ru =
    let sound = ru.fits.sound in
    record {
      world = ru.world;
      words = ru.fits.words;
      letters = ru.fits.letters;
      trying = is_trying size.threads ru.world ru.fits.letters;
      permits_conserved = sound.permits_conserved;
      apart = λ t u k ne a b. omega (arith, sound.permits_conserved k, two_of size.threads (ru.world.part.sems.out k) t u ne a b);
      seekers_are_marked = sound.seekers_are_marked;
      permits_are_sought = sound.permits_are_sought;
      seeks = sound.seeks;
      once = sound.once;
      run = one_history_led (meaning size) s ru;
    }
