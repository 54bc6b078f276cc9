-- A world after an event of the thread t at the semaphore k: what it stands for, and what each right knows of it.
use Rattle.std.proofs.Common.{◌≡◌, ◌≢◌, ℕ, ◌<◌, Bool, List, length, get_or, set, refl, sym, ap, ◌∙◌, arith, length-set, get_or-set_same}
use Rattle.std.proofs.Common.{get_or-set_other, Option}
use Rattle.std.proofs.lemmas.List.{set-get_or}
use Rattle.lot_core.specs.Model.{put}
use Rattle.lot_events.specs.declared.events.Event.{Event}
use Rattle.lot_events.specs.declared.events.Seen.{Seen}
use Rattle.lot_core.proofs.Permits.{semaphore_step_sound}
use Rattle.lot_core.proofs.Put.{put_same, put_other}
use Rattle.lot_rights.specs.Layout.{word_at}
use Rattle.lot_rights.specs.World.{Spot, letters_of}
use Rattle.lot_rights.proofs.Puts.{put_elim}
use Rattle.lot_rights.proofs.Worlds.{word_written}
use Rattle.lot_sems.specs.declared.views.SemPassView.{SemPassView}
use Rattle.lot_sems.specs.declared.views.SemRootView.{SemRootView}
use Rattle.lot_sems.specs.World.{Numbers, permits_of, IsAmong, sizes_of, SemWorld, word_of, told_in, sleeps, LettersFit, PassKnows}
use Rattle.lot_sems.specs.World.{RootKnows}
use Rattle.lot_sems.specs.Rule.{IsStep, Fits}
use Rattle.lot_sems.proofs.Rows.{turned}

-- ---- permits that are out
module _ (out : ℕ → ℕ → ℕ) (k t o : ℕ) where
  -- with other threads
  out_else : (u : ℕ) → u ≢ t → (j : ℕ) → put out k (put (out k) t o) j u ≡ out j u
  out_else u ne j =
      put_elim (λ f. f u ≡ out j u) out k (put (out k) t o) j (λ jk. put_other (out k) t o u ne ∙ ap (λ i. out i u) (sym jk)) (λ _. refl)

  -- with this one
  out_mine : (xs : List ℕ) → k < length xs → ((j : ℕ) → out j t ≡ get_or xs j 0) → (j : ℕ)
      → put out k (put (out k) t o) j t ≡ get_or (set xs k o) j 0
  out_mine xs long is j = put_elim (λ f. f t ≡ get_or (set xs k o) j 0) out k (put (out k) t o) j
      (λ jk. put_same (out k) t o ∙ sym (ap (λ i. get_or (set xs k o) i 0) jk ∙ get_or-set_same xs k o 0 long))
      (λ ne. is j ∙ sym (get_or-set_other xs k j o 0 ne))

module _ (size : Numbers) (w : SemWorld) (t k : ℕ) (among : IsAmong size k) (l : ℕ) (b : Bool) (xs : List ℕ) (o : ℕ) (s : Option ℕ)
    (spots : ℕ → Spot) (owes : ℕ → Option ℕ) where
  abbrev pub after : SemWorld
  after = record { part = turned w.part t k l b xs o s; spot = spots; owes = owes }

  pub fits_after : (ws : List ℕ) → Fits size w ws → (x : ℕ) → x ≡ word_of l b → letters_of spots ≡ letters_of w.spot
      → (e : Event) (saw : Seen)
      → IsStep size w.part e saw (turned w.part t k l b xs o s)
      → LettersFit size.threads after → Fits size after (set ws (word_at k) x)
  fits_after ws ok x is same e saw step letters = record {
    few = ok.few;
    words = word_written (λ n. n) (sizes_of size) (told_in w) (told_in after) ws ok.words k x among
        (is ∙ sym (λ i. word_of (put_same w.part.sems.left k l i) (put_same w.part.sems.parked k b i)))
        (λ d ne. λ i. word_of (put_other w.part.sems.left k l d ne i) (put_other w.part.sems.parked k b d ne i)) same;
    sound =
        semaphore_step_sound size.threads size.first_sem (length size.permits) (permits_of size) w.part
        (turned w.part t k l b xs o s) e saw step ok.sound;
    letters = letters;
  }

  pub pass_after : (p p' : SemPassView) → PassKnows size w t p → s ≡ p'.seeks → sleeps (spots t) ≡ p'.asleep → p'.out ≡ set p.out k o
      → PassKnows size after t p'
  pass_after p p' fit seeks asleep out = record {
    near = fit.near;
    seeks = put_same w.part.seeks t s ∙ seeks;
    asleep = asleep;
    long = ap length out ∙ (length-set p.out k o ∙ fit.long);
    out = λ j. out_mine w.part.sems.out k t o p.out (omega (arith, fit.long, among.1)) fit.out j ∙ ap (λ ys. get_or ys j 0) (sym out);
  }

  pub passes_else : ((u : ℕ) → u ≢ t → sleeps (spots u) ≡ sleeps (w.spot u)) → (u : ℕ) (x : SemPassView) → u ≢ t → PassKnows size w u x
      → PassKnows size after u x
  passes_else same u x ne fit = record {
    near = fit.near;
    seeks = put_other w.part.seeks t s u ne ∙ fit.seeks;
    asleep = same u ne ∙ fit.asleep;
    long = fit.long;
    out = λ j. out_else w.part.sems.out k t o u ne j ∙ fit.out j;
  }

  pub roots_else : ((d : ℕ) → d ≢ k → owes d ≡ w.owes d) → (d : ℕ) (y : SemRootView) → d ≢ k → RootKnows size w d y
      → RootKnows size after d y
  roots_else same d y ne h = (h.0, put_other w.part.sems.line k xs d ne ∙ h.1, same d ne ∙ h.2)

  pub root_after : (y : SemRootView) → xs ≡ y.line → owes k ≡ y.owes → RootKnows size after k y
  root_after y line owe = (among, put_same w.part.sems.line k xs ∙ line, owe)

-- what was out stays out
pub out_same : (size : Numbers) (w : SemWorld) (t k : ℕ) (p : SemPassView) → PassKnows size w t p
    → p.out ≡ set p.out k (w.part.sems.out k t)
out_same size w t k p fit = sym (ap (set p.out k) (fit.out k) ∙ set-get_or p.out k 0)

-- the number of a semaphore's permits has room
pub left_few : (size : Numbers) (w : SemWorld) (ws : List ℕ) → Fits size w ws → (k : ℕ) → w.part.sems.left k < 4294967296
left_few size w ws ok k = omega (arith, ok.few k, ok.sound.permits_conserved k)
