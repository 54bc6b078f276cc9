-- At every moment: what keeps the rule of a lot stands for one state of the whole.
use Rattle.std.proofs.Common.{◌≡◌, ℕ, ◌+◌, List, [], ◌∷◌, map, get_or, refl, sym, ap, subst, ◌∙◌, ⊎_elim, Option}
use Rattle.std.specs.List.{Contains}
use Rattle.atomic_table.specs.Table.{State}
use Rattle.lot_core.specs.Model.{StateView}
use Rattle.lot_core.specs.Steps.{Run, after_all, IsReached}
use Rattle.lot_core.specs.Sound.{IsSound}
use Rattle.lot_core.proofs.Law.{reached_sound}
use Rattle.lot_core.proofs.WellFormed.{reached_formed}
use Rattle.lot_events.specs.declared.events.Point.{Point}
use Rattle.lot_events.specs.declared.events.Point.TheVariants.{Wants, Bed, Rest, Seeks}
use Rattle.lot_events.specs.declared.events.Event.{Event}
use Rattle.lot_events.specs.declared.events.Seen.{Seen}
use Rattle.lot_order.proofs.Progress.{orderly}
use Rattle.lot_rights.specs.declared.views.Right.{Right}
use Rattle.lot_rights.specs.History.{events_in, ModelRun}
use Rattle.lot_rights.specs.Layout.{word_at}
use Rattle.lot_rights.specs.Rule.{Ruled}
use Rattle.lot_rights.proofs.Settling.{has_one_run}
use Rattle.lot_words.specs.CallersRule.{CallersRule}
use Rattle.lot_words.proofs.Headlines as locks
use Rattle.lot_conds.proofs.Headlines as conds
use Rattle.lot_whole.specs.declared.views.LotPassView.{LotPassView}
use Rattle.lot_whole.specs.declared.views.LotRootView.{LotRootView}
use Rattle.lot_whole.specs.Family.{Which, lock, cond, sem, LotSize, IsKeyIn, meaning_of}
use Rattle.lot_whole.specs.Whole.{WholeStep, line_in, opening_of}
use Rattle.lot_whole.specs.Lot.{lot_meaning}
use Rattle.lot_whole.specs.Headline.{OneLineOfAll, event_of, IsOneRun, OneState, Promises}
use Rattle.lot_whole.proofs.Family.{word_is}

-- ---- one line each, over all kinds
-- what a thread's point says where it is in a line: the kind, and the key
abbrev waits_in : Point → Which × ℕ
waits_in (Wants l) = (lock, l)
waits_in (Bed c l) = (cond, c)
waits_in (Rest c l) = (cond, c)
waits_in (Seeks k) = (sem, k)
waits_in _ = (lock, 0)

module _ (s : StateView) (sound : IsSound s) where
  says : (j : Which) (c t : ℕ) → Contains (line_in s j c) t → waits_in (s.point t) ≡ (j, c)
  says lock l t h = ap waits_in (sound.one_line_each.wants l t h).1
  says cond c t h = let w = sound.one_line_each.waits c t h in
      ⊎_elim {C = waits_in (s.point t) ≡ (cond, c)} (ap waits_in) (ap waits_in) w.1.1
  says sem k t h = ap waits_in (sound.one_line_each.seeks k t h).1

  pub one_line : OneLineOfAll s
  one_line j k c d t a b =
      let e : (j, c) ≡ (k, d) = sym (says j c t a) ∙ says k d t b in
      (ap (λ (x : Which × ℕ). x.0) e, ap (λ (x : Which × ℕ). x.1) e)

-- ---- a run of steps is a run of the model
model_run : (a : StateView) (events : List (Event × Seen)) (b : StateView) → ModelRun WholeStep a events b → Run a (map event_of events)
    × (b ≡ after_all a (map event_of events))
model_run a [] b run = (tt, run)
model_run a (x ∷ events) b run =
    let step = run.1.0 in
    let rest = model_run run.0 events b run.1.1 in
    let is : run.0 ≡ _ = step.2 in (
      (step.0, subst (λ s. Run s (map event_of events)) is rest.0),
      rest.1 ∙ ap (λ s. after_all s (map event_of events)) is,
    )

pub one_run : (z : LotSize) (events : List (Event × Seen)) (state : StateView) → IsReached state
    → ModelRun WholeStep (opening_of z) events state → IsOneRun z events state
one_run z events state reached seen =
    let run = model_run (opening_of z) events state seen in
    record { sound = reached_sound state reached; formed = reached_formed state reached; seen = seen; run = run.0; end = run.1 }

module _ {V Part : Type 0} (rule : CallersRule V Part) (z : LotSize) (xs : List V)
    (s : State (Option V) (List (Right (LotPassView V) LotRootView))) (here : Ruled (lot_meaning rule z xs) s) where
  pub one_state : OneState rule z xs s here
  one_state =
      let ok = here.fits in
      record {
        state = here.world.whole;
        words = λ j c is. ok.keys j c is
            ∙ (key_told j c is ∙ (ap (λ p. (meaning_of rule z xs j).word_in p c) (sym (ok.agrees j))
            ∙ sym (word_is rule z xs j here.world.whole c is)));
        parts = ok.agrees;
        stands = λ t near. (ok.passes t near).stand;
        history = one_run z (events_in here.log) here.world.whole ok.reached (has_one_run (lot_meaning rule z xs) s here).model;
        orderly = orderly rule.above here.world.whole (reached_sound here.world.whole ok.reached)
            (reached_formed here.world.whole ok.reached) ok.ordered;
        one_line = one_line here.world.whole (reached_sound here.world.whole ok.reached);
        one_letter = λ t near. (ok.passes t near).apart;
      }
    where
      -- the shadow word is what the kind's part says
      key_told : (j : Which) (c : ℕ) → IsKeyIn z j c
          → get_or (here.world.words j) (word_at c) 0 ≡ (meaning_of rule z xs j).word_in
          ((meaning_of rule z xs j).told_by (here.world.each j)).part c
      key_told lock = (here.fits.parts lock).words.words
      key_told cond = (here.fits.parts cond).words.words
      key_told sem = (here.fits.parts sem).words.words

  pub state_is : one_state.state ≡ here.world.whole
  unfolding one_state
  state_is = refl

  pub promises : Promises rule z xs s here
  promises = record {
    whole = one_state;
    lock_letters = locks.letters_fit z.threads z.locks (here.world.each lock) (here.fits.parts lock).kept;
    cond_letters = conds.letters_fit z.threads (z.locks + z.conds) (here.world.each cond) (here.fits.parts cond).kept;
    sem_letters = (here.fits.parts sem).letters;
    locks = locks.sound z.threads z.locks (here.world.each lock) (here.fits.parts lock).kept;
    lawful = (here.fits.parts lock).lawful;
    balanced = λ c. ((here.fits.parts cond).kept.conds c).ledger;
  }
