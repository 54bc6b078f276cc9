-- A waiter that has notified, or waited, is one again: its pass is calm, and what is kept of its counts follows.
use Rattle.std.proofs.Common.{◌≡◌, ℕ, Bool, true, false, List, inl, sym, ap, subst, ◌∙◌, arith}
use Rattle.lot_core.specs.Parts.{IsAmongConds}
use Rattle.lot_locks.specs.declared.released.Released.{Released}
use Rattle.lot_locks.specs.Standing.{IsOwner, LetsGo}
use Rattle.lot_words.specs.CallersRule.{CallersRule}
use Rattle.lot_scheme.specs.Standing.{LotStanding}
use Rattle.lot_waits.specs.Counts.{CountsView, AreKept, counts_in, called_more, one_wait_more}
use Rattle.lot_waits.specs.Notifying.{Notifies, NotifiesAll, one_if}
use Rattle.lot_waits.specs.Waiting.{HasWaited}
use Rattle.base_trials.specs.Calm.{IsCalm}
use Rattle.base_trials.proofs.Calm.{calm_itself, notified_calm, notified_counts, all_notified_calm, all_notified_counts, took_none}
use Rattle.base_trials.proofs.Calm.{went, waited_has_it, owner_has_it, owner_counts, waited_counts, went_counts}

-- of a lot of two locks and one condition
module _ (locks conds : ℕ) (two : locks ≡ 2) (one : conds ≡ 1) where
  among : IsAmongConds 2 1 2
  among = (omega arith, omega arith)

  here : (q : CountsView) (called woken : List ℕ) → AreKept locks conds q called woken → AreKept 2 1 q called woken
  here q called woken kept = subst (λ c. AreKept 2 c q called woken) one (subst (λ l. AreKept l conds q called woken) two kept)

  there : (q : CountsView) (called woken : List ℕ) → AreKept 2 1 q called woken → AreKept locks conds q called woken
  there q called woken kept = subst (λ c. AreKept locks c q called woken) (sym one) (subst (λ l. AreKept l 1 q called woken) (sym two) kept)

  -- what is kept goes on where the condition's number is raised
  raised : (q r : CountsView) (called woken called_now woken_now : List ℕ) → AreKept locks conds q called woken
      → (IsAmongConds 2 1 2 → AreKept 2 1 q called woken → AreKept 2 1 r called_now woken_now) → AreKept locks conds r called_now woken_now
  raised q r called woken called_now woken_now kept counts = there r called_now woken_now (counts among (here q called woken kept))

  pub all_taken : {V : Type 0} (p q : LotStanding V) (taken : ℕ) (called woken called_now woken_now : List ℕ) → IsCalm p.thread p
      → NotifiesAll p 2 taken q
      → AreKept locks conds (counts_in p) called woken
      → (IsAmongConds 2 1 2 → AreKept 2 1 (counts_in p) called woken → AreKept 2 1 (called_more (counts_in p) 2 taken) called_now woken_now)
      → IsCalm q.thread q × AreKept locks conds (counts_in q) called_now woken_now
  all_taken p q taken called woken called_now woken_now calm took_all kept counts = (
    calm_itself p.thread q (all_notified_calm p.thread 2 taken p q calm took_all),
    subst (λ (r : CountsView). AreKept locks conds r called_now woken_now) (sym (all_notified_counts 2 taken p q took_all))
        (raised (counts_in p) (called_more (counts_in p) 2 taken) called woken called_now woken_now kept counts),
  )

  pub one_taken : {V : Type 0} (b : Bool) (p q : LotStanding V) (called woken called_now woken_now : List ℕ) → b ≡ true
      → IsCalm p.thread p → Notifies p 2 1 (one_if b) q
      → AreKept locks conds (counts_in p) called woken
      → (IsAmongConds 2 1 2 → AreKept 2 1 (counts_in p) called woken → AreKept 2 1 (called_more (counts_in p) 2 1) called_now woken_now)
      → IsCalm q.thread q × AreKept locks conds (counts_in q) called_now woken_now
  one_taken b p q called woken called_now woken_now is calm took_one kept counts =
      let taken : Notifies p 2 1 1 q = subst (λ d. Notifies p 2 1 (one_if d) q) is took_one in (
        calm_itself p.thread q (notified_calm p.thread 2 1 1 p q calm taken),
        subst (λ (r : CountsView). AreKept locks conds r called_now woken_now) (sym (notified_counts 2 1 1 p q taken))
            (raised (counts_in p) (called_more (counts_in p) 2 1) called woken called_now woken_now kept counts),
      )

  pub none_taken : {V : Type 0} (b : Bool) (p q : LotStanding V) (called woken : List ℕ) → b ≡ false → IsCalm p.thread p
      → Notifies p 2 1 (one_if b) q
      → AreKept locks conds (counts_in p) called woken → IsCalm q.thread q × AreKept locks conds (counts_in q) called woken
  none_taken b p q called woken is calm took_one kept =
      let taken : Notifies p 2 1 0 q = subst (λ d. Notifies p 2 1 (one_if d) q) is took_one in (
        calm_itself p.thread q (notified_calm p.thread 2 1 0 p q calm taken),
        subst (λ (r : CountsView). AreKept locks conds r called woken) (sym (notified_counts 2 1 0 p q taken ∙ took_none p 2)) kept,
      )

  pub waited_again : {V Part : Type 0} (rule : CallersRule V Part) (l : ℕ) (first second : Released) (p owner again q : LotStanding V)
      (called woken called_now woken_now : List ℕ)
      → IsCalm p.thread p → IsOwner rule p l owner → HasWaited rule owner 2 l first again → LetsGo again l second q
      → AreKept locks conds (counts_in p) called woken
      → (IsAmongConds 2 1 2 → AreKept 2 1 (counts_in p) called woken → AreKept 2 1 (one_wait_more (counts_in p) 2) called_now woken_now)
      → IsCalm q.thread q × AreKept locks conds (counts_in q) called_now woken_now
  waited_again rule l first second p owner again q called woken called_now woken_now calm got waited gone kept counts =
      let has = owner_has_it rule p.thread l p owner (inl calm) got in
      let back = waited_has_it rule p.thread 2 l first owner again has waited in
      let is : counts_in q ≡ one_wait_more (counts_in p) 2 =
      went_counts l second again q gone ∙ (waited_counts rule 2 l first owner again waited
      ∙ ap (λ (r : CountsView). one_wait_more r 2) (owner_counts rule l p owner got)) in (
        calm_itself p.thread q (went p.thread l second again q back gone),
        subst (λ (r : CountsView). AreKept locks conds r called_now woken_now) (sym is)
            (raised (counts_in p) (one_wait_more (counts_in p) 2) called woken called_now woken_now kept counts),
      )
