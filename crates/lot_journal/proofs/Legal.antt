-- Legal histories, joined and cut; and whose calls a journal has grown by.
use Rattle.std.proofs.Common.{◌≡◌, ◌≢◌, ◌==◌, ℕ, Bool, true, false, if◌then◌else◌, List, [], ◌∷◌, ◌++◌, refl, ap, sym, subst, ◌∙◌}
use Rattle.std.specs.List.{filter, All}
use Rattle.std.proofs.lemmas.Bool.{eqb-false}
use Rattle.std.proofs.lemmas.List.{append-nil, append_cancel_left}
use Rattle.std.proofs.lemmas.List.Elements.{filter-append, All-nil, All-cons, All-weaker}
use Rattle.lot_journal.specs.declared.entry.Entry.{Entry}
use Rattle.lot_journal.specs.Legal.{IsLegal, AreLegalInTurn}
use Rattle.lot_journal.specs.Journal.{JournalView, GoesOn, calls_of, OnlyOthersCalled, IsLegalJournal, IsCalled}

module _ {O C R : Type 0} (after : O → C → O) (reply : O → C → R) where
  pub legal_joined : (first middle last : O) (history more : List (Entry C R)) → IsLegal after reply first history middle
      → IsLegal after reply middle more last
      → IsLegal after reply first (history ++ more) last
  legal_joined first middle last [] more same rest = subst (λ o. IsLegal after reply o more last) (sym same) rest
  legal_joined first middle last (entry ∷ history) more legal rest =
      (legal.0, legal_joined (after first entry.call) middle last history more legal.1 rest)

  pub legal_cut : (first last : O) (history more : List (Entry C R)) → IsLegal after reply first (history ++ more) last
      → AreLegalInTurn after reply first history more last
  legal_cut first last [] more legal = record { middle = first; before = refl; behind = legal }
  legal_cut first last (entry ∷ history) more legal =
      let rest = legal_cut (after first entry.call) last history more legal.1 in
      record { middle = rest.middle; before = (legal.0, rest.before); behind = rest.behind }

  pub legal_settles : (first one other : O) (history : List (Entry C R)) → IsLegal after reply first history one
      → IsLegal after reply first history other → one ≡ other
  legal_settles first one other [] a b = sym a ∙ b
  legal_settles first one other (entry ∷ history) a b = legal_settles (after first entry.call) one other history a.1 b.1

  -- a call keeps that the history is legal
  pub legal_called : (old : JournalView O C R) (thread : ℕ) (call : C) (answer : R) (new : JournalView O C R)
      → IsCalled after reply old thread call answer new
      → IsLegalJournal after reply old → IsLegalJournal after reply new
  legal_called old thread call answer new is legal =
      let joined =
      legal_joined old.opening old.object new.object old.history (record { thread = thread; call = call; reply = answer } ∷ []) legal
      (sym is.answered, sym is.object) in
      subst (λ h. IsLegal after reply new.opening h new.object) (sym is.history) (subst (λ o. IsLegal after reply o
      (old.history ++ record { thread = thread; call = call; reply = answer } ∷ []) new.object) (sym is.opening) joined)

-- what a filter leaves out entirely fails its test everywhere
none_pass : {X : Type 0} (p : X → Bool) (xs : List X) → filter p xs ≡ [] → All (λ x. p x ≡ false) xs
none_pass p [] e = All-nil (λ x. p x ≡ false)
none_pass p (x ∷ xs) e = at_first (p x) refl (λ rest. none_pass p xs rest)
  where
    at_first : (b : Bool) → p x ≡ b → (filter p xs ≡ [] → All (λ y. p y ≡ false) xs) → All (λ y. p y ≡ false) (x ∷ xs)
    at_first true is rest = absurd (cc (e, is))
    at_first false is rest =
        All-cons (λ y. p y ≡ false) x xs is (rest (subst (λ b. (if b then x ∷ filter p xs else filter p xs) ≡ []) is e))

module _ {O C R : Type 0} where
  -- where a thread's calls are the same, only others called
  pub only_others : (thread : ℕ) (old new : JournalView O C R) → GoesOn old new → calls_of thread old ≡ calls_of thread new
      → OnlyOthersCalled thread old new
  only_others thread old new on same = record {
    more = on.history.0;
    history = sym on.history.1;
    others =
        All-weaker (λ entry. is_own entry ≡ false) (λ entry. entry.thread ≢ thread)
        (λ entry no. eqb-false entry.thread thread no) on.history.0 (none_pass is_own on.history.0 none);
  }
    where
      is_own : Entry C R → Bool
      is_own entry = entry.thread == thread

      both : filter is_own old.history ++ [] ≡ filter is_own old.history ++ filter is_own on.history.0
      both =
          append-nil (filter is_own old.history)
          ∙ (same ∙ (sym (ap (filter is_own) on.history.1) ∙ filter-append is_own old.history on.history.0))

      none : filter is_own on.history.0 ≡ []
      none = sym (append_cancel_left (filter is_own old.history) [] (filter is_own on.history.0) both)
