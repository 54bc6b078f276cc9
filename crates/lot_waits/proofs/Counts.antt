-- What is kept of counts: at the opening, and where one of them is raised.
use Rattle.std.proofs.Common.{◌≡◌, ℕ, zero, suc, ◌+◌, ◌-◌, ◌≤◌, List, ◌∷◌, length, map, drop, replicate, slice_index, slice_set, refl, sym}
use Rattle.std.proofs.Common.{ap, ◌∙◌, arith}
use Rattle.std.proofs.lemmas.List.{drop-replicate, drop-set-add, map-set, length-replicate, length-set, get_or-drop}
use Rattle.std.proofs.Math.ListN.{get_or-map}
use Rattle.std.proofs.Math.Nat.{mod-add-mod}
use Rattle.lot_core.specs.Parts.{IsAmongConds}
use Rattle.lot_waits.specs.Counts.{CountsView, AreKept, wrap, kept, one_wait_more, called_more}

wrapped_zeros : (n : ℕ) → map wrap (replicate {A = ℕ} n 0) ≡ replicate {A = ℕ} n 0
wrapped_zeros zero = refl
wrapped_zeros (suc n) = ap (λ ns. 0 ∷ ns) (wrapped_zeros n)

kept_zeros : (locks conds : ℕ) → kept locks (replicate {A = ℕ} (locks + conds) 0) ≡ replicate {A = ℕ} conds 0
kept_zeros locks conds =
    ap (map wrap) (drop-replicate locks (locks + conds) 0)
    ∙ (let left : (locks + conds) - locks ≡ conds = omega arith in ap (λ n. map wrap (replicate {A = ℕ} n 0)) left ∙ wrapped_zeros conds)

-- zeros are kept of zeros
pub kept_of_none : (locks conds : ℕ) (q : CountsView) (called woken : List ℕ) → q.called ≡ replicate (locks + conds) 0
    → q.woken ≡ replicate (locks + conds) 0
    → called ≡ replicate conds 0 → woken ≡ replicate conds 0 → AreKept locks conds q called woken
kept_of_none locks conds q called woken c w kc kw = record {
  wide = (ap length c ∙ length-replicate (locks + conds) 0, ap length w ∙ length-replicate (locks + conds) 0);
  called_are = kc ∙ (sym (kept_zeros locks conds) ∙ ap (kept locks) (sym c));
  woken_are = kw ∙ (sym (kept_zeros locks conds) ∙ ap (kept locks) (sym w));
}

-- what is kept of the number at locks + i
pub kept_at : (locks : ℕ) (counts : List ℕ) (i : ℕ) → slice_index (kept locks counts) i ≡ wrap (slice_index counts (locks + i))
kept_at locks counts i = get_or-map wrap (drop locks counts) i 0 ∙ ap wrap (get_or-drop locks counts i 0)

set_at : (locks : ℕ) (counts : List ℕ) (i by : ℕ)
    → slice_set (kept locks counts) i (wrap (slice_index (kept locks counts) i + by)) ≡ kept locks
    (slice_set counts (locks + i) (slice_index counts (locks + i) + by))
set_at locks counts i by =
    let raised : ℕ = slice_index counts (locks + i) + by in
    ap (λ n. slice_set (kept locks counts) i (wrap (n + by))) (kept_at locks counts i)
    ∙ (ap (λ n. slice_set (kept locks counts) i n) (mod-add-mod (slice_index counts (locks + i)) 18446744073709551616 by)
    ∙ (sym (map-set wrap (drop locks counts) i raised)
    ∙ ap (map wrap) (sym (drop-set-add locks counts i raised))))

-- a number is raised at the condition, and so is the one that is kept of it
pub kept_raised : (locks : ℕ) (counts : List ℕ) (c by : ℕ) → locks ≤ c
    → slice_set (kept locks counts) (c - locks) (wrap (slice_index (kept locks counts) (c - locks) + by)) ≡ kept locks
    (slice_set counts c (slice_index counts c + by))
kept_raised locks counts c by past =
    set_at locks counts (c - locks) by
    ∙ (let there : locks + (c - locks) ≡ c = omega (arith, past) in
    ap (λ d. kept locks (slice_set counts d (slice_index counts d + by))) there)

pub kept_woken : (locks conds : ℕ) (q : CountsView) (called woken : List ℕ) (c : ℕ) → IsAmongConds locks conds c
    → AreKept locks conds q called woken
    → AreKept locks conds (one_wait_more q c) called (slice_set woken (c - locks) (wrap (slice_index woken (c - locks) + 1)))
kept_woken locks conds q called woken c among k = record {
  wide = (k.wide.0, length-set q.woken c (slice_index q.woken c + 1) ∙ k.wide.1);
  called_are = k.called_are;
  woken_are = ap (λ xs. slice_set xs (c - locks) (wrap (slice_index xs (c - locks) + 1))) k.woken_are
      ∙ kept_raised locks q.woken c 1 among.0;
}

pub kept_taken : (locks conds : ℕ) (q : CountsView) (called woken : List ℕ) (c n : ℕ) → IsAmongConds locks conds c
    → AreKept locks conds q called woken
    → AreKept locks conds (called_more q c n) (slice_set called (c - locks) (wrap (slice_index called (c - locks) + n))) woken
kept_taken locks conds q called woken c n among k = record {
  wide = (length-set q.called c (slice_index q.called c + n) ∙ k.wide.0, k.wide.1);
  called_are = ap (λ xs. slice_set xs (c - locks) (wrap (slice_index xs (c - locks) + n))) k.called_are
      ∙ kept_raised locks q.called c n among.0;
  woken_are = k.woken_are;
}
