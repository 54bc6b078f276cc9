-- An unparking of all is one of as many as the lot has threads.
use Rattle.std.proofs.Common.{◌≡◌, ℕ, ◌≤◌, Bool, List, length, sym, ◌∙◌, ap, subst, arith}
use Rattle.std.proofs.lemmas.List.{take_all, drop_all}
use Rattle.lot_bucket.specs.Contents.{Contents}
use Rattle.lot_bucket.specs.KeyLine.{KeyLine}
use Rattle.lot_park.specs.Parking.{TellsCount, MayUnparkAll, MayUnparkCount, UnparksAll, UnparksCount, UnparkedAll, UnparkedCount, debts}

-- then all of the line are taken
taken_all : (threads n : ℕ) (line : List ℕ) (taken : ℕ) (more : Bool) → n ≡ threads
    → TellsCount threads n line taken more → taken ≡ length line
taken_all threads n line taken more all told = omega (arith, all, told.number, told.short)

pub unparked_all : {R X : Type 0} (view : R → KeyLine) (threads k n : ℕ) (bucket : Contents R) (answers : R → ℕ → X × R → Type 0)
    (result : X × ℕ) → n ≡ threads → UnparkedCount view threads k n bucket (λ root taken more. answers root taken) result
    → UnparkedAll view k bucket answers result
unparked_all view threads k n bucket answers result all u =
    record {
      root = u.root;
      from = u.from;
      answer = u.answer;
      whole = taken_all threads n (view u.root).line result.1 u.more all u.told;
      called = u.called;
      same = u.same;
    }

-- with what was taken, the callback may be called as for all
pub may_all : {R : Type 0} (view : R → KeyLine) (threads k n : ℕ) (may : R → ℕ → Type 0) → n ≡ threads → MayUnparkAll view k may
    → MayUnparkCount view threads k n (λ root taken more. may root taken)
may_all view threads k n may all callable root taken more named paid told =
    subst (λ (t : ℕ). may root t) (sym (taken_all threads n (view root).line taken more all told)) (callable root named paid)

-- and it keeps the root as for all
pub keeps_all : {R X : Type 0} (view : R → KeyLine) (threads k n : ℕ) (answers : R → ℕ → X × R → Type 0) → n ≡ threads
    → UnparksAll view {X = X} k answers
    → UnparksCount view {X = X} threads k n (λ root taken more. answers root taken)
keeps_all {R} {X} view threads k n answers all keeps root taken more answer named paid told called =
    let line = (view root).line in
    let short : length line ≤ n = omega (arith, all, told.short) in
    let kept =
    keeps root answer named paid (subst (λ (t : ℕ). answers root t answer) (taken_all threads n line taken more all told) called) in
    (kept.0, kept.1 ∙ sym (drop_all n line short), kept.2 ∙ ap debts (sym (take_all n line short)))
