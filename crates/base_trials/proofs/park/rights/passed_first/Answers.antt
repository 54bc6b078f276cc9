use Rattle.std.proofs.Common.{◌≡◌, ℕ, ◌+◌, ◌<◌, List, [], ◌∷◌, ◌++◌, length, get_or, take, drop, min, remove, refl, sym, ◌∙◌, ap, arith}
use Rattle.std.proofs.Common.{add-one}
use Rattle.std.proofs.lemmas.List.{take_more, take_min, drop_min}
use Rattle.std.proofs.Math.Seq.{drop-cons}
use Rattle.lot_park.specs.Parking.{debts}
use Rattle.base_trials.proofs.park.rights.passed_first.Goals as goal

debts-push : (xs : List ℕ) (x : ℕ) → debts (xs ++ x ∷ []) ≡ debts xs ++ (x, 0) ∷ []
debts-push [] x = refl
debts-push (y ∷ xs) x = ap (λ ds. (y, 0) ∷ ds) (debts-push xs x)

line_on : (n : ℕ) (all line after : List ℕ) → n < length all → line ≡ drop n all → after ≡ remove line 0 → after ≡ drop (n + 1) all
line_on n all line after lt same gone = gone ∙ ap (λ l. remove l 0) (same ∙ drop-cons all n 0 lt) ∙ ap (λ k. drop k all) (sym (add-one n))

owes_on : (n : ℕ) (all line : List ℕ) (thread : ℕ) (owes after : List (ℕ × ℕ)) → n < length all → line ≡ drop n all
    → thread ≡ get_or line 0 thread
    → owes ≡ debts (take n all) → after ≡ owes ++ (thread, 0) ∷ [] → after ≡ debts (take (n + 1) all)
owes_on n all line thread owes after lt same first owed pushed =
    let is : thread ≡ get_or all n 0 = first ∙ ap (λ l. get_or l 0 thread) (same ∙ drop-cons all n 0 lt) in
    pushed ∙ ap (λ ds. ds ++ (thread, 0) ∷ []) owed ∙ ap (λ x. debts (take n all) ++ (x, 0) ∷ []) is
    ∙ sym (debts-push (take n all) (get_or all n 0)) ∙ ap (λ l. debts l) (sym (take_more all n 0 lt))

pub loop-preserved : goal.loop-preserved
loop-preserved g c =
    let all = c.args.right.line.items in
    let lt : c.loop.counter < length all = omega (arith, c.min-taken.ensures) in
    record {
      key = c.loop.invariant.key;
      line = line_on c.loop.counter all c.loop.right.line.items c.remove-thread.new.self.items lt c.loop.invariant.line
          c.remove-thread.ensures.items;
      owes =
          owes_on c.loop.counter all c.loop.right.line.items c.remove-thread.result c.loop.right.owes.items c.push.new.self.items lt
          c.loop.invariant.line c.remove-thread.ensures.value
          c.loop.invariant.owes (rw c.expect.ensures at c.push.ensures.items);
    }

pub returns-clause-line : goal.returns-clause-line
returns-clause-line g c =
    let all = c.args.right.line.items in
    let is : c.loop.counter ≡ min c.args.count (length all) =
    omega (arith, c.loop-test.false, c.loop.auto.counter-end, c.min-taken.ensures, c.len.ensures) in
    c.loop.invariant.line ∙ ap (λ n. drop n all) is ∙ drop_min c.args.count all

pub returns-clause-owes : goal.returns-clause-owes
returns-clause-owes g c =
    let all = c.args.right.line.items in
    let is : c.loop.counter ≡ min c.args.count (length all) =
    omega (arith, c.loop-test.false, c.loop.auto.counter-end, c.min-taken.ensures, c.len.ensures) in
    c.loop.invariant.owes ∙ ap (λ n. debts (take n all)) is ∙ ap (λ l. debts l) (take_min c.args.count all)
