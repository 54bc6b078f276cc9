-- What is counted with a root stays right.
use Rattle.std.proofs.Common.{◌≡◌, ℕ, ◌+◌, suc, List, [], ◌∷◌, ◌++◌, length, take, drop, Option, Some, None, refl, sym, ap, subst}
use Rattle.std.proofs.Common.{◌∙◌, arith}
use Rattle.std.proofs.lemmas.List.{append-nil, length-append, take-append-drop}
use Rattle.std.proofs.lemmas.List.Sums.{sum_by-append}
use Rattle.lot_park.specs.Parking.{debt, debts}
use Rattle.lot_rights.specs.declared.views.Access.TheVariants.{Posts, Counts}
use Rattle.lot_rights.specs.declared.views.Entry.{Entry}
use Rattle.lot_rights.specs.History.{one_if_handoff, handed_by, handed_in}
use Rattle.lot_rights.specs.Lines.{without}
use Rattle.lot_rights.specs.Shown.{PassShown, RootShown}
use Rattle.lot_rights.specs.World.{number_of}
use Rattle.lot_rights.specs.Steps.{Notes, RootNotes, Moment}
use Rattle.lot_rights.proofs.Lines.{one_less}
use Rattle.lot_words.specs.CallersRule.{CallersRule}
use Rattle.lot_conds.specs.Calls.{called_root, swept_root}
use Rattle.lot_whole.specs.declared.views.LotPassView.{LotPassView}
use Rattle.lot_whole.specs.declared.views.LotRootView.{LotRootView}
use Rattle.lot_whole.specs.declared.views.LotRootView.TheVariants.{Lock, Cond, Sem}
use Rattle.lot_whole.specs.Family.{cond as cond_kind, LotSize}
use Rattle.lot_whole.specs.Order.{queued_in}
use Rattle.lot_whole.specs.Lot.{line_of_root, owed_by, lot_meaning}
use Rattle.lot_whole.specs.Calls.{RootIs, OwesLetter, paid, counting}
use Rattle.lot_whole.specs.Standing.{IsCondRoot, as_cond}
use Rattle.lot_whole.proofs.Counting.{queued_known}
use Rattle.lot_whole.proofs.Moments.{one_state}
use Rattle.lot_scheme.specs.declared.contention.Contention.{Contention}
use Rattle.lot_scheme.specs.Roots.{debts_of, owes_in}
use Rattle.lot_scheme.specs.Counts.{IsContention, queued_now, queued_ever, CountedWith, HasCounted, WasCounted}
use Rattle.lot_scheme.specs.Standing.{standing}
use Rattle.lot_scheme.proofs.Noted.{noted}

none_plus : (n : ℕ) → 0 + n ≡ n
none_plus n = omega arith

debts_length : (xs : List ℕ) → length (debts xs) ≡ length xs
debts_length [] = refl
debts_length (x ∷ xs) = ap suc (debts_length xs)

-- whoever is taken from a line is owed a letter
moved : (line owes front back : List ℕ) → line ≡ front ++ back
    → length back + length (debts (owes ++ front)) ≡ length line + length (debts owes)
moved line owes front back are =
    let long = ap length are ∙ length-append front back in
    let owing = debts_length (owes ++ front) ∙ length-append owes front in
    let owed = debts_length owes in
    omega (arith, long, owing, owed)

called_same : (own : LotRootView) (n : ℕ) → IsCondRoot own → queued_now (Cond (called_root (as_cond own) n)) ≡ queued_now own
called_same (Lock q) n is = absurd is
called_same (Cond q) n is = moved q.line q.owes (take n q.line) (drop n q.line) (sym (take-append-drop n q.line))
called_same (Sem q) n is = absurd is

swept_same : (own : LotRootView) → IsCondRoot own → queued_now (Cond (swept_root (as_cond own))) ≡ queued_now own
swept_same (Lock q) is = absurd is
swept_same (Cond q) is = moved q.line q.owes q.line [] (sym (append-nil q.line))
swept_same (Sem q) is = absurd is

paid_less : (own : LotRootView) (t token : ℕ) → OwesLetter own t token → suc (queued_now (paid own t)) ≡ queued_now own
paid_less (Lock q) t token owes = let one = ap (λ o. length (debts_of o)) owes in omega (arith, one)
paid_less (Cond q) t token owes =
    let less = one_less t q.owes owes.0 in
    let before = debts_length q.owes in
    let after = debts_length (without t q.owes) in
    omega (arith, less, before, after)
paid_less (Sem q) t token owes = let one = ap (λ (o : Option ℕ). length (debt o 0)) owes.0 in omega (arith, one)

-- one was told, and everybody who was ever queued is as before
pub posted_on : (counts counts' : ℕ → ℕ → ℕ → Type 0) (r q : RootShown LotRootView) (t token : ℕ)
    → ((p k h : ℕ) → counts p k h → counts' p (k + 1) (h + one_if_handoff token))
    → RootNotes r (paid r.own t) (Posts r.key t token) q → OwesLetter r.own t token → CountedWith counts r → CountedWith counts' q
posted_on counts counts' r q t token told (k, is) owes counted =
    let entry : Entry = record { at = k; access = Posts r.key t token } in
    let long = length-append r.made (entry ∷ []) in
    let less = paid_less r.own t token owes in
    let ever : queued_ever r ≡ length (r.made ++ entry ∷ []) + queued_now (paid r.own t) = omega (arith, long, less) in
    let handed : handed_in r.made + one_if_handoff token ≡ handed_in (r.made ++ entry ∷ []) = sym (sum_by-append (λ
    (x : Entry). handed_by x.access)
    r.made (entry ∷ []) ∙ ap (λ n. handed_in r.made + n) (none_plus (one_if_handoff token))) in
    subst (CountedWith counts') (sym is)
    (subst (λ n. counts' n (length (r.made ++ entry ∷ [])) (handed_in (r.made ++ entry ∷ []))) ever
    (subst (λ n. counts' (queued_ever r) n (handed_in (r.made ++ entry ∷ []))) (sym long)
    (subst (λ n. counts' (queued_ever r) (length r.made + 1) n) handed
    (told (queued_ever r) (length r.made) (handed_in r.made) counted))))

module _ (counts : ℕ → ℕ → ℕ → Type 0) where
  -- nobody was queued and nobody told
  counted_on : (r q : RootShown LotRootView) (own : LotRootView) → q ≡ record r { own = own } → queued_now own ≡ queued_now r.own
      → CountedWith counts r → CountedWith counts q
  counted_on r q own is same counted =
      subst (CountedWith counts) (sym is)
      (subst (λ n. counts (length r.made + n) (length r.made) (handed_in r.made)) (sym same) counted)

  pub called_on : (r q : RootShown LotRootView) (n : ℕ) → IsCondRoot r.own → RootIs cond_kind r (called_root (as_cond r.own) n) q
      → CountedWith counts r → CountedWith counts q
  called_on r q n kind is = counted_on r q (Cond (called_root (as_cond r.own) n)) is (called_same r.own n kind)

  pub swept_on : (r q : RootShown LotRootView) → IsCondRoot r.own → RootIs cond_kind r (swept_root (as_cond r.own)) q
      → CountedWith counts r → CountedWith counts q
  swept_on r q kind is = counted_on r q (Cond (swept_root (as_cond r.own))) is (swept_same r.own kind)

-- ---- what was counted, and the history
-- a root that owes no letter owes none
one_debt : (o : Option (ℕ × ℕ)) → number_of o ≡ length (debts_of o)
one_debt None = refl
one_debt (Some x) = refl

one_owed : (o : Option ℕ) → number_of o ≡ length (debt o 0)
one_owed None = refl
one_owed (Some x) = refl

pub clear_owes : (own : LotRootView) → owes_in own ≡ [] → owed_by own ≡ 0
clear_owes (Lock q) none = one_debt q.owes ∙ ap length none
clear_owes (Cond q) none = sym (debts_length q.owes) ∙ ap length none
clear_owes (Sem q) none = one_owed q.owes ∙ ap length none

pub has_counted : {V : Type 0} (p q : PassShown (LotPassView V)) (r : RootShown LotRootView) (key : ℕ) (c : Contention) → r.key ≡ key
    → owes_in r.own ≡ [] → CountedWith (λ p t h. IsContention p t h c) r → Notes p p.own (counting p.thread r) q
    → HasCounted (standing p) key c (standing q)
has_counted p q r key c named none counted note =
    let waiting : ℕ = length (line_of_root r.own) in
    let ever : queued_ever r ≡ length r.made + waiting = omega (arith, ap length none) in (
      counting p.thread r ∷ [],
      (
        length r.made,
        handed_in r.made,
        waiting,
        subst (λ n. IsContention n (length r.made) (handed_in r.made) c) ever counted,
        ap (λ k. Counts p.thread k (length r.made) (handed_in r.made) waiting ∷ []) named,
      ),
      noted p p.own (counting p.thread r) q note,
    )

module _ {V Part : Type 0} (rule : CallersRule V Part) (z : LotSize) (xs : List V) where
  pub was_counted : (c : Contention) (r : RootShown LotRootView) → Moment (lot_meaning rule z xs) r → owes_in r.own ≡ []
      → CountedWith (λ p t h. IsContention p t h c) r → WasCounted rule z r.key c
  was_counted c r moment none counted =
      let whole = one_state rule z xs moment.state moment.here in
      let queued = queued_known rule z xs moment.here.world moment.state.words moment.state.homes r.key r.own moment.here.fits moment.root
      moment.here.log moment.here.recorded.run (moment.here.owed r.key) in
      let clear = clear_owes r.own none in
      let ever : queued_ever r ≡ queued_in r.key moment.here.log =
      omega (arith, queued, clear, ap length none, ap length moment.entries) in
      record {
        values = xs;
        table = moment.state;
        here = moment.here;
        whole = whole;
        counted = subst (λ made. IsContention (queued_in r.key moment.here.log) (length made) (handed_in made) c)
            moment.entries (subst (λ n. IsContention n (length r.made) (handed_in r.made) c) ever counted);
      }
