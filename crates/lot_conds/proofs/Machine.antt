-- How a change of the world keeps the rule of threads and conditions.
use Rattle.std.proofs.Common.{◌≡◌, ◌≢◌, ℕ, Bool, cond, List, [], ◌∷◌, get_or, refl, sym, ap, subst, ◌∙◌, ⊎_elim, arith, eq-eqb, ne_eqb}
use Rattle.std.proofs.Common.{Some, None}
use Rattle.std.specs.List.{Contains}
use Rattle.lot_core.specs.Model.{put}
use Rattle.lot_core.proofs.Members.{in_head, in_none, in_tail}
use Rattle.lot_rights.specs.World.{Spot, awake, queued, owed, lying}
use Rattle.lot_rights.proofs.Lines.{in_cases}
use Rattle.lot_rights.proofs.Puts.{by_test, put_elim}
use Rattle.lot_conds.specs.declared.views.CondPassView.{CondPassView}
use Rattle.lot_conds.specs.declared.views.CondRootView.{CondRootView}
use Rattle.lot_conds.specs.World.{CondWorld, IsOut, SpotFits, taken_from, LedgerFits, ThreadFits, CondFits, Kept}
use Rattle.lot_core.proofs.Sums.{total_same}

-- the world after an event: the pass of t, where the notices are, and the condition c
abbrev pub turned : CondWorld → ℕ → CondPassView → (ℕ → Spot) → ℕ → Bool → CondRootView → CondWorld
turned w t p spots c f q = record { pass = put w.pass t p; spot = spots; word = put w.word c f; root = put w.root c q }

-- all of the list are owed a letter of c
abbrev pub owing : ℕ → List ℕ → (ℕ → Spot) → (ℕ → Spot)
owing c [] spot = spot
owing c (u ∷ us) spot = put (owing c us spot) u (owed c 0)

pub owing_in : (c : ℕ) (us : List ℕ) (spot : ℕ → Spot) (v : ℕ) → Contains us v → owing c us spot v ≡ owed c 0
owing_in c [] spot v h = absurd (in_none v h)
owing_in c (u ∷ us) spot v h = put_elim (λ x. x ≡ owed c 0) (owing c us spot) u (owed c 0) v (λ _. refl)
    (λ ne. ⊎_elim {C = owing c us spot v ≡ owed c 0} (λ e. absurd (ne (sym e))) (λ i. owing_in c us spot v i) (in_cases u us v h))

pub owing_out : (c : ℕ) (us : List ℕ) (spot : ℕ → Spot) (v : ℕ) → (¬ Contains us v) → owing c us spot v ≡ spot v
owing_out c [] spot v h = refl
owing_out c (u ∷ us) spot v h = put_elim (λ x. x ≡ spot v) (owing c us spot) u (owed c 0) v
    (λ e. absurd (h (subst (Contains (u ∷ us)) (sym e) (in_head u us)))) (λ _. owing_out c us spot v (λ i. h (in_tail u us v i)))

-- ---- where a notice is
pub no_some : (c : ℕ) → None ≡ Some c → ⊥
no_some c e = cc

pub awake_is : (n : ℕ) (root : ℕ → CondRootView) (t : ℕ) (p : CondPassView) (sp : Spot) → SpotFits n root t p sp → p.out ≡ None → sp ≡ awake
awake_is n root t p awake h e = refl
awake_is n root t p (queued c) h e = absurd (no_some c (sym e ∙ h.0.1))
awake_is n root t p (owed c k) h e = absurd (no_some c (sym e ∙ h.0.1))
awake_is n root t p (lying c k) h e = absurd (no_some c (sym e ∙ h.0.1))

pub queued_apart : (sp : Spot) (c d : ℕ) → sp ≡ queued c → sp ≡ queued d → c ≡ d
queued_apart sp c d e f = let g : queued c ≡ queued d = sym e ∙ f in cc

pub owed_same : (sp : Spot) (c d : ℕ) → sp ≡ owed c 0 → sp ≡ owed d 0 → c ≡ d
owed_same sp c d e f = let g : owed c 0 ≡ owed d 0 = sym e ∙ f in cc

pub not_both : (sp : Spot) (c d k : ℕ) → sp ≡ queued c → sp ≡ owed d k → ⊥
not_both sp c d k e f = let g : queued c ≡ owed d k = sym e ∙ f in cc

pub queued_out : (n : ℕ) (root : ℕ → CondRootView) (u c : ℕ) (p : CondPassView) (sp : Spot) → sp ≡ queued c
    → SpotFits n root u p sp → IsOut n u p c
queued_out n root u c p sp e h = let g : SpotFits n root u p (queued c) = subst (SpotFits n root u p) e h in g.0

pub taken_else : (k c : ℕ) → k ≢ c → taken_from k (owed c 0) ≡ 0
taken_else k c ne = ap (λ (b : Bool). let z : ℕ = cond b 1 0 in z) (ne_eqb c k (λ e. ne (sym e)))

pub taken_here : (c : ℕ) → taken_from c (owed c 0) ≡ 1
taken_here c = ap (λ (b : Bool). let z : ℕ = cond b 1 0 in z) (eq-eqb c c refl)

-- ---- a thread among conditions that change
pub record SameFor (u : ℕ) (root root' : ℕ → CondRootView) : Type 0 where
  pub line : (k : ℕ) → Contains (root k).line u → Contains (root' k).line u
  pub line_back : (k : ℕ) → Contains (root' k).line u → Contains (root k).line u
  pub owes : (k : ℕ) → Contains (root k).owes u → Contains (root' k).owes u
  pub owes_back : (k : ℕ) → Contains (root' k).owes u → Contains (root k).owes u

spot_on : (n : ℕ) (root root' : ℕ → CondRootView) (u : ℕ) (p : CondPassView) (sp : Spot) → SameFor u root root' → SpotFits n root u p sp
    → SpotFits n root' u p sp
spot_on n root root' u p awake s h = h
spot_on n root root' u p (queued c) s h = (h.0, s.line c h.1)
spot_on n root root' u p (owed c k) s h = (h.0, s.owes c h.1, h.2)
spot_on n root root' u p (lying c k) s h = h

pub thread_on : (n m : ℕ) (root root' : ℕ → CondRootView) (u : ℕ) (p : CondPassView) (sp : Spot) → SameFor u root root'
    → ThreadFits n m root u p sp → ThreadFits n m root' u p sp
thread_on n m root root' u p sp s ok = record {
  called = ok.called;
  woken = ok.woken;
  outs = ok.outs;
  spot = spot_on n root root' u p sp s ok.spot;
  in_line = λ c h. ok.in_line c (s.line_back c h);
  is_owed = λ c h. ok.is_owed c (s.owes_back c h);
}

-- one condition changes, and keeps what it has of the thread
pub same_for : (u : ℕ) (root : ℕ → CondRootView) (c : ℕ) (q : CondRootView) → (Contains (root c).line u → Contains q.line u)
    → (Contains q.line u → Contains (root c).line u)
    → (Contains (root c).owes u → Contains q.owes u) → (Contains q.owes u → Contains (root c).owes u) → SameFor u root (put root c q)
same_for u root c q into back owe paid = record {
  line = λ k h. put_elim (λ x. Contains x.line u) root c q k (λ kc. into (subst (λ z. Contains (root z).line u) kc h)) (λ _. h);
  line_back =
      λ k. put_elim (λ x. Contains x.line u → Contains (root k).line u) root c q k
      (λ kc h. subst (λ z. Contains (root z).line u) (sym kc) (back h)) (λ _ h. h);
  owes = λ k h. put_elim (λ x. Contains x.owes u) root c q k (λ kc. owe (subst (λ z. Contains (root z).owes u) kc h)) (λ _. h);
  owes_back =
      λ k. put_elim (λ x. Contains x.owes u → Contains (root k).owes u) root c q k
      (λ kc h. subst (λ z. Contains (root z).owes u) (sym kc) (paid h)) (λ _ h. h);
}

-- ---- a condition among threads that change
-- the ledger of k is that of other threads, where each part of the three sums is the same
pub ledger_on : (n k : ℕ) (pass pass' : ℕ → CondPassView) (spot spot' : ℕ → Spot) → LedgerFits n pass spot k
    → ((v : ℕ) → get_or (pass' v).called k 0 ≡ get_or (pass v).called k 0)
    → ((v : ℕ) → get_or (pass' v).woken k 0 ≡ get_or (pass v).woken k 0) → ((v : ℕ) → taken_from k (spot' v) ≡ taken_from k (spot v))
    → LedgerFits n pass' spot' k
ledger_on n k pass pass' spot spot' ok a b c = omega (
  arith,
  ok,
  total_same n (λ v. get_or (pass' v).called k 0) (λ v. get_or (pass v).called k 0) (λ v _. a v),
  total_same n (λ v. get_or (pass' v).woken k 0) (λ v. get_or (pass v).woken k 0) (λ v _. b v),
  total_same n (λ v. taken_from k (spot' v)) (λ v. taken_from k (spot v)) (λ v _. c v),
)

pub cond_on : (n k : ℕ) (f : Bool) (q : CondRootView) (pass pass' : ℕ → CondPassView) (spot spot' : ℕ → Spot) → CondFits n pass spot k f q
    → ((v : ℕ) → (pass v).sweeps ≡ Some k → (pass' v).sweeps ≡ Some k) → LedgerFits n pass' spot' k → CondFits n pass' spot' k f q
cond_on n k f q pass pass' spot spot' ok sweeps ledger = record {
  once = ok.once;
  owed_once = ok.owed_once;
  swept = λ e s. let h = ok.swept e s in (h.0, (h.1.0, sweeps h.0 h.1.1));
  ledger = ledger;
}

-- the pass of t changes, but neither its counts of k nor what it sweeps; nor does what the notices tell of k
pub cond_stays : (n k : ℕ) (f : Bool) (q : CondRootView) (pass : ℕ → CondPassView) (spot : ℕ → Spot) (t : ℕ) (p : CondPassView)
    (spots : ℕ → Spot) → CondFits n pass spot k f q
    → get_or p.called k 0 ≡ get_or (pass t).called k 0 → get_or p.woken k 0 ≡ get_or (pass t).woken k 0
    → ((pass t).sweeps ≡ Some k → p.sweeps ≡ Some k)
    → ((v : ℕ) → taken_from k (spots v) ≡ taken_from k (spot v)) → CondFits n (put pass t p) spots k f q
cond_stays n k f q pass spot t p spots ok called woken sweeps same = cond_on n k f q pass (put pass t p) spot spots ok
    (λ v e. put_elim (λ x. x.sweeps ≡ Some k) pass t p v (λ vt. sweeps (subst (λ z. (pass z).sweeps ≡ Some k) vt e)) (λ _. e))
    (ledger_on n k pass (put pass t p) spot spots ok.ledger
    (λ v. put_elim (λ x. get_or x.called k 0 ≡ get_or (pass v).called k 0) pass t p v
    (λ vt. called ∙ ap (λ z. get_or (pass z).called k 0) (sym vt)) (λ _. refl))
    (λ v. put_elim (λ x. get_or x.woken k 0 ≡ get_or (pass v).woken k 0) pass t p v
    (λ vt. woken ∙ ap (λ z. get_or (pass z).woken k 0) (sym vt)) (λ _. refl))
    same)

-- ---- the whole world
pub turns : (n m : ℕ) (w : CondWorld) (t : ℕ) (p : CondPassView) (spots : ℕ → Spot) (c : ℕ) (f : Bool) (q : CondRootView)
    → ThreadFits n m (put w.root c q) t p (spots t)
    → ((v : ℕ) → v ≢ t → ThreadFits n m (put w.root c q) v (w.pass v) (spots v))
    → CondFits n (put w.pass t p) spots c f q
    → ((k : ℕ) → k ≢ c → CondFits n (put w.pass t p) spots k (w.word k) (w.root k))
    → Kept n m (turned w t p spots c f q)
turns n m w t p spots c f q mine others here elsewhere = record {
  threads = λ v. by_test (λ b. ThreadFits n m (put w.root c q) v (cond b p (w.pass v)) (spots v)) v t
      (λ e. subst (λ z. ThreadFits n m (put w.root c q) z p (spots z)) (sym e) mine) (others v);
  conds = λ k. by_test (λ b. CondFits n (put w.pass t p) spots k (cond b f (w.word k)) (cond b q (w.root k))) k c
      (λ e. subst (λ z. CondFits n (put w.pass t p) spots z f q) (sym e) here) (elsewhere k);
}

-- where a notice is fits another pass that is out as before
pub spot_keeps : (n : ℕ) (root : ℕ → CondRootView) (t : ℕ) (p p' : CondPassView) (sp : Spot) → p'.out ≡ p.out → SpotFits n root t p sp
    → SpotFits n root t p' sp
spot_keeps n root t p p' awake e h = e ∙ h
spot_keeps n root t p p' (queued c) e h = ((h.0.0, e ∙ h.0.1), h.1)
spot_keeps n root t p p' (owed c k) e h = ((h.0.0, e ∙ h.0.1), h.1, h.2)
spot_keeps n root t p p' (lying c k) e h = ((h.0.0, e ∙ h.0.1), h.1)
