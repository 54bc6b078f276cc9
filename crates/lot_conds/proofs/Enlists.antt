-- A thread is enlisted on a condition, or lowers its flag: the rule of threads and conditions is kept.
use Rattle.std.proofs.Common.{◌≡◌, ◌≢◌, ℕ, ◌<◌, true, false, [], ◌∷◌, length, get_or, refl, sym, ap, subst, ◌∙◌, Some, None}
use Rattle.std.specs.List.{Contains}
use Rattle.std.proofs.lemmas.List.Elements.{Contains-append_left, Contains-push}
use Rattle.lot_core.specs.Model.{put}
use Rattle.lot_core.proofs.Members.{once_push}
use Rattle.lot_core.proofs.Put.{put_same, put_other}
use Rattle.lot_rights.specs.World.{Spot, awake, queued, owed}
use Rattle.lot_rights.proofs.Lines.{in_init}
use Rattle.lot_rights.proofs.Puts.{put_elim}
use Rattle.lot_conds.specs.declared.views.CondPassView.{CondPassView}
use Rattle.lot_conds.specs.declared.views.CondRootView.{CondRootView}
use Rattle.lot_conds.specs.World.{CondWorld, SpotFits, taken_from, ThreadFits, CondFits, Kept}
use Rattle.lot_conds.specs.Calls.{enlisted, enlisted_root, lowering}
use Rattle.lot_conds.proofs.Machine.{turned, no_some, awake_is, SameFor, same_for, thread_on, cond_stays, turns, spot_keeps}

module _ (n m : ℕ) (w : CondWorld) (ok : Kept n m w) where
  module _ (t c : ℕ) (near : t < n) (here : c < m) (home : (w.pass t).out ≡ None) where
    pub is_awake : w.spot t ≡ awake
    is_awake = awake_is n w.root t (w.pass t) (w.spot t) (ok.threads t).spot home

    in_no_line : (k : ℕ) → ¬ Contains (w.root k).line t
    in_no_line k h = let e : awake ≡ queued k = sym is_awake ∙ (ok.threads t).in_line k h in cc

    pub is_owed_nothing : (k : ℕ) → ¬ Contains (w.root k).owes t
    is_owed_nothing k h = let e : awake ≡ owed k 0 = sym is_awake ∙ (ok.threads t).is_owed k h in cc

    -- the thread goes last in the line of the condition
    pub enlists_kept : Kept n m (turned w t (enlisted (w.pass t) c) (put w.spot t (queued c)) c true (enlisted_root (w.root c) t))
    enlists_kept =
        let p : CondPassView = enlisted (w.pass t) c in
        let q : CondRootView = enlisted_root (w.root c) t in
        let spots : ℕ → Spot = put w.spot t (queued c) in
        let me = ok.threads t in
        let none_taken : (k v : ℕ) → taken_from k (spots v) ≡ taken_from k (w.spot v) =
        (λ k v. put_elim (λ x. taken_from k x ≡ taken_from k (w.spot v)) w.spot t (queued c) v
        (λ vt. ap (taken_from k) (sym is_awake ∙ ap w.spot (sym vt))) (λ _. refl)) in
        turns n m w t p spots c true q
        (record {
          called = me.called;
          woken = me.woken;
          outs = λ k e. subst (λ z. z < m) (let f : Some c ≡ Some k = e in cc) here;
          spot = subst (λ z. SpotFits n (put w.root c q) t p z) (sym (put_same w.spot t (queued c)))
              ((near, refl), subst (λ (x : CondRootView). Contains x.line t) (sym (put_same w.root c q)) (Contains-push (w.root c).line t));
          in_line =
              λ k. put_elim (λ x. Contains x.line t → spots t ≡ queued k) w.root c q k
              (λ e _. put_same w.spot t (queued c) ∙ ap queued (sym e)) (λ _ h. absurd (in_no_line k h));
          is_owed =
              λ k. put_elim (λ x. Contains x.owes t → spots t ≡ owed k 0) w.root c q k (λ e h. absurd (is_owed_nothing c h))
              (λ _ h. absurd (is_owed_nothing k h));
        })
        (λ v ne. subst (ThreadFits n m (put w.root c q) v (w.pass v)) (sym (put_other w.spot t (queued c) v ne))
        (thread_on n m w.root (put w.root c q) v (w.pass v) (w.spot v)
        (same_for v w.root c q (λ h. Contains-append_left (w.root c).line (t ∷ []) v h) (λ h. in_init v (w.root c).line t ne h) (λ h. h)
        (λ h. h)) (ok.threads v)))
        (let a = cond_stays n c (w.word c) (w.root c) w.pass w.spot t p spots (ok.conds c) refl refl (λ e. e) (none_taken c) in
        record {
          once = once_push (w.root c).line t a.once (in_no_line c);
          owed_once = a.owed_once;
          swept = λ e _. absurd (let f : true ≡ false = e in cc);
          ledger = a.ledger;
        })
        (λ k ne. cond_stays n k (w.word k) (w.root k) w.pass w.spot t p spots (ok.conds k) refl refl (λ e. e) (none_taken k))

  -- the flag of c is cleared: nobody is in its line, or the thread t sweeps it from now on
  pub clears_kept : (t c : ℕ) (p : CondPassView) → p.out ≡ (w.pass t).out → p.called ≡ (w.pass t).called → p.woken ≡ (w.pass t).woken
      → ((k : ℕ) → (w.pass t).sweeps ≡ Some k → p.sweeps ≡ Some k) → ((w.root c).line ≢ [] → (t < n) × (p.sweeps ≡ Some c))
      → Kept n m (turned w t p w.spot c false (w.root c))
  clears_kept t c p out called woken still swept =
      let q : CondRootView = w.root c in
      let same : (v : ℕ) → SameFor v w.root (put w.root c q) = (λ v. same_for v w.root c q (λ h. h) (λ h. h) (λ h. h) (λ h. h)) in
      let me = thread_on n m w.root (put w.root c q) t (w.pass t) (w.spot t) (same t) (ok.threads t) in
      let stays : (k : ℕ) → CondFits n (put w.pass t p) w.spot k (w.word k) (w.root k)
      =
      (λ k. cond_stays n k (w.word k) (w.root k) w.pass w.spot t p w.spot (ok.conds k) (ap (λ xs. get_or xs k 0) called)
      (ap (λ xs. get_or xs k 0) woken) (still k) (λ _. refl)) in
      turns n m w t p w.spot c false q
      (record {
        called = ap length called ∙ me.called;
        woken = ap length woken ∙ me.woken;
        outs = λ k e. me.outs k (sym out ∙ e);
        spot = spot_keeps n (put w.root c q) t (w.pass t) p (w.spot t) out me.spot;
        in_line = me.in_line;
        is_owed = me.is_owed;
      })
      (λ v _. thread_on n m w.root (put w.root c q) v (w.pass v) (w.spot v) (same v) (ok.threads v))
      (let a = stays c in record {
        once = a.once;
        owed_once = a.owed_once;
        swept = λ _ some. let h = swept some in (t, (h.0, subst (λ (x : CondPassView). x.sweeps ≡ Some c) (sym (put_same w.pass t p)) h.1));
        ledger = a.ledger;
      })
      (λ k _. stays k)

  -- the thread lowers the flag of the condition, and has to sweep it
  pub lowers_kept : (t c : ℕ) → t < n → (w.pass t).sweeps ≡ None → Kept n m (turned w t (lowering (w.pass t) c) w.spot c false (w.root c))
  lowers_kept t c near calm =
      clears_kept t c (lowering (w.pass t) c) refl refl refl (λ k e. absurd (no_some k (sym calm ∙ e))) (λ _. (near, refl))
