-- A letter is posted, a letter is collected: the rule of threads and conditions is kept.
use Rattle.std.proofs.Common.{◌≡◌, ℕ, ◌+◌, ◌<◌, get_or, refl, sym, ap, subst, ◌∙◌, arith, length-set, get_or-set_same}
use Rattle.std.proofs.Common.{get_or-set_other, Some}
use Rattle.std.specs.List.{Contains}
use Rattle.lot_core.specs.Model.{put}
use Rattle.lot_core.proofs.Put.{put_same, put_other, put_again}
use Rattle.lot_rights.specs.World.{Spot, awake, queued, owed, lying}
use Rattle.lot_rights.proofs.Lines.{in_without, without_in, without_none, without_once}
use Rattle.lot_rights.proofs.Puts.{put_elim}
use Rattle.lot_conds.specs.declared.views.CondPassView.{CondPassView}
use Rattle.lot_conds.specs.declared.views.CondRootView.{CondRootView}
use Rattle.lot_conds.specs.World.{CondWorld, SpotFits, taken_from, LedgerFits, ThreadFits, CondFits, Kept}
use Rattle.lot_conds.specs.Calls.{one_wait_more, paid_root}
use Rattle.lot_conds.proofs.Machine.{turned, no_some, owed_same, not_both, taken_else, taken_here, same_for, thread_on, cond_on, cond_stays}
use Rattle.lot_conds.proofs.Machine.{turns}
use Rattle.lot_core.proofs.Sums.{total_same, total_but}

module _ (n m : ℕ) (w : CondWorld) (ok : Kept n m w) where
  -- the letter that c's root owes u is posted
  module _ (u c : ℕ) (debt : Contains (w.root c).owes u) where
    pub waits : w.spot u ≡ owed c 0
    waits = (ok.threads u).is_owed c debt

    pub waits_out : SpotFits n w.root u (w.pass u) (owed c 0)
    waits_out = subst (SpotFits n w.root u (w.pass u)) waits (ok.threads u).spot

    pub posts_kept : Kept n m (turned w u (w.pass u) (put w.spot u (lying c 0)) c (w.word c) (paid_root (w.root c) u))
    posts_kept =
        let q : CondRootView = paid_root (w.root c) u in
        let owes = (w.root c).owes in
        let spots : ℕ → Spot = put w.spot u (lying c 0) in
        let me = ok.threads u in
        let none_taken : (k v : ℕ) → taken_from k (spots v) ≡ taken_from k (w.spot v) =
        (λ k v. put_elim (λ x. taken_from k x ≡ taken_from k (w.spot v)) w.spot u (lying c 0) v
        (λ vu. sym (ap (taken_from k) waits) ∙ ap (λ z. taken_from k (w.spot z)) (sym vu)) (λ _. refl)) in
        let stays : (k : ℕ) → CondFits n (put w.pass u (w.pass u)) spots k (w.word k) (w.root k)
        = (λ k. cond_stays n k (w.word k) (w.root k) w.pass w.spot u (w.pass u) spots (ok.conds k) refl refl (λ e. e) (none_taken k)) in
        turns n m w u (w.pass u) spots c (w.word c) q
        (record {
          called = me.called;
          woken = me.woken;
          outs = me.outs;
          spot = subst (SpotFits n (put w.root c q) u (w.pass u)) (sym (put_same w.spot u (lying c 0))) (waits_out.0, refl);
          in_line =
              λ k. put_elim (λ x. Contains x.line u → spots u ≡ queued k) w.root c q k
              (λ e h. absurd (not_both (w.spot u) c c 0 (me.in_line c h) waits))
              (λ _ h. absurd (not_both (w.spot u) k c 0 (me.in_line k h) waits));
          is_owed =
              λ k. put_elim (λ x. Contains x.owes u → spots u ≡ owed k 0) w.root c q k
              (λ e h. absurd (without_none u owes (ok.conds c).owed_once h))
              (λ ne h. absurd (ne (owed_same (w.spot u) k c (me.is_owed k h) waits)));
        })
        (λ v vu. subst (ThreadFits n m (put w.root c q) v (w.pass v)) (sym (put_other w.spot u (lying c 0) v vu))
        (thread_on n m w.root (put w.root c q) v (w.pass v) (w.spot v)
        (same_for v w.root c q (λ h. h) (λ h. h) (λ h. in_without v u owes vu h) (λ h. without_in v u owes h)) (ok.threads v)))
        (let a = stays c in record { once = a.once; owed_once = without_once u owes a.owed_once; swept = a.swept; ledger = a.ledger })
        (λ k _. stays k)

  -- a letter of c lies for the thread t, which has ended one wait more after it
  module _ (t c : ℕ) (here : c < m) (lies : w.spot t ≡ lying c 0) where
    abbrev after : CondPassView
    after = one_wait_more (w.pass t) c

    abbrev spots : ℕ → Spot
    spots = put w.spot t awake

    -- it is a thread of the table
    near : t < n
    near =
        let fits : SpotFits n w.root t (w.pass t) (lying c 0) = subst (SpotFits n w.root t (w.pass t)) lies (ok.threads t).spot in
        fits.0.0

    -- it counts one ended wait more of c
    one_woken : get_or (put w.pass t after t).woken c 0 ≡ get_or (w.pass t).woken c 0 + 1
    one_woken = ap (λ (y : CondPassView). get_or y.woken c 0) (put_same w.pass t after)
        ∙ get_or-set_same (w.pass t).woken c (get_or (w.pass t).woken c 0 + 1) 0 (let e = (ok.threads t).woken in omega arith)

    -- in c's ledger the letter becomes an ended wait
    collected_ledger : LedgerFits n (put w.pass t after) spots c
    collected_ledger =
        let called = total_same n (λ v. get_or (put w.pass t after v).called c 0) (λ v. get_or (w.pass v).called c 0)
        (λ v _. put_elim (λ y. get_or y.called c 0 ≡ get_or (w.pass v).called c 0) w.pass t after v
        (λ vt. ap (λ z. get_or (w.pass z).called c 0) (sym vt)) (λ _. refl)) in
        let woken = total_but n (λ v. get_or (put w.pass t after v).woken c 0) (λ v. get_or (w.pass v).woken c 0) t near
        (λ v ne. ap (λ (y : CondPassView). get_or y.woken c 0) (put_other w.pass t after v ne)) in
        let taken = total_but n (λ v. taken_from c (spots v)) (λ v. taken_from c (w.spot v)) t near
        (λ v ne. ap (taken_from c) (put_other w.spot t awake v ne)) in
        let gone : taken_from c (spots t) ≡ 0 = ap (taken_from c) (put_same w.spot t awake) in
        let was : taken_from c (w.spot t) ≡ 1 = ap (taken_from c) lies ∙ taken_here c in
        omega (arith, (ok.conds c).ledger, called, woken, one_woken, taken, gone, was)

    -- the thread is awake, in no line and owed nothing
    collected_thread : ThreadFits n m w.root t after awake
    collected_thread = record {
      called = (ok.threads t).called;
      woken = length-set (w.pass t).woken c (get_or (w.pass t).woken c 0 + 1) ∙ (ok.threads t).woken;
      outs = λ k e. absurd (no_some k e);
      spot = refl;
      in_line = λ k h. absurd (let f : lying c 0 ≡ queued k = sym lies ∙ (ok.threads t).in_line k h in cc);
      is_owed = λ k h. absurd (let f : lying c 0 ≡ owed k 0 = sym lies ∙ (ok.threads t).is_owed k h in cc);
    }

    -- whoever fits among the roots fits among them where c's is put again
    root_again : (v : ℕ) (p : CondPassView) (sp : Spot) → ThreadFits n m w.root v p sp → ThreadFits n m (put w.root c (w.root c)) v p sp
    root_again v p sp = subst (λ root. ThreadFits n m root v p sp) (sym (put_again w.root c))

    -- the thread collects its letter
    pub collects_kept : Kept n m (turned w t (one_wait_more (w.pass t) c) (put w.spot t awake) c (w.word c) (w.root c))
    collects_kept = turns n m w t after spots c (w.word c) (w.root c)
        (root_again t after (spots t) (subst (ThreadFits n m w.root t after) (sym (put_same w.spot t awake)) collected_thread))
        (λ v vt. root_again v (w.pass v) (spots v)
        (subst (ThreadFits n m w.root v (w.pass v)) (sym (put_other w.spot t awake v vt)) (ok.threads v)))
        (cond_on n c (w.word c) (w.root c) w.pass (put w.pass t after) w.spot spots (ok.conds c)
        (λ v e. put_elim (λ y. y.sweeps ≡ Some c) w.pass t after v (λ vt. subst (λ z. (w.pass z).sweeps ≡ Some c) vt e) (λ _. e))
        collected_ledger)
        (λ k ne. cond_stays n k (w.word k) (w.root k) w.pass w.spot t after spots (ok.conds k) refl
        (get_or-set_other (w.pass t).woken c k (get_or (w.pass t).woken c 0 + 1) 0 ne) (λ e. e)
        (λ v. put_elim (λ y. taken_from k y ≡ taken_from k (w.spot v)) w.spot t awake v (λ vt. sym (taken_else k c ne)
        ∙ (sym (ap (taken_from k) lies) ∙ ap (λ z. taken_from k (w.spot z)) (sym vt))) (λ _. refl)))
