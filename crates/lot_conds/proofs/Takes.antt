-- The first threads of a condition's line are taken, and owed letters: the rule of threads and conditions is kept.
use Rattle.std.proofs.Common.{◌≡◌, ◌≢◌, ℕ, ◌+◌, ◌<◌, ◌⊎◌, Bool, false, List, [], ◌∷◌, ◌++◌, length, get_or, refl, sym, ap, subst, ◌∙◌, inl}
use Rattle.std.proofs.Common.{inr, ⊎_elim, arith, length-set, get_or-set_same}
use Rattle.std.proofs.Common.{get_or-set_other, Option, Some}
use Rattle.std.specs.List.{Contains}
use Rattle.std.proofs.lemmas.List.Elements.{Contains-append_left, Contains-append_right, Contains-append_cases}
use Rattle.lot_core.specs.Model.{put}
use Rattle.lot_core.specs.Sound.{IsOnce}
use Rattle.lot_core.proofs.Members.{in_head, in_tail, once_tail, head_left}
use Rattle.lot_core.proofs.Put.{put_same, put_other}
use Rattle.lot_rights.specs.World.{Spot, awake, queued, owed, lying, letter_of, letters_of}
use Rattle.lot_rights.proofs.Lines.{in_or_not, once_front, once_back, once_between, once_joined}
use Rattle.lot_rights.proofs.Puts.{put_elim}
use Rattle.lot_conds.specs.declared.views.CondPassView.{CondPassView}
use Rattle.lot_conds.specs.declared.views.CondRootView.{CondRootView}
use Rattle.lot_conds.specs.World.{CondWorld, IsOut, SpotFits, taken_from, ThreadFits, Kept}
use Rattle.lot_core.specs.Sums.{total}
use Rattle.lot_conds.specs.Calls.{called_more}
use Rattle.lot_conds.proofs.Machine.{turned, owing, owing_in, owing_out, queued_apart, not_both, queued_out, taken_else, taken_here}
use Rattle.lot_conds.proofs.Machine.{cond_stays, turns}
use Rattle.lot_core.proofs.Sums.{total_same, total_but}

-- the line without its first threads, who are owed letters
abbrev pub took_root : CondRootView → List ℕ → List ℕ → CondRootView
took_root q us rest = record q { line = rest; owes = q.owes ++ us }

-- letters that come to be owed are counted
owing_total : (n c : ℕ) (us : List ℕ) (spot : ℕ → Spot) → IsOnce us → ((u : ℕ) → Contains us u → (u < n) × (spot u ≡ queued c))
    → total n (λ v. taken_from c (owing c us spot v)) ≡ total n (λ v. taken_from c (spot v)) + length us
owing_total n c [] spot a each = omega arith
owing_total n c (u ∷ us) spot a each =
    let here = each u (in_head u us) in
    let spots : ℕ → Spot = owing c us spot in
    let was : taken_from c (spots u) ≡ 0 = ap (taken_from c) (owing_out c us spot u (head_left u us a) ∙ here.1) in
    let is : taken_from c (put spots u (owed c 0) u) ≡ 1 = ap (taken_from c) (put_same spots u (owed c 0)) ∙ taken_here c in
    let one =
    total_but n (λ v. taken_from c (put spots u (owed c 0) v)) (λ v. taken_from c (spots v)) u here.0
    (λ v ne. ap (taken_from c) (put_other spots u (owed c 0) v ne)) in
    omega (arith, one, was, is, owing_total n c us spot (once_tail u us a) (λ v i. each v (in_tail u us v i)))

-- to another condition they count for nothing
owing_else : (k c : ℕ) (us : List ℕ) (spot : ℕ → Spot) → k ≢ c → ((u : ℕ) → Contains us u → spot u ≡ queued c) → (v : ℕ)
    → taken_from k (owing c us spot v) ≡ taken_from k (spot v)
owing_else k c us spot ne each v = ⊎_elim {C = taken_from k (owing c us spot v) ≡ taken_from k (spot v)}
    (λ i. ap (taken_from k) (owing_in c us spot v i) ∙ (taken_else k c ne ∙ sym (ap (taken_from k) (each v i))))
    (λ out. ap (taken_from k) (owing_out c us spot v out)) (in_or_not us v)

some_back : (us rest line : List ℕ) → line ≡ us ++ rest → rest ≢ [] → line ≢ []
some_back [] rest line e some none_left = some (sym e ∙ none_left)
some_back (u ∷ us) rest line e some none_left = let f : [] ≡ u ∷ (us ++ rest) = sym none_left ∙ e in cc

module _ (n m : ℕ) (w : CondWorld) (ok : Kept n m w) (c : ℕ) (here : c < m) (us rest : List ℕ)
    (line : (w.root c).line ≡ us ++ rest) (f : Bool) where
  abbrev q' : CondRootView
  q' = took_root (w.root c) us rest

  abbrev spots : ℕ → Spot
  spots = owing c us w.spot

  once : IsOnce (us ++ rest)
  once = subst IsOnce line (ok.conds c).once

  was_in : (v : ℕ) → Contains us v → Contains (w.root c).line v
  was_in v i = subst (λ xs. Contains xs v) (sym line) (Contains-append_left us rest v i)

  was_queued : (v : ℕ) → Contains us v → w.spot v ≡ queued c
  was_queued v i = (ok.threads v).in_line c (was_in v i)

  was_out : (v : ℕ) → Contains us v → IsOut n v (w.pass v) c
  was_out v i = queued_out n w.root v c (w.pass v) (w.spot v) (was_queued v i) (ok.threads v).spot

  -- the line's rest, and those that are owed
  line_now : (v k : ℕ) → Contains (put w.root c q' k).line v → Contains (w.root k).line v × (¬ Contains us v)
  line_now v k = put_elim (λ x. Contains x.line v → Contains (w.root k).line v × (¬ Contains us v)) w.root c q' k
      (λ e h. (
        subst (λ z. Contains (w.root z).line v) (sym e) (subst (λ xs. Contains xs v) (sym line) (Contains-append_right us rest v h)),
        (λ i. once_between v us rest once i h),
      ))
      (λ ne h. (h, (λ i. ne (queued_apart (w.spot v) k c ((ok.threads v).in_line k h) (was_queued v i)))))

  owed_not : (v k : ℕ) → Contains (w.root k).owes v → ¬ Contains us v
  owed_not v k h i = not_both (w.spot v) c k 0 (was_queued v i) ((ok.threads v).is_owed k h)

  owed_now : (v k : ℕ) → Contains (put w.root c q' k).owes v → (Contains (w.root k).owes v × (¬ Contains us v)) ⊎ (Contains us v × (k ≡ c))
  owed_now v k =
      put_elim (λ x. Contains x.owes v → (Contains (w.root k).owes v × (¬ Contains us v)) ⊎ (Contains us v × (k ≡ c))) w.root c q' k
      (λ e h. ⊎_elim {C = (Contains (w.root k).owes v × (¬ Contains us v)) ⊎ (Contains us v × (k ≡ c))}
      (λ a. inl (subst (λ z. Contains (w.root z).owes v) (sym e) a, owed_not v c a)) (λ b. inr (b, e))
      (Contains-append_cases (w.root c).owes us v h))
      (λ ne h. inl (h, owed_not v k h))

  spot_now : (v : ℕ) (p : CondPassView) (sp : Spot) → p.out ≡ (w.pass v).out → (¬ Contains us v) → SpotFits n w.root v (w.pass v) sp
      → SpotFits n (put w.root c q') v p sp
  spot_now v p awake e out h = e ∙ h
  spot_now v p (queued k) e out h = (
    (h.0.0, e ∙ h.0.1),
    put_elim (λ x. Contains x.line v) w.root c q' k
        (λ kc. ⊎_elim {C = Contains rest v} (λ i. absurd (out i)) (λ i. i)
        (Contains-append_cases us rest v (subst (λ xs. Contains xs v) line (subst (λ z. Contains (w.root z).line v) kc h.1))))
        (λ _. h.1),
  )
  spot_now v p (owed k token) e out h = (
    (h.0.0, e ∙ h.0.1),
    put_elim (λ x. Contains x.owes v) w.root c q' k
        (λ kc. Contains-append_left (w.root c).owes us v (subst (λ z. Contains (w.root z).owes v) kc h.1)) (λ _. h.1),
    h.2,
  )
  spot_now v p (lying k token) e out h = ((h.0.0, e ∙ h.0.1), h.1)

  -- a thread whose pass is out as before
  thread_now : (v : ℕ) (p : CondPassView) → p.out ≡ (w.pass v).out → length p.called ≡ m → length p.woken ≡ m
      → ThreadFits n m (put w.root c q') v p (spots v)
  thread_now v p e called woken = record {
    called = called;
    woken = woken;
    outs = λ k o. (ok.threads v).outs k (sym e ∙ o);
    spot = ⊎_elim {C = SpotFits n (put w.root c q') v p (spots v)}
        (λ i. subst (SpotFits n (put w.root c q') v p) (sym (owing_in c us w.spot v i)) (
          ((was_out v i).0, e ∙ (was_out v i).1),
          subst (λ (x : CondRootView). Contains x.owes v) (sym (put_same w.root c q')) (Contains-append_right (w.root c).owes us v i),
          refl,
        ))
        (λ out. subst (SpotFits n (put w.root c q') v p) (sym (owing_out c us w.spot v out))
        (spot_now v p (w.spot v) e out (ok.threads v).spot))
        (in_or_not us v);
    in_line = λ k h. let l = line_now v k h in owing_out c us w.spot v l.1 ∙ (ok.threads v).in_line k l.0;
    is_owed = λ k h. ⊎_elim {C = spots v ≡ owed k 0} (λ a. owing_out c us w.spot v a.1 ∙ (ok.threads v).is_owed k a.0)
        (λ b. owing_in c us w.spot v b.0 ∙ ap (λ z. owed z 0) (sym b.1)) (owed_now v k h);
  }

  -- no letter lies that did not lie
  pub takes_letters : letters_of spots ≡ letters_of w.spot
  takes_letters =
      λ i v.
      (⊎_elim {C = letter_of (spots v) ≡ letter_of (w.spot v)}
      (λ h. ap letter_of (owing_in c us w.spot v h) ∙ sym (ap letter_of (was_queued v h)))
      (λ out. ap letter_of (owing_out c us w.spot v out)) (in_or_not us v)) i

  -- the thread t takes the first threads of the line, with the flag f after it
  pub takes_kept : (t : ℕ) → t < n → (s : Option ℕ) → ((k : ℕ) → k ≢ c → (w.pass t).sweeps ≡ Some k → s ≡ Some k)
      → (f ≡ false → rest ≢ [] → (w.word c ≡ false) × ((w.pass t).sweeps ≡ Some c → s ≡ Some c))
      → Kept n m (turned w t (called_more (record (w.pass t) { sweeps = s }) c (length us)) spots c f q')
  takes_kept t near s still swept =
      let p : CondPassView = called_more (record (w.pass t) { sweeps = s }) c (length us) in
      let xs = (w.pass t).called in
      let long : c < length xs = (let e = (ok.threads t).called in omega arith) in
      let x : ℕ = get_or xs c 0 + length us in
      let before = ok.conds c in
      turns n m w t p spots c f q'
      (thread_now t p refl (length-set xs c x ∙ (ok.threads t).called) (ok.threads t).woken)
      (λ v _. thread_now v (w.pass v) refl (ok.threads v).called (ok.threads v).woken)
      (record {
        once = once_back us rest once;
        owed_once =
            once_joined (w.root c).owes us before.owed_once (once_front us rest once)
            (λ v a i. not_both (w.spot v) c c 0 (was_queued v i) ((ok.threads v).is_owed c a));
        swept = λ e some. let h = swept e some in let b = before.swept h.0 (some_back us rest (w.root c).line line some) in (
          b.0,
          (
            b.1.0,
            put_elim (λ y. y.sweeps ≡ Some c) w.pass t p b.0
                (λ vt. h.1 (subst (λ z. (w.pass z).sweeps ≡ Some c) vt b.1.1)) (λ _. b.1.1),
          ),
        );
        ledger =
            let called = total_but n (λ v. get_or (put w.pass t p v).called c 0) (λ v. get_or (w.pass v).called c 0) t near
            (λ v ne. ap (λ (y : CondPassView). get_or y.called c 0) (put_other w.pass t p v ne)) in
            let mine : get_or (put w.pass t p t).called c 0 ≡ x =
            ap (λ (y : CondPassView). get_or y.called c 0) (put_same w.pass t p) ∙ get_or-set_same xs c x 0 long in
            let woken = total_same n (λ v. get_or (put w.pass t p v).woken c 0) (λ v. get_or (w.pass v).woken c 0)
            (λ v _. put_elim (λ y. get_or y.woken c 0 ≡ get_or (w.pass v).woken c 0) w.pass t p v
            (λ vt. ap (λ z. get_or (w.pass z).woken c 0) (sym vt)) (λ _. refl)) in
            let taken = owing_total n c us w.spot (once_front us rest once) (λ u i. ((was_out u i).0, was_queued u i)) in
            omega (arith, before.ledger, called, mine, woken, taken);
      })
      (λ k ne. cond_stays n k (w.word k) (w.root k) w.pass w.spot t p spots (ok.conds k) (get_or-set_other xs c k x 0 ne) refl (still k ne)
      (owing_else k c us w.spot ne was_queued))
