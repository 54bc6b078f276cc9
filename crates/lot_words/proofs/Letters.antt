-- A lock is passed on to the first of its line, a letter is posted, a letter is collected: the rule of threads and
-- locks is kept.
use Rattle.std.proofs.Common.{◌≡◌, ◌≢◌, ℕ, ◌<◌, ◌⊎◌, Bool, true, false, List, [], ◌∷◌, length, refl, sym, ap, subst}
use Rattle.std.proofs.Common.{◌∙◌, inl, inr, ⊎_elim, arith}
use Rattle.std.proofs.Common.{get_or-set_other, Option, Some, None}
use Rattle.std.specs.List.{Contains}
use mathlib.Core.Logic.{dite}
use native.Mathlib.Decide.{ℕ_discrete}
use Rattle.lot_core.specs.Model.{put}
use Rattle.lot_core.specs.Sound.{IsOnce}
use Rattle.lot_core.proofs.Members.{in_head, in_tail, once_tail, head_left}
use Rattle.lot_core.proofs.Put.{put_same, put_other}
use Rattle.lot_rights.specs.World.{Spot, awake, queued, owed, lying}
use Rattle.lot_rights.proofs.Lines.{in_cases}
use Rattle.lot_rights.proofs.Puts.{put_elim}
use Rattle.lot_words.specs.declared.views.Hold.TheVariants.{NotHeld, Held}
use Rattle.lot_words.specs.declared.views.LockPassView.{LockPassView}
use Rattle.lot_words.specs.declared.views.LockRootView.{LockRootView}
use Rattle.lot_words.specs.World.{LockWord, LockWorld, IsHeld, Holds, IsHanded, IsOutside, TellsTrue, Sleeps, SpotFits}
use Rattle.lot_words.specs.World.{ThreadFits, LockFits, Kept}
use Rattle.lot_words.specs.Calls.{owning, woken, letting_go, paid_root}
use Rattle.lot_words.proofs.Machine.{SameFor, no_debt, same_debt, awake_out, owed_out, lying_out, same_roots, same_for, thread_on}
use Rattle.lot_words.proofs.Machine.{got_fits, got_lock, lock_stays, each_thread, each_root, each_both}
use Rattle.lot_words.proofs.Holding.{in_no_line, left_fits, others_fit}

module _ {V : Type 0} (n m : ℕ) (w : LockWorld V) (ok : Kept n m w) where
  abbrev at_spot : (u : ℕ) (sp : Spot) → w.spot u ≡ sp → SpotFits n w.word w.root u (w.pass u) sp
  at_spot u sp is = subst (SpotFits n w.word w.root u (w.pass u)) is (ok.threads u).spot

  -- the notice of u changes, and says of no lock that it was handed where it was not
  hands_on : (u : ℕ) (sp : Spot) (k : ℕ) → (IsHanded (w.spot u) k → IsHanded sp k) → (v : ℕ) → IsHanded (w.spot v) k
      → IsHanded (put w.spot u sp v) k
  hands_on u sp k h v =
      put_elim (λ z. IsHanded (w.spot v) k → IsHanded z k) w.spot u sp v (λ vu g. h (subst (λ z. IsHanded (w.spot z) k) vu g)) (λ _ g. g)

  out_on : (u : ℕ) (sp : Spot) → IsOutside sp → (v : ℕ) → IsOutside (w.spot v) → IsOutside (put w.spot u sp v)
  out_on u sp out v h = put_elim IsOutside w.spot u sp v (λ _. out) (λ _. h)

  -- ---- the lock is passed on
  module _ (t l : ℕ) (near : t < n) (here : l < m) (up : (w.pass t).asleep ≡ false) (has : Holds (w.pass t) l) (u : ℕ) (us : List ℕ)
      (line : (w.root l).line ≡ u ∷ us)
      (paid : (w.root l).owes ≡ None) where
    first_in : Contains (w.root l).line u
    first_in = subst (λ z. Contains z u) (sym line) (in_head u us)

    pub first_waits : w.spot u ≡ queued l
    first_waits = (ok.threads u).in_line l first_in

    pub first_sleeps : Sleeps n w.word w.root u (w.pass u) l
    first_sleeps = (at_spot u (queued l) first_waits).0

    apart : u ≢ t
    apart e = in_no_line n m w ok t near up l (subst (Contains (w.root l).line) e first_in)

    -- nobody is in the line twice
    once : IsOnce (u ∷ us)
    once = subst IsOnce line (ok.locks l).once

    -- the root then, which owes the first of the line the token k
    abbrev root_then : ℕ → LockRootView
    root_then k = record (w.root l) { line = us; owes = Some (u, k) }

    -- the roots have of anyone else what they had
    same_else : (k v : ℕ) → v ≢ u → SameFor v w.root (put w.root l (root_then k))
    same_else k v vu =
        same_for v w.root l (root_then k)
        (λ h. ⊎_elim {C = Contains us v} (λ e. absurd (vu (sym e))) (λ i. i) (in_cases u us v (subst (λ z. Contains z v) line h)))
        (λ h. subst (λ z. Contains z v) (sym line) (in_tail u us v h))
        (λ c h. absurd (no_debt (w.root l).owes (v, c) paid h))
        (λ c h. absurd (vu (sym (same_debt u k v c h).0)))

    -- the token k says whether the owner o is the first of the line then
    module _ (k : ℕ) (o : Option ℕ) (b : Bool) (token : ((k ≡ 0) × (o ≡ None)) ⊎ ((k ≡ 1) × (o ≡ Some u))) where
      abbrev word_then : LockWord
      word_then = record { owner = o; parked = b }

      -- the first of the line fits, which is owed its letter
      first_fits : ThreadFits n (put w.word l word_then) (put w.root l (root_then k)) m u (w.pass u) (owed l k)
      first_fits =
          let q : LockRootView = root_then k in
          let me = ok.threads u in
          let stays = others_fit n m w ok t near up l here has word_then w.root u apart (same_roots u w.root) in
          record {
            long = me.long;
            aims = me.aims;
            holds = stays.holds;
            found = stays.found;
            spot = (
              first_sleeps,
              subst (λ (z : LockRootView). z.owes ≡ Some (u, k)) (sym (put_same w.root l q)) refl,
              subst (λ (z : LockWord). TellsTrue z.owner u k) (sym (put_same w.word l word_then))
                  (⊎_elim {C = TellsTrue o u k} (λ h. inl h.0) (λ h. inr h) token),
            );
            in_line = λ j. put_elim (λ z. Contains z.line u → owed l k ≡ queued j) w.root l q j (λ _ h. absurd (head_left u us once h))
                (λ jl h. absurd (jl (let f : queued j ≡ queued l = sym (me.in_line j h) ∙ first_waits in cc)));
            is_owed = λ j c. put_elim (λ z. z.owes ≡ Some (u, c) → owed l k ≡ owed j c) w.root l q j
                (λ e h. ap (λ z. owed z k) (sym e) ∙ ap (owed j) (same_debt u k u c h).1)
                (λ _ h. absurd (let g : queued l ≡ owed j c = sym first_waits ∙ me.is_owed j c h in cc));
            handed = λ j h a. apart
                (let e : (w.word l).owner ≡ Some u = subst (λ z. (w.word z).owner ≡ Some u) (sym h.0) (me.holds j a) in
                let same : Some u ≡ Some t = sym e ∙ (ok.threads t).holds l has in cc);
          }

      -- the lock fits that is passed on: where it has an owner, that is the first of the line, to which it is handed
      passed_fits : (y : V) → (us ≢ [] → b ≡ true)
          → LockFits n (put w.pass t (letting_go (w.pass t) l y)) (put w.spot u (owed l k)) l word_then (root_then k)
      passed_fits y more =
          let p : LockPassView V = letting_go (w.pass t) l y in
          let spots : ℕ → Spot = put w.spot u (owed l k) in
          record {
            once = once_tail u us once;
            had = λ v e. ⊎_elim {C = (v < n) × (Holds (put w.pass t p v) l ⊎ IsHanded (spots v) l)}
                (λ z. absurd (let f : None ≡ Some v = sym z.1 ∙ e in cc))
                (λ z. let uv : u ≡ v = (let f : Some u ≡ Some v = sym z.1 ∙ e in cc) in
                subst (λ i. (i < n) × (Holds (put w.pass t p i) l ⊎ IsHanded (spots i) l)) uv
                (first_sleeps.0, inr (subst (λ s. IsHanded s l) (sym (put_same w.spot u (owed l k))) (refl, z.0))))
                token;
            parks = more;
            tried = λ e some. (
              u,
              (
                first_sleeps.0,
                subst (λ (z : LockPassView V). z.aim ≡ Some l) (sym (put_other w.pass t p u apart)) first_sleeps.2,
                subst IsOutside (sym (put_same w.spot u (owed l k))) (owed_out l k),
              ),
            );
          }

    -- the first of the line is owed the token k, which says whether it is the owner then
    pub passes_kept : (y : V) (k : ℕ) (o : Option ℕ) (b : Bool) → ((k ≡ 0) × (o ≡ None)) ⊎ ((k ≡ 1) × (o ≡ Some u)) → (us ≢ [] → b ≡ true)
        → Kept n m (record w {
          pass = put w.pass t (letting_go (w.pass t) l y);
          spot = put w.spot u (owed l k);
          word = put w.word l (record { owner = o; parked = b });
          root = put w.root l (record (w.root l) { line = us; owes = Some (u, k) });
        })
    passes_kept y k o b token more =
        let p : LockPassView V = letting_go (w.pass t) l y in
        let x : LockWord = record { owner = o; parked = b } in
        let word : ℕ → LockWord = put w.word l x in
        let root : ℕ → LockRootView = put w.root l (root_then k) in
        let spots : ℕ → Spot = put w.spot u (owed l k) in
        let tu : t ≢ u = (λ e. apart (sym e)) in
        record {
          threads = each_thread n m w word root spots t p
              (subst (ThreadFits n word root m t p) (sym (put_other w.spot u (owed l k) t tu))
              (left_fits n m w ok t near up l here x y root (same_else k t tu)))
              (λ v vt. put_elim (ThreadFits n word root m v (w.pass v)) w.spot u (owed l k) v
              (λ vu. subst (λ z. ThreadFits n word root m z (w.pass z) (owed l k)) (sym vu) (first_fits k o b token))
              (λ vu. others_fit n m w ok t near up l here has x root v vt (same_else k v vu)));
          locks = each_both n (put w.pass t p) spots w l x (root_then k) (passed_fits k o b token y more)
              (λ j jl. lock_stays n j (w.word j) (w.root j) w.pass w.spot t p spots (ok.locks j)
              (λ h. subst IsHeld (sym (get_or-set_other (w.pass t).holds l j NotHeld NotHeld jl)) h)
              (hands_on u (owed l k) j (λ h. absurd (subst (λ z. IsHanded z j) first_waits h))) (λ _ a. a)
              (λ _ v _. out_on u (owed l k) (owed_out l k) v));
        }

  -- ---- the letter that the root owes is posted
  module _ (u k l : ℕ) (debt : (w.root l).owes ≡ Some (u, k)) where
    pub debtor_waits : w.spot u ≡ owed l k
    debtor_waits = (ok.threads u).is_owed l k debt

    pub debtor_fits : SpotFits n w.word w.root u (w.pass u) (owed l k)
    debtor_fits = at_spot u (owed l k) debtor_waits

    -- the debtor fits, whose letter lies
    paid_fits : ThreadFits n w.word (put w.root l (paid_root (w.root l))) m u (w.pass u) (lying l k)
    paid_fits =
        let q : LockRootView = paid_root (w.root l) in
        let me = ok.threads u in
        record {
          long = me.long;
          aims = me.aims;
          holds = me.holds;
          found = me.found;
          spot = (debtor_fits.0, debtor_fits.2);
          in_line = λ j. put_elim (λ z. Contains z.line u → lying l k ≡ queued j) w.root l q j
              (λ _ h. absurd (let f : owed l k ≡ queued l = sym debtor_waits ∙ me.in_line l h in cc))
              (λ _ h. absurd (let f : owed l k ≡ queued j = sym debtor_waits ∙ me.in_line j h in cc));
          is_owed = λ j c. put_elim (λ z. z.owes ≡ Some (u, c) → lying l k ≡ owed j c) w.root l q j
              (λ _ h. absurd (no_debt None (u, c) refl h))
              (λ jl h. absurd (jl (let f : owed j c ≡ owed l k = sym (me.is_owed j c h) ∙ debtor_waits in cc)));
          handed = λ j h. me.handed j (subst (λ z. IsHanded z j) (sym debtor_waits) h);
        }

    -- every lock fits as before: a letter that lies tells what it told when it was owed
    locks_told : (j : ℕ) → LockFits n w.pass (put w.spot u (lying l k)) j (w.word j) (w.root j)
    locks_told j = let a = ok.locks j in record {
      once = a.once;
      had = λ v e. let h = a.had v e in (
        h.0,
        ⊎_elim {C = Holds (w.pass v) j ⊎ IsHanded (put w.spot u (lying l k) v) j} inl
            (λ g. inr (hands_on u (lying l k) j (λ i. subst (λ z. IsHanded z j) debtor_waits i) v g)) h.1,
      );
      parks = a.parks;
      tried = λ e some. let h = a.tried e some in (h.0, (h.1.0, h.1.1, out_on u (lying l k) (lying_out l k) h.0 h.1.2));
    }

    pub posts_kept : Kept n m (record w { spot = put w.spot u (lying l k); root = put w.root l (paid_root (w.root l)) })
    posts_kept =
        let q : LockRootView = paid_root (w.root l) in
        let root : ℕ → LockRootView = put w.root l q in
        record {
          threads = λ v. put_elim (ThreadFits n w.word root m v (w.pass v)) w.spot u (lying l k) v
              (λ vu. subst (λ z. ThreadFits n w.word root m z (w.pass z) (lying l k)) (sym vu) paid_fits)
              (λ vu. thread_on n m w.word w.word w.root root v (w.pass v) (w.spot v) (λ k e. e) (λ k _ e. e)
              (same_for v w.root l q (λ h. h) (λ h. h) (λ c h. absurd (vu (sym (same_debt u k v c (sym debt ∙ h)).0)))
              (λ c h. absurd (no_debt None (v, c) refl h))) (ok.threads v));
          locks =
              each_root n w.pass (put w.spot u (lying l k)) w l (w.word l) q (let a = locks_told l in
              record { once = a.once; had = a.had; parks = a.parks; tried = a.tried }) (λ j _. locks_told j);
        }

  -- ---- a letter is collected
  module _ (t l : ℕ) where
    -- whoever collects one was asleep
    pub collector_sleeps : (k : ℕ) → w.spot t ≡ lying l k → (w.pass t).asleep ≡ true
    collector_sleeps k lies = (at_spot t (lying l k) lies).0.1

    -- a barging opportunity
    pub wakes_kept : w.spot t ≡ lying l 0 → Kept n m (record w { pass = put w.pass t (woken (w.pass t)); spot = put w.spot t awake })
    wakes_kept lies =
        let p : LockPassView V = woken (w.pass t) in
        let spots : ℕ → Spot = put w.spot t awake in
        let me = ok.threads t in
        record {
          threads = each_thread n m w w.word w.root spots t p
              (subst (ThreadFits n w.word w.root m t p) (sym (put_same w.spot t awake))
              (record {
                long = me.long;
                aims = me.aims;
                holds = me.holds;
                found = me.found;
                spot = refl;
                in_line = λ k h. absurd (let f : lying l 0 ≡ queued k = sym lies ∙ me.in_line k h in cc);
                is_owed = λ k c h. absurd (let f : lying l 0 ≡ owed k c = sym lies ∙ me.is_owed k c h in cc);
                handed = λ k h. absurd h;
              }))
              (λ v ne. subst (ThreadFits n w.word w.root m v (w.pass v)) (sym (put_other w.spot t awake v ne)) (ok.threads v));
          locks = λ k. lock_stays n k (w.word k) (w.root k) w.pass w.spot t p spots (ok.locks k) (λ h. h)
              (hands_on t awake k
              (λ h. absurd (let g : IsHanded (lying l 0) k = subst (λ z. IsHanded z k) lies h in let f = g.1 in omega arith))) (λ _ a. a)
              (λ _ v _. out_on t awake awake_out v);
        }

    -- the lock itself
    module _ (lies : w.spot t ≡ lying l 1) where
      pub lies_fits : SpotFits n w.word w.root t (w.pass t) (lying l 1)
      lies_fits = at_spot t (lying l 1) lies

      pub handed_owner : (w.word l).owner ≡ Some t
      handed_owner = ⊎_elim {C = (w.word l).owner ≡ Some t} (λ e. absurd (omega arith)) (λ e. e.1) lies_fits.1

      pub handed_near : l < m
      handed_near = (ok.threads t).aims l lies_fits.0.2

      pub handed_kept : (x : V) → Kept n m (record w { pass = put w.pass t (woken (owning (w.pass t) l x)); spot = put w.spot t awake })
      handed_kept x =
          let xs = (w.pass t).holds in
          let p : LockPassView V = woken (owning (w.pass t) l x) in
          let spots : ℕ → Spot = put w.spot t awake in
          let me = ok.threads t in
          let long : l < length xs = (let e = me.long in let f = handed_near in omega arith) in
          record {
            threads = each_thread n m w w.word w.root spots t p
                (subst (ThreadFits n w.word w.root m t p) (sym (put_same w.spot t awake))
                (got_fits n m w.word w.root t l (w.pass t) (lying l 1) x false refl handed_near handed_owner (lying_out l 1) (λ k c e. cc)
                (subst (ThreadFits n w.word w.root m t (w.pass t)) lies me)))
                (λ v ne. subst (ThreadFits n w.word w.root m v (w.pass v)) (sym (put_other w.spot t awake v ne)) (ok.threads v));
            locks = λ k. dite (ℕ_discrete k l)
                (λ kl. subst (λ z. LockFits n (put w.pass t p) spots z (w.word z) (w.root z)) (sym kl)
                (let a = ok.locks l in
                got_lock n w.pass spots t l x false (w.word l) (w.root l) lies_fits.0.0 long handed_owner a.once a.parks))
                (λ ne. lock_stays n k (w.word k) (w.root k) w.pass w.spot t p spots (ok.locks k)
                (λ h. subst IsHeld (sym (get_or-set_other xs l k Held NotHeld ne)) h)
                (hands_on t awake k (λ h. absurd (ne (sym (subst (λ z. IsHanded z k) lies h).0))))
                (λ _ a. absurd (ne (let e : Some k ≡ Some l = sym a ∙ lies_fits.0.2 in cc))) (λ _ v _. out_on t awake awake_out v));
          }
