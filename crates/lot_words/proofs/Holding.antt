-- A lock is got, wanted, marked, let go, or found parked, and a thread queues on it: the rule of threads and locks is
-- kept.
use Rattle.std.proofs.Common.{◌≡◌, ◌≢◌, ℕ, ◌<◌, Bool, true, false, [], ◌∷◌, ◌++◌, length, refl, sym, ap, subst, ◌∙◌, arith}
use Rattle.std.proofs.Common.{length-set, get_or-set_other, Some, None}
use Rattle.std.specs.List.{Contains}
use Rattle.std.proofs.lemmas.List.Elements.{Contains-append_left, Contains-push}
use Rattle.lot_core.specs.Model.{put}
use Rattle.lot_core.proofs.Members.{once_push}
use Rattle.lot_core.proofs.Put.{put_same, put_other}
use Rattle.lot_rights.specs.World.{Spot, awake, queued, owed}
use Rattle.lot_rights.proofs.Lines.{in_init}
use Rattle.lot_rights.proofs.Puts.{put_elim}
use Rattle.lot_words.specs.declared.views.Hold.TheVariants.{NotHeld, Held, FoundParked}
use Rattle.lot_words.specs.declared.views.LockPassView.{LockPassView}
use Rattle.lot_words.specs.declared.views.LockRootView.{LockRootView}
use Rattle.lot_words.specs.World.{LockWord, LockWorld, IsHeld, IsFound, Holds, IsHanded, IsOutside, SpotFits, ThreadFits, LockFits, Kept}
use Rattle.lot_words.specs.Calls.{owning, wanting, sleeping, letting_go, finding_parked, Aims}
use Rattle.lot_words.proofs.Machine.{SameFor, set_elim, same_roots, same_for, awake_is, thread_on, thread_at, got_fits, got_lock}
use Rattle.lot_words.proofs.Machine.{lock_stays, each_thread, each_word, each_root}

module _ {V : Type 0} (n m : ℕ) (w : LockWorld V) (ok : Kept n m w) (t : ℕ) (near : t < n) (up : (w.pass t).asleep ≡ false) where
  pub is_awake : w.spot t ≡ awake
  is_awake = awake_is n w.word w.root t (w.pass t) (w.spot t) (ok.threads t).spot up

  -- its notice is in no line, and it is owed no letter
  is_outside : IsOutside (w.spot t)
  is_outside k e = let f : awake ≡ queued k = sym is_awake ∙ e in cc

  is_not_owed : (k c : ℕ) → w.spot t ≢ owed k c
  is_not_owed k c e = let f : awake ≡ owed k c = sym is_awake ∙ e in cc

  pub in_no_line : (k : ℕ) → ¬ Contains (w.root k).line t
  in_no_line k h = is_outside k ((ok.threads t).in_line k h)

  pub is_owed_nothing : (k c : ℕ) → (w.root k).owes ≡ Some (t, c) → ⊥
  is_owed_nothing k c h = is_not_owed k c ((ok.threads t).is_owed k c h)

  pub not_handed : (k : ℕ) → ¬ IsHanded (w.spot t) k
  not_handed k h = subst (λ z. IsHanded z k) is_awake h

  module _ (l : ℕ) (here : l < m) where
    pub lock_near : l < length (w.pass t).holds
    lock_near = let e = (ok.threads t).long in omega arith

    -- the thread gets the unheld lock
    pub gets_kept : (w.word l).owner ≡ None → Aims (w.pass t) l → (x : V)
        → Kept n m
        (record w {
          pass = put w.pass t (owning (w.pass t) l x);
          word = put w.word l (record { owner = Some t; parked = (w.word l).parked });
        })
    gets_kept unheld aims x =
        let xs = (w.pass t).holds in
        let p : LockPassView V = owning (w.pass t) l x in
        let y : LockWord = record { owner = Some t; parked = (w.word l).parked } in
        let word : ℕ → LockWord = put w.word l y in
        let fits : (v : ℕ) → ThreadFits n word w.root m v (w.pass v) (w.spot v)
        = (λ v. thread_at n m w.word l y w.root w.root v (w.pass v) (w.spot v) (λ e. absurd (let f : None ≡ Some v = sym unheld ∙ e in cc))
        (λ _ e. e) (same_roots v w.root) (ok.threads v)) in
        record {
          threads = each_thread n m w word w.root w.spot t p
              (subst (ThreadFits n word w.root m t p) (sym is_awake)
              (got_fits n m word w.root t l (w.pass t) (w.spot t) x (w.pass t).asleep up here
              (ap (λ (z : LockWord). z.owner) (put_same w.word l y)) is_outside is_not_owed (fits t)))
              (λ v _. fits v);
          locks = each_word n (put w.pass t p) w.spot w l y (w.root l)
              (got_lock n w.pass w.spot t l x (w.pass t).asleep y (w.root l) near lock_near refl (ok.locks l).once (ok.locks l).parks)
              (λ k ne. lock_stays n k (w.word k) (w.root k) w.pass w.spot t p w.spot (ok.locks k)
              (λ h. subst IsHeld (sym (get_or-set_other xs l k Held NotHeld ne)) h) (λ v h. h)
              (λ _ a. absurd (ne (aims k a))) (λ _ v _ h. h));
        }

    -- the thread finds the lock held, and wants it
    pub wants_kept : (w.word l).owner ≢ None → Aims (w.pass t) l → Kept n m (record w { pass = put w.pass t (wanting (w.pass t) l) })
    wants_kept held aims =
        let p : LockPassView V = wanting (w.pass t) l in
        let me = ok.threads t in
        record {
          threads = each_thread n m w w.word w.root w.spot t p
              (record {
                long = me.long;
                aims = λ k a. subst (λ z. z < m) (let e : Some l ≡ Some k = a in cc) here;
                holds = me.holds;
                found = me.found;
                spot = subst (SpotFits n w.word w.root t p) (sym is_awake) up;
                in_line = me.in_line;
                is_owed = me.is_owed;
                handed = me.handed;
              })
              (λ v _. ok.threads v);
          locks = λ k. lock_stays n k (w.word k) (w.root k) w.pass w.spot t p w.spot (ok.locks k) (λ h. h) (λ v h. h)
              (λ e a. absurd (held (subst (λ z. (w.word z).owner ≡ None) (aims k a) e))) (λ _ v _ h. h);
        }

    -- the lock is marked as parked
    pub marks_kept : Kept n m (record w { word = put w.word l (record { owner = (w.word l).owner; parked = true }) })
    marks_kept =
        let y : LockWord = record { owner = (w.word l).owner; parked = true } in
        record {
          threads = λ v. thread_at n m w.word l y w.root w.root v (w.pass v) (w.spot v) (λ e. e) (λ _ _. refl) (same_roots v w.root)
              (ok.threads v);
          locks =
              each_word n w.pass w.spot w l y (w.root l) (let a = ok.locks l in
              record { once = a.once; had = a.had; parks = λ _. refl; tried = a.tried }) (λ k _. ok.locks k);
        }

    -- the root of the lock, in whose line the thread is the last
    abbrev lined : LockRootView
    lined = record (w.root l) { line = (w.root l).line ++ t ∷ [] }

    module _ (aim : (w.pass t).aim ≡ Some l) where
      -- the thread fits in the line, asleep
      sleeper_fits : ThreadFits n w.word (put w.root l lined) m t (sleeping (w.pass t)) (queued l)
      sleeper_fits = let me = ok.threads t in record {
        long = me.long;
        aims = me.aims;
        holds = me.holds;
        found = me.found;
        spot = (
          (near, refl, aim),
          subst (λ (z : LockRootView). Contains z.line t) (sym (put_same w.root l lined)) (Contains-push (w.root l).line t),
        );
        in_line =
            λ k. put_elim (λ z. Contains z.line t → queued l ≡ queued k) w.root l lined k (λ e _. ap queued (sym e))
            (λ _ h. absurd (in_no_line k h));
        is_owed =
            λ k c. put_elim (λ z. z.owes ≡ Some (t, c) → queued l ≡ owed k c) w.root l lined k (λ _ h. absurd (is_owed_nothing l c h))
            (λ _ h. absurd (is_owed_nothing k c h));
        handed = λ k h. absurd h;
      }

      -- every lock fits as before: the one that the thread tries for is held
      locks_wait : (w.word l).owner ≢ None → (k : ℕ)
          → LockFits n (put w.pass t (sleeping (w.pass t))) (put w.spot t (queued l)) k (w.word k) (w.root k)
      locks_wait held k =
          lock_stays n k (w.word k) (w.root k) w.pass w.spot t (sleeping (w.pass t)) (put w.spot t (queued l)) (ok.locks k) (λ h. h)
          (λ v. put_elim (λ z. IsHanded (w.spot v) k → IsHanded z k) w.spot t (queued l) v
          (λ vt h. absurd (not_handed k (subst (λ z. IsHanded (w.spot z) k) vt h))) (λ _ h. h)) (λ _ a. a)
          (λ e v a. put_elim (λ z. IsOutside (w.spot v) → IsOutside z) w.spot t (queued l) v
          (λ vt _.
          absurd (held (subst (λ z. (w.word z).owner ≡ None)
          (let f : Some k ≡ Some l = sym a ∙ (ap (λ z. (w.pass z).aim) vt ∙ aim) in cc) e)))
          (λ _ h. h))

    -- the thread goes last in the line of the lock, which is held and parked
    pub parks_kept : (w.word l).owner ≢ None → (w.word l).parked ≡ true → (w.pass t).aim ≡ Some l
        → Kept n m
        (record w {
          pass = put w.pass t (sleeping (w.pass t));
          spot = put w.spot t (queued l);
          root = put w.root l (record (w.root l) { line = (w.root l).line ++ t ∷ [] });
        })
    parks_kept held is_parked aim =
        let p : LockPassView V = sleeping (w.pass t) in
        let root : ℕ → LockRootView = put w.root l lined in
        let spots : ℕ → Spot = put w.spot t (queued l) in
        record {
          threads = each_thread n m w w.word root spots t p
              (subst (ThreadFits n w.word root m t p) (sym (put_same w.spot t (queued l))) (sleeper_fits aim))
              (λ v ne. subst (ThreadFits n w.word root m v (w.pass v)) (sym (put_other w.spot t (queued l) v ne))
              (thread_on n m w.word w.word w.root root v (w.pass v) (w.spot v) (λ k e. e) (λ k _ e. e)
              (same_for v w.root l lined (λ h. Contains-append_left (w.root l).line (t ∷ []) v h) (λ h. in_init v (w.root l).line t ne h)
              (λ _ h. h) (λ _ h. h)) (ok.threads v)));
          locks = each_root n (put w.pass t p) spots w l (w.word l) lined
              (let a = locks_wait aim held l in
              record {
                once = once_push (w.root l).line t a.once (in_no_line l);
                had = a.had;
                parks = λ _. is_parked;
                tried = λ e _. absurd (held e);
              }) (λ k _. locks_wait aim held k);
        }

    -- the thread fits where it has let the lock go, whatever the word of the lock becomes
    pub left_fits : (x : LockWord) (y : V) (root : ℕ → LockRootView) → SameFor t w.root root
        → ThreadFits n (put w.word l x) root m t (letting_go (w.pass t) l y) (w.spot t)
    left_fits x y root same =
        let xs = (w.pass t).holds in
        let word : ℕ → LockWord = put w.word l x in
        let me = ok.threads t in
        record {
          long = length-set xs l NotHeld ∙ me.long;
          aims = me.aims;
          holds = λ k. set_elim xs l k NotHeld (λ h. IsHeld h → (word k).owner ≡ Some t) lock_near (λ e h. absurd h)
              (λ ne h. ap (λ (z : LockWord). z.owner) (put_other w.word l x k ne) ∙ me.holds k h);
          found = λ k. set_elim xs l k NotHeld (λ h. IsFound h → (word k).parked ≡ true) lock_near (λ e h. absurd h)
              (λ ne h. ap (λ (z : LockWord). z.parked) (put_other w.word l x k ne) ∙ me.found k h);
          spot = subst (SpotFits n word root t (letting_go (w.pass t) l y)) (sym is_awake) up;
          in_line = λ k h. me.in_line k (same.line_back k h);
          is_owed = λ k c h. me.is_owed k c (same.owes_back k c h);
          handed = λ k h. absurd (not_handed k h);
        }

    module _ (has : Holds (w.pass t) l) where
      -- no other thread owns the lock: it fits, whatever the word of the lock becomes
      pub others_fit : (x : LockWord) (root : ℕ → LockRootView) (v : ℕ) → v ≢ t → SameFor v w.root root
          → ThreadFits n (put w.word l x) root m v (w.pass v) (w.spot v)
      others_fit x root v ne same =
          let same_owner : (w.word l).owner ≡ Some v → v ≡ t = (λ e. let f : Some v ≡ Some t = sym e ∙ (ok.threads t).holds l has in cc) in
          thread_at n m w.word l x w.root root v (w.pass v) (w.spot v) (λ e. absurd (ne (same_owner e))) (λ e. absurd (ne (same_owner e)))
          same (ok.threads v)

      -- the owner lets the lock go, in whose line nobody is
      pub frees_kept : (y : V) (b : Bool) → (w.root l).line ≡ []
          → Kept n m (record w {
            pass = put w.pass t (letting_go (w.pass t) l y);
            word = put w.word l (record { owner = None; parked = b });
          })
      frees_kept y b nobody =
          let p : LockPassView V = letting_go (w.pass t) l y in
          let x : LockWord = record { owner = None; parked = b } in
          record {
            threads = each_thread n m w (put w.word l x) w.root w.spot t p (left_fits x y w.root (same_roots t w.root))
                (λ v ne. others_fit x w.root v ne (same_roots v w.root));
            locks = each_word n (put w.pass t p) w.spot w l x (w.root l)
                (record {
                  once = (ok.locks l).once;
                  had = λ v e. absurd (let f : None ≡ Some v = e in cc);
                  parks = λ some. absurd (some nobody);
                  tried = λ _ some. absurd (some nobody);
                })
                (λ k ne. lock_stays n k (w.word k) (w.root k) w.pass w.spot t p w.spot (ok.locks k)
                (λ h. subst IsHeld (sym (get_or-set_other (w.pass t).holds l k NotHeld NotHeld ne)) h) (λ v h. h)
                (λ _ a. a) (λ _ v _ h. h));
          }

      -- the owner finds the lock parked
      pub finds_kept : (w.word l).parked ≡ true → Kept n m (record w { pass = put w.pass t (finding_parked (w.pass t) l) })
      finds_kept is_parked =
          let p : LockPassView V = finding_parked (w.pass t) l in
          let xs = (w.pass t).holds in
          let me = ok.threads t in
          record {
            threads = each_thread n m w w.word w.root w.spot t p
                (record {
                  long = length-set xs l FoundParked ∙ me.long;
                  aims = me.aims;
                  holds =
                      λ k. set_elim xs l k FoundParked (λ h. IsHeld h → (w.word k).owner ≡ Some t) lock_near
                      (λ e _. me.holds k (subst (Holds (w.pass t)) (sym e) has)) (λ ne h. me.holds k h);
                  found =
                      λ k. set_elim xs l k FoundParked (λ h. IsFound h → (w.word k).parked ≡ true) lock_near
                      (λ e _. subst (λ z. (w.word z).parked ≡ true) (sym e) is_parked)
                      (λ ne h. me.found k h);
                  spot = subst (SpotFits n w.word w.root t p) (sym is_awake) up;
                  in_line = me.in_line;
                  is_owed = me.is_owed;
                  handed = λ k h. absurd (not_handed k h);
                })
                (λ v _. ok.threads v);
            locks =
                λ k. lock_stays n k (w.word k) (w.root k) w.pass w.spot t p w.spot (ok.locks k)
                (λ h. set_elim xs l k FoundParked IsHeld lock_near (λ _. tt) (λ _. h)) (λ v h. h)
                (λ _ a. a) (λ _ v _ h. h);
          }
