-- How a change of the world keeps the rule of threads and locks.
use Rattle.std.proofs.Common.{◌≡◌, ◌≢◌, ℕ, ◌<◌, ◌⊎◌, if◌then◌else◌, Bool, true, false, List, [], length, get_or, set, refl, sym, ap}
use Rattle.std.proofs.Common.{subst, inl, inr, ⊎_elim, arith, ◌∙◌, length-set, get_or-set_same, get_or-set_other, Option}
use Rattle.std.proofs.Common.{Some, None}
use Rattle.std.specs.List.{Contains}
use mathlib.Core.Logic.{dite}
use native.Mathlib.Decide.{ℕ_discrete}
use Rattle.lot_core.specs.Model.{put}
use Rattle.lot_core.specs.Sound.{IsOnce}
use Rattle.lot_core.proofs.Put.{put_same}
use Rattle.lot_rights.specs.World.{Spot, awake, queued, owed, lying}
use Rattle.lot_rights.proofs.Puts.{by_test, put_elim}
use Rattle.lot_words.specs.declared.views.Hold.{Hold}
use Rattle.lot_words.specs.declared.views.Hold.TheVariants.{NotHeld, Held, FoundParked}
use Rattle.lot_words.specs.declared.views.LockPassView.{LockPassView}
use Rattle.lot_words.specs.declared.views.LockRootView.{LockRootView}
use Rattle.lot_words.specs.World.{LockWord, LockWorld, hold, IsHeld, IsFound, Holds, IsHanded, IsOutside, TellsTrue, SpotFits, ThreadFits}
use Rattle.lot_words.specs.World.{LockFits}
use Rattle.lot_words.specs.Calls.{owning}

-- ---- small facts
pub found_held : (h : Hold) → IsFound h → IsHeld h
found_held NotHeld f = f
found_held Held f = tt
found_held FoundParked f = tt

-- what a pass holds after the lock l changed
pub set_elim : (xs : List Hold) (l k : ℕ) (x : Hold) (P : Hold → Type 0) → l < length xs → (k ≡ l → P x) → (k ≢ l → P (get_or xs k NotHeld))
    → P (get_or (set xs l x) k NotHeld)
set_elim xs l k x P near here there = dite (ℕ_discrete k l)
    (λ e. subst (λ z. P (get_or (set xs l x) z NotHeld)) (sym e) (subst P (sym (get_or-set_same xs l x NotHeld near)) (here e)))
    (λ ne. subst P (sym (get_or-set_other xs l k x NotHeld ne)) (there ne))

pub no_aim : (k : ℕ) → ◌≡◌ {A = Option ℕ} None (Some k) → ⊥
no_aim k e = cc

pub no_debt : (o : Option (ℕ × ℕ)) (x : ℕ × ℕ) → o ≡ None → o ≡ Some x → ⊥
no_debt o x e f = cc

abbrev debtor : Option (ℕ × ℕ) → ℕ × ℕ
debtor None = (0, 0)
debtor (Some x) = x

pub same_debt : (a b c d : ℕ) → ◌≡◌ {A = Option (ℕ × ℕ)} (Some (a, b)) (Some (c, d)) → (a ≡ c) × (b ≡ d)
same_debt a b c d e = (ap (λ o. (debtor o).0) e, ap (λ o. (debtor o).1) e)

told_on : (o o' : Option ℕ) (t k : ℕ) → TellsTrue o t k → (o ≡ Some t → o' ≡ Some t) → TellsTrue o' t k
told_on o o' t k h f = ⊎_elim {C = TellsTrue o' t k} (λ z. inl z) (λ h. inr (h.0, f h.1)) h

pub awake_out : IsOutside awake
awake_out l e = cc

pub owed_out : (m k : ℕ) → IsOutside (owed m k)
owed_out m k l e = cc

pub lying_out : (m k : ℕ) → IsOutside (lying m k)
lying_out m k l e = cc

-- ---- roots
-- two rows of roots have the same of u
pub record SameFor (u : ℕ) (root root' : ℕ → LockRootView) : Type 0 where
  pub line : (k : ℕ) → Contains (root k).line u → Contains (root' k).line u
  pub line_back : (k : ℕ) → Contains (root' k).line u → Contains (root k).line u
  pub owes : (k c : ℕ) → (root k).owes ≡ Some (u, c) → (root' k).owes ≡ Some (u, c)
  pub owes_back : (k c : ℕ) → (root' k).owes ≡ Some (u, c) → (root k).owes ≡ Some (u, c)

pub same_roots : (u : ℕ) (root : ℕ → LockRootView) → SameFor u root root
same_roots u root = record { line = λ k h. h; line_back = λ k h. h; owes = λ k c h. h; owes_back = λ k c h. h }

-- one root changes, and keeps what it has of the thread
pub same_for : (u : ℕ) (root : ℕ → LockRootView) (l : ℕ) (q : LockRootView) → (Contains (root l).line u → Contains q.line u)
    → (Contains q.line u → Contains (root l).line u)
    → ((c : ℕ) → (root l).owes ≡ Some (u, c) → q.owes ≡ Some (u, c)) → ((c : ℕ) → q.owes ≡ Some (u, c) → (root l).owes ≡ Some (u, c))
    → SameFor u root (put root l q)
same_for u root l q into back owe paid = record {
  line = λ k h. put_elim (λ x. Contains x.line u) root l q k (λ kl. into (subst (λ z. Contains (root z).line u) kl h)) (λ _. h);
  line_back =
      λ k. put_elim (λ x. Contains x.line u → Contains (root k).line u) root l q k
      (λ kl h. subst (λ z. Contains (root z).line u) (sym kl) (back h)) (λ _ h. h);
  owes = λ k c h. put_elim (λ x. x.owes ≡ Some (u, c)) root l q k (λ kl. owe c (subst (λ z. (root z).owes ≡ Some (u, c)) kl h)) (λ _. h);
  owes_back =
      λ k c. put_elim (λ x. x.owes ≡ Some (u, c) → (root k).owes ≡ Some (u, c)) root l q k
      (λ kl h. subst (λ z. (root z).owes ≡ Some (u, c)) (sym kl) (paid c h)) (λ _ h. h);
}

module _ {V : Type 0} (n : ℕ) where
  -- ---- threads
  pub awake_is : (word : ℕ → LockWord) (root : ℕ → LockRootView) (t : ℕ) (p : LockPassView V) (sp : Spot) → SpotFits n word root t p sp
      → p.asleep ≡ false → sp ≡ awake
  awake_is word root t p awake h e = refl
  awake_is word root t p (queued l) h e = absurd (cc (h.0.1))
  awake_is word root t p (owed l k) h e = absurd (cc (h.0.1))
  awake_is word root t p (lying l k) h e = absurd (cc (h.0.1))

  spot_on : (word word' : ℕ → LockWord) (root root' : ℕ → LockRootView) (u : ℕ) (p : LockPassView V) (sp : Spot)
      → ((k : ℕ) → (word k).owner ≡ Some u → (word' k).owner ≡ Some u) → SameFor u root root'
      → SpotFits n word root u p sp → SpotFits n word' root' u p sp
  spot_on word word' root root' u p awake own s h = h
  spot_on word word' root root' u p (queued l) own s h = (h.0, s.line l h.1)
  spot_on word word' root root' u p (owed l k) own s h = (h.0, s.owes l k h.1, told_on (word l).owner (word' l).owner u k h.2 (own l))
  spot_on word word' root root' u p (lying l k) own s h = (h.0, told_on (word l).owner (word' l).owner u k h.1 (own l))

  pub thread_on : (m : ℕ) (word word' : ℕ → LockWord) (root root' : ℕ → LockRootView) (u : ℕ) (p : LockPassView V) (sp : Spot)
      → ((k : ℕ) → (word k).owner ≡ Some u → (word' k).owner ≡ Some u)
      → ((k : ℕ) → (word k).owner ≡ Some u → (word k).parked ≡ true → (word' k).parked ≡ true) → SameFor u root root'
      → ThreadFits n word root m u p sp → ThreadFits n word' root' m u p sp
  thread_on m word word' root root' u p sp own park s ok = record {
    long = ok.long;
    aims = ok.aims;
    holds = λ l h. own l (ok.holds l h);
    found = λ l h. park l (ok.holds l (found_held (hold p l) h)) (ok.found l h);
    spot = spot_on word word' root root' u p sp own s ok.spot;
    in_line = λ l h. ok.in_line l (s.line_back l h);
    is_owed = λ l k h. ok.is_owed l k (s.owes_back l k h);
    handed = ok.handed;
  }

  -- one word changes, and says of the thread what it said
  pub thread_at : (m : ℕ) (word : ℕ → LockWord) (l : ℕ) (x : LockWord) (root root' : ℕ → LockRootView) (u : ℕ) (p : LockPassView V)
      (sp : Spot) → ((word l).owner ≡ Some u → x.owner ≡ Some u) → ((word l).owner ≡ Some u → (word l).parked ≡ true → x.parked ≡ true)
      → SameFor u root root' → ThreadFits n word root m u p sp → ThreadFits n (put word l x) root' m u p sp
  thread_at m word l x root root' u p sp own park =
      thread_on m word (put word l x) root root' u p sp
      (λ k. put_elim (λ z. (word k).owner ≡ Some u → z.owner ≡ Some u) word l x k
      (λ kl e. own (subst (λ z. (word z).owner ≡ Some u) kl e)) (λ _ e. e))
      (λ k. put_elim (λ z. (word k).owner ≡ Some u → (word k).parked ≡ true → z.parked ≡ true) word l x k
      (λ kl e f. park (subst (λ z. (word z).owner ≡ Some u) kl e) (subst (λ z. (word z).parked ≡ true) kl f)) (λ _ _ f. f))

  -- the owner of l, which is in no line and is owed nothing, has got the lock, and is awake
  pub got_fits : (m : ℕ) (word : ℕ → LockWord) (root : ℕ → LockRootView) (t l : ℕ) (p : LockPassView V) (sp : Spot) (x : V) (asleep : Bool)
      → asleep ≡ false → l < m → (word l).owner ≡ Some t → IsOutside sp → ((k c : ℕ) → sp ≢ owed k c) → ThreadFits n word root m t p sp
      → ThreadFits n word root m t (record (owning p l x) { asleep = asleep }) awake
  got_fits m word root t l p sp x asleep up here own out unowed ok =
      let long : l < length p.holds = (let e = ok.long in omega arith) in
      record {
        long = length-set p.holds l Held ∙ ok.long;
        aims = λ k a. absurd (no_aim k a);
        holds = λ k. set_elim p.holds l k Held (λ h. IsHeld h → (word k).owner ≡ Some t) long
            (λ e _. subst (λ z. (word z).owner ≡ Some t) (sym e) own) (λ _ h. ok.holds k h);
        found = λ k. set_elim p.holds l k Held (λ h. IsFound h → (word k).parked ≡ true) long (λ _ h. absurd h) (λ _ h. ok.found k h);
        spot = up;
        in_line = λ k h. absurd (out k (ok.in_line k h));
        is_owed = λ k c h. absurd (unowed k c (ok.is_owed k c h));
        handed = λ k h. absurd h;
      }

  -- ---- locks
  -- a lock fits with its owner t, which has got it
  pub got_lock : (pass : ℕ → LockPassView V) (spots : ℕ → Spot) (t l : ℕ) (x : V) (asleep : Bool) (y : LockWord) (q : LockRootView)
      → t < n → l < length (pass t).holds → y.owner ≡ Some t → IsOnce q.line → (q.line ≢ [] → y.parked ≡ true)
      → LockFits n (put pass t (record (owning (pass t) l x) { asleep = asleep })) spots l y q
  got_lock pass spots t l x asleep y q near long own once parks =
      let p : LockPassView V = record (owning (pass t) l x) { asleep = asleep } in
      let has : Holds p l = subst IsHeld (sym (get_or-set_same (pass t).holds l Held NotHeld long)) tt in
      record {
        once = once;
        had = λ v e. let tv : t ≡ v = (let f : Some t ≡ Some v = sym own ∙ e in cc) in (
          omega arith,
          inl (subst (λ z. Holds (put pass t p z) l) tv (subst (λ (z : LockPassView V). Holds z l) (sym (put_same pass t p)) has)),
        );
        parks = parks;
        tried = λ e _. absurd (let f : Some t ≡ None = sym own ∙ e in cc);
      }

  -- the pass of t changes, and so may the notices; nobody loses a hold of k or a try at it
  pub lock_stays : (k : ℕ) (x : LockWord) (q : LockRootView) (pass : ℕ → LockPassView V) (spot : ℕ → Spot) (t : ℕ) (p : LockPassView V)
      (spots : ℕ → Spot) → LockFits n pass spot k x q
      → (Holds (pass t) k → Holds p k) → ((v : ℕ) → IsHanded (spot v) k → IsHanded (spots v) k)
      → (x.owner ≡ None → (pass t).aim ≡ Some k → p.aim ≡ Some k)
      → (x.owner ≡ None → (v : ℕ) → (pass v).aim ≡ Some k → IsOutside (spot v) → IsOutside (spots v))
      → LockFits n (put pass t p) spots k x q
  lock_stays k x q pass spot t p spots ok holds hands aims outs = record {
    once = ok.once;
    had = λ v e. let h = ok.had v e in (
      h.0,
      ⊎_elim {C = Holds (put pass t p v) k ⊎ IsHanded (spots v) k}
          (λ a. inl (put_elim (λ y. Holds y k) pass t p v (λ vt. holds (subst (λ z. Holds (pass z) k) vt a)) (λ _. a)))
          (λ a. inr (hands v a)) h.1,
    );
    parks = ok.parks;
    tried = λ e some. let h = ok.tried e some in (
      h.0,
      (
        h.1.0,
        put_elim (λ y. y.aim ≡ Some k) pass t p h.0 (λ vt. aims e (subst (λ z. (pass z).aim ≡ Some k) vt h.1.1)) (λ _. h.1.1),
        outs e
            h.0 h.1.1 h.1.2,
      ),
    );
  }

  -- ---- the whole world
  module _ (m : ℕ) (w : LockWorld V) (word : ℕ → LockWord) (root : ℕ → LockRootView) (spots : ℕ → Spot) where
    pub each_thread : (t : ℕ) (p : LockPassView V) → ThreadFits n word root m t p (spots t)
        → ((v : ℕ) → v ≢ t → ThreadFits n word root m v (w.pass v) (spots v)) → (v : ℕ)
        → ThreadFits n word root m v (put w.pass t p v) (spots v)
    each_thread t p mine others v =
        put_elim (λ y. ThreadFits n word root m v y (spots v)) w.pass t p v
        (λ e. subst (λ z. ThreadFits n word root m z p (spots z)) (sym e) mine) (others v)

  module _ (pass : ℕ → LockPassView V) (spots : ℕ → Spot) (w : LockWorld V) (l : ℕ) (x : LockWord) (q : LockRootView) where
    pub each_word : LockFits n pass spots l x (w.root l) → ((k : ℕ) → k ≢ l → LockFits n pass spots k (w.word k) (w.root k)) → (k : ℕ)
        → LockFits n pass spots k (put w.word l x k) (w.root k)
    each_word here elsewhere k =
        put_elim (λ y. LockFits n pass spots k y (w.root k)) w.word l x k
        (λ e. subst (λ z. LockFits n pass spots z x (w.root z)) (sym e) here) (elsewhere k)

    pub each_root : LockFits n pass spots l (w.word l) q → ((k : ℕ) → k ≢ l → LockFits n pass spots k (w.word k) (w.root k)) → (k : ℕ)
        → LockFits n pass spots k (w.word k) (put w.root l q k)
    each_root here elsewhere k =
        put_elim (λ y. LockFits n pass spots k (w.word k) y) w.root l q k
        (λ e. subst (λ z. LockFits n pass spots z (w.word z) q) (sym e) here) (elsewhere k)

    pub each_both : LockFits n pass spots l x q → ((k : ℕ) → k ≢ l → LockFits n pass spots k (w.word k) (w.root k)) → (k : ℕ)
        → LockFits n pass spots k (put w.word l x k) (put w.root l q k)
    each_both here elsewhere k = by_test (λ b. LockFits n pass spots k (if b then x else w.word k) (if b then q else w.root k)) k l
        (λ e. subst (λ z. LockFits n pass spots z x q) (sym e) here) (elsewhere k)
