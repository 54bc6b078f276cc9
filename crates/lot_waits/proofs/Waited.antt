-- How a pass stands that was enlisted on a condition, let its lock go, and found its letter; and when it has the lock
-- again.
use Rattle.std.proofs.Common.{◌≡◌, ℕ, zero, suc, false, List, [], ◌∷◌, ◌++◌, Some, None, inr, refl, sym, ap, subst, ◌∙◌}
use Rattle.std.specs.List.{All}
use Rattle.std.proofs.lemmas.List.{append-nil, append_assoc}
use Rattle.std.proofs.lemmas.List.Elements.{All-nil, All-push}
use Rattle.lot_events.specs.declared.events.Event.TheVariants.{Enlist}
use Rattle.lot_events.specs.declared.events.Seen.TheVariants.{Done}
use Rattle.lot_park.specs.Parking.{LooksInVain, Awaited}
use Rattle.lot_rights.specs.declared.views.Access.{Access}
use Rattle.lot_rights.specs.declared.views.Access.TheVariants.{Makes, Collects}
use Rattle.lot_words.specs.CallersRule.{CallersRule}
use Rattle.lot_words.specs.Values.{IsIn}
use Rattle.lot_whole.specs.declared.views.Stand.TheVariants.{Idle, AtRest}
use Rattle.lot_whole.specs.Family.{lock, cond, sem}
use Rattle.lot_whole.specs.Standing.{IsUp, WantsNothing, MayWant}
use Rattle.lot_scheme.specs.Standing.{LotStanding, adding, letting_go, enlisted, one_wait_more, IsLooked, CollectsIn}
use Rattle.lot_scheme.specs.Traces.{IsVain}
use Rattle.lot_locks.specs.Released.{FreeTrace}
use Rattle.lot_locks.specs.Standing.{MayFree, LetsGo, IsOwner}
use Rattle.lot_locks.specs.declared.released.Released.{Released}
use Rattle.lot_waits.specs.Waiting.{MayEnlist, Enlists, Slept, HasWaited, waited}

-- the accesses of a pass that has found its letter
abbrev pub slept_trace : ℕ → ℕ → ℕ → List Access → List Access → List Access
slept_trace t c l free looks = Makes (Enlist t c l) Done ∷ (free ++ (looks ++ Collects t (Some 0) ∷ []))

module _ {V : Type 0} where
  -- ---- enlisted
  abbrev bed : LotStanding V → ℕ → ℕ → LotStanding V
  bed p c l = adding (enlisted p c l) (Makes (Enlist p.thread c l) Done ∷ [])

  -- it may let the lock go
  pub lets : (above : ℕ → ℕ → Type 0) (locks first_sem : ℕ) (p q : LotStanding V) (c l : ℕ) → MayEnlist above locks first_sem p c l
      → Enlists p c l q → MayFree q l
  lets above locks first_sem p q c l may is = subst (λ (r : LotStanding V). MayFree r l) (sym is) at_bed
    where
      at_bed : MayFree (bed p c l) l
      at_bed = record { may = inr (may.idle.0.up lock, may.idle.0.aim, (c, refl)); holds = may.holds; lies = may.lies }

  -- ---- at rest
  -- the pass, which has found its letter after it left the value y in the lock
  abbrev rest : LotStanding V → ℕ → ℕ → V → LotStanding V
  rest p c l y = one_wait_more (letting_go (enlisted p c l) l y) c

  rest_up : (p : LotStanding V) (c l : ℕ) (y : V) → IsUp p.own → IsUp (rest p c l y).own
  rest_up p c l y up lock = up lock
  rest_up p c l y up cond = refl
  rest_up p c l y up sem = up sem

  -- it was enlisted, its lock was let go, and it has found its letter
  pub record Rested (p : LotStanding V) (c l : ℕ) (became : Released) (s : LotStanding V) : Type 0 where
    pub left : V
    pub lay : IsIn p.own.locks l left
    pub free : List Access
    pub looks : List Access
    pub freed : FreeTrace p.thread l became free
    pub vain : All (IsVain p.thread) looks
    pub is : s ≡ adding (rest p c l left) (slept_trace p.thread c l free looks)

  pub same_thread : (p s : LotStanding V) (c l : ℕ) (became : Released) → Rested p c l became s → s.thread ≡ p.thread
  same_thread p s c l became r = ap (λ (q : LotStanding V). q.thread) r.is

  -- and may take its lock, or want it
  pub takes : (above : ℕ → ℕ → Type 0) (locks first_sem : ℕ) (p s : LotStanding V) (c l : ℕ) (became : Released)
      → MayEnlist above locks first_sem p c l → Rested p c l became s → MayWant above s.own l
  takes above locks first_sem p s c l became may r = subst (λ (q : LotStanding V). MayWant above q.own l) (sym r.is)
      (inr (awake, inr (c, refl)), λ idle. absurd (let e : AtRest c l ≡ Idle = idle.1 in cc))
    where
      awake : WantsNothing (rest p c l r.left).own
      awake = record {
        up = rest_up p c l r.left may.idle.0.up;
        aim = may.idle.0.aim;
        sweeps = may.idle.0.sweeps;
        seeks = may.idle.0.seeks;
      }

  -- ---- accesses
  after : (p : LotStanding V) (xs ys : List Access) → adding (adding p xs) ys ≡ adding p (xs ++ ys)
  after p xs ys = ap (λ did. record p { did = did }) (append_assoc p.did xs ys)

four : (a : List Access) (e : Access) (b c d : List Access) → (((a ++ e ∷ []) ++ b) ++ c) ++ d ≡ a ++ (e ∷ (b ++ (c ++ d)))
four a e b c d = simp append_assoc

five : (a : List Access) (e : Access) (b c : List Access) (d : Access) (f : List Access)
    → (a ++ (e ∷ (b ++ (c ++ d ∷ [])))) ++ f ≡ a ++ (e ∷ (b ++ (c ++ (d ∷ f))))
five a e b c d f = simp append_assoc

module _ {V Part : Type 0} (rule : CallersRule V Part) where
  -- looks in vain
  pub vain_looks : (n : ℕ) (p q : LotStanding V) → LooksInVain (IsLooked rule) n p q
      → (looks : List Access) × All (IsVain p.thread) looks × (q ≡ adding p looks)
  vain_looks zero p q is = ([], All-nil (IsVain p.thread), is ∙ ap (λ did. record p { did = did }) (sym (append-nil p.did)))
  vain_looks (suc n) p q (mid, before, look) =
      let so = vain_looks n p mid before in
      let last : Access = Collects p.thread None in (
        so.0 ++ last ∷ [],
        All-push (IsVain p.thread) so.0 last so.1 refl,
        subst (λ (m : LotStanding V). q ≡ adding m (Collects m.thread None ∷ [])) so.2 look ∙ after p so.0 (last ∷ []),
      )

  -- the letter was found
  wakes : (p : LotStanding V) (c l : ℕ) (y : V) (free looks : List Access) (token : ℕ) (s : LotStanding V) → p.own.locks.asleep ≡ false
      → IsLooked rule (adding (adding (letting_go (bed p c l) l y) free) looks) (Some token) s
      → s ≡ adding (rest p c l y) (slept_trace p.thread c l free looks)
  wakes p c l y free looks token s awake found =
      let last : LotStanding V = adding (adding (letting_go (bed p c l) l y) free) looks in
      let (none, (d, out, is)) = subst (λ b. CollectsIn rule last b (Some c) token s) awake found in
      let same : d ≡ c = (let f : Some c ≡ Some d = out in cc) in
      subst (λ k. s ≡ adding (one_wait_more last c) (Collects p.thread (Some k) ∷ [])) none
      (subst (λ k. s ≡ adding (one_wait_more last k) (Collects p.thread (Some token) ∷ [])) same is)
      ∙ ap (λ did. record (rest p c l y) { did = did })
      (four p.did (Makes (Enlist p.thread c l) Done) free looks (Collects p.thread (Some 0) ∷ []))

  from_bed : (p free s : LotStanding V) (c l : ℕ) (became : Released) (token : ℕ) → p.own.locks.asleep ≡ false
      → LetsGo (bed p c l) l became free
      → Awaited (IsLooked rule) free token s → Rested p c l became s
  from_bed p free s c l became token awake went found =
      let gone : LotStanding V = adding (letting_go (bed p c l) l went.value) went.did in
      let waits : Awaited (IsLooked rule) gone token s = subst (λ (q : LotStanding V). Awaited (IsLooked rule) q token s) went.is found in
      let vain = vain_looks waits.looks gone waits.last waits.in_vain in
      record {
        left = went.value;
        lay = went.lay;
        free = went.did;
        looks = vain.0;
        freed = went.freed;
        vain = vain.1;
        is = wakes p c l went.value went.did vain.0 token s awake
            (subst (λ (m : LotStanding V). IsLooked rule m (Some token) s) vain.2 waits.found);
      }

  pub rested : (locks first_sem : ℕ) (p s : LotStanding V) (c l : ℕ) (became : Released) → MayEnlist rule.above locks first_sem p c l
      → Slept {P = LotStanding V} Enlists LetsGo (IsLooked rule) p c l became s → Rested p c l became s
  rested locks first_sem p s c l became may slept = from_bed p slept.free s c l became slept.token (may.idle.0.up lock)
      (subst (λ (q : LotStanding V). LetsGo q l became slept.free) slept.lined slept.went) slept.awaited

  -- with the lock again
  pub has_waited : (p s q : LotStanding V) (c l : ℕ) (became : Released) → Rested p c l became s → IsOwner rule s l q
      → HasWaited rule p c l became q
  has_waited p s q c l became r owner =
      let at : LotStanding V = adding (rest p c l r.left) (slept_trace p.thread c l r.free r.looks) in
      let o : IsOwner rule at l q = subst (λ (m : LotStanding V). IsOwner rule m l q) r.is owner in
      record {
        left = r.left;
        lay = r.lay;
        found = o.value;
        found_ok = o.found;
        did = Makes (Enlist p.thread c l) Done ∷ (r.free ++ (r.looks ++ (Collects p.thread (Some 0) ∷ o.did)));
        trace = record { free = r.free; looks = r.looks; get = o.did; freed = r.freed; vain = r.vain; got = o.got; is = refl };
        is = o.is ∙ ap (λ did. record (waited p c l r.left o.value) { did = did })
            (five p.did (Makes (Enlist p.thread c l) Done) r.free r.looks (Collects p.thread (Some 0)) o.did);
      }
