-- A lock that was let go, or found parked and let go then.
use Rattle.std.proofs.Common.{ℕ, ◌<◌, Bool, true, false, MatchBool, List, [], ◌∷◌, zero, suc, length, get_or, inl, inr}
use Rattle.std.proofs.Common.{refl, sym, ap, subst, ◌∙◌, arith}
use Rattle.std.proofs.lemmas.List.{get_or-set_same, set-set}
use Rattle.lot_events.specs.declared.events.Event.TheVariants.{Free}
use Rattle.lot_events.specs.declared.events.Seen.TheVariants.{Bool as Saw}
use Rattle.lot_rights.specs.declared.views.Access.{Access}
use Rattle.lot_rights.specs.declared.views.Access.TheVariants.{Makes}
use Rattle.lot_words.specs.declared.views.Hold.{Hold}
use Rattle.lot_words.specs.declared.views.Hold.TheVariants.{NotHeld, FoundParked}
use Rattle.lot_words.specs.World.{IsHeld, IsFound}
use Rattle.lot_words.specs.Calls.{letting_go as lock_letting_go, finding_parked as lock_finding_parked}
use Rattle.lot_whole.specs.declared.views.LotPassView.{LotPassView}
use Rattle.lot_whole.specs.Standing.{MayLetGo}
use Rattle.lot_whole.specs.Whole.{rises}
use Rattle.lot_scheme.specs.Standing.{LotStanding, adding, finding_parked, letting_go}
use Rattle.lot_locks.specs.declared.released.Released.{Released}
use Rattle.lot_locks.specs.declared.released.Released.TheVariants.{Quiet}
use Rattle.lot_locks.specs.Standing.{MayFree, MayPass, IsFoundParked, LetsGo, PassesOn}
use Rattle.lot_locks.proofs.Adding.{both_added, up_then}

-- what is held is within
pub held_near : (hs : List Hold) (l : ℕ) → IsHeld (get_or hs l NotHeld) → l < length hs
held_near [] l h = absurd h
held_near (h ∷ hs) zero is = omega arith
held_near (h ∷ hs) (suc l) is = let near = held_near hs l is in omega (arith, near)

module _ {V : Type 0} where
  -- whoever may let a lock go may do so too after it found the lock parked
  may_still : (p : LotPassView V) (l : ℕ) → MayLetGo p l → MayLetGo (record p { locks = lock_finding_parked p.locks l }) l
  may_still p l (inl idle) = inl (
    record {
      up = up_then p (lock_finding_parked p.locks l) p.stand refl idle.0.up;
      aim = idle.0.aim;
      sweeps = idle.0.sweeps;
      seeks = idle.0.seeks;
    },
    idle.1,
  )
  may_still p l (inr bed) = inr (bed.0, bed.1, bed.2)

  -- found parked, and let go then
  let_go_then : (a c : LotStanding V) (l : ℕ) (more : Bool) (became : Released)
      → PassesOn (adding (finding_parked a l) (Makes (Free a.thread l) (Saw false) ∷ [])) l more became c → LetsGo a l became c
  let_go_then a c l more became w =
      let found : Access = Makes (Free a.thread l) (Saw false) in
      record {
        value = w.value;
        lay = w.lay;
        did = found ∷ w.did;
        freed = inr (more, w.did, w.freed, refl);
        is = both_added (letting_go (finding_parked a l) l w.value) c (found ∷ []) w.did w.is
            ∙ ap (λ (hs : List Hold). adding (record a {
              own = record a.own { locks = record (lock_letting_go a.own.locks l w.value) { holds = hs }; stand = rises a.own.stand };
            }) (found ∷ w.did)) (set-set a.own.locks.holds l FoundParked NotHeld);
      }

  pub goes_then : (a r c : LotStanding V) (l : ℕ) (more : Bool) (became : Released) → IsFoundParked a l r → PassesOn r l more became c
      → LetsGo a l became c
  goes_then a r c l more became found went =
      let_go_then a c l more became (subst (λ (z : LotStanding V). PassesOn z l more became c) found went)

  -- let go, or found parked: then it may be passed on, and whatever passes it on then has let it go
  pub freed_or_parked : (n : ℕ) (freed : Bool) (a r : LotStanding V) (l : ℕ) → l < n → MayFree a l
      → MatchBool freed (LetsGo a l Quiet r) (IsFoundParked a l r)
      → MatchBool freed (LetsGo a l Quiet r)
      (MayPass n r l × ((more : Bool) (became : Released) (after : LotStanding V) → PassesOn r l more became after
      → LetsGo a l became after))
  freed_or_parked n true a r l below may went = went
  freed_or_parked n false a r l below may found = (
    subst (λ (z : LotStanding V). MayPass n z l) (sym found) (record {
      below = below;
      may = may_still a.own l may.may;
      holds = subst IsFound (sym (get_or-set_same a.own.locks.holds l FoundParked NotHeld (held_near a.own.locks.holds l may.holds))) tt;
      lies = may.lies;
    }),
    λ more became after went. goes_then a r after l more became found went,
  )
