-- A lock that was got, worked on and let go.
use Rattle.std.proofs.Common.{◌≡◌, ℕ, zero, suc, ◌<◌, Bool, true, false, List, [], ◌∷◌, ◌++◌, length, map, get_or, set, refl, sym, ap}
use Rattle.std.proofs.Common.{subst, ◌∙◌, append_assoc, arith}
use Rattle.std.proofs.lemmas.List.{get_or-map, length-map, map-set, length-set, set-set}
use mathlib.Core.Option.{some}
use lib.ListN.{get_elem?}
use Rattle.lot_words.specs.CallersRule.{CallersRule}
use Rattle.lot_locks.specs.declared.released.Released.{Released}
use Rattle.lot_scheme.specs.Traces.{GetTrace}
use Rattle.lot_locks.specs.Released.{IsFitting, FreeTrace}
use Rattle.lot_sync.specs.Lot.{LotView, PassView, ◌≈◌, HeldView, Owns, HasSeen, HasShape, owning, letting_go}
use Rattle.lot_sync.specs.Traces.{Adds}
use Rattle.lot_sync.specs.Values.{Gets}
use Rattle.lot_calls.specs.Traces.{VisitTrace}
use Rattle.lot_words.specs.Values.{MayBecome}
use Rattle.lot_calls.specs.Visits.{own_parts, Visits, Finds}

-- what was set and cleared again, and was clear before, is as before
pub set_back : (bs : List Bool) (k : ℕ) → ¬ (get_or bs k false ≡ true) → set (set bs k true) k false ≡ bs
set_back [] k clear = refl
set_back (true ∷ bs) zero clear = absurd (clear refl)
set_back (false ∷ bs) zero clear = refl
set_back (b ∷ bs) (suc k) clear = ap (λ cs. b ∷ cs) (set_back bs k clear)

-- where a list has a place, something lies there
pub lies_there : {A : Type 0} (xs : List A) (k : ℕ) (d : A) → k < length xs → get_elem? xs k ≡ some (get_or xs k d)
lies_there [] k d near = absurd (omega (arith, near))
lies_there (x ∷ xs) zero d near = refl
lies_there (x ∷ xs) (suc k) d near = lies_there xs k d (omega (arith, near))

module _ {V Part : Type 0} (rule : CallersRule V Part) where
  -- the pass's own part of a value that was found there is that of the value
  pub own_found : (p : PassView V) (key : ℕ) (found : V)
      → ((u : V) → HasSeen p key u → rule.part p.thread u ≡ rule.part p.thread found) → key < length p.seen
      → (d : Part) → get_or (own_parts rule p) key d ≡ rule.part p.thread found
  own_found p key found mine near d =
      get_or-map (rule.part p.thread) p.seen key found d near ∙ mine (get_or p.seen key found) (lies_there p.seen key found near)

  pub finds : (p : PassView V) (key : ℕ) (found : V) → rule.keeps key found → ((u : V) → HasSeen p key u → rule.grows u found)
      → ((u : V) → HasSeen p key u → rule.part p.thread u ≡ rule.part p.thread found) → key < length p.seen → Finds rule p key found
  finds p key found kept grown mine near = record {
    kept = kept;
    grown = grown;
    mine = mine;
    own_near = omega (arith, near, length-map p.seen (rule.part p.thread));
    own_was = own_found p key found mine near;
  }

  -- the owner found this value there
  pub finds_got : (before got : PassView V) (key : ℕ) (held : HeldView V) → Gets rule before key held got
      → (lot : LotView) → key < lot.locks → HasShape lot got → Finds rule before key held.value
  finds_got before got key held gets lot is_lock shape = finds before key held.value gets.kept gets.grown gets.mine (omega (
    arith,
    is_lock,
    shape.seen,
    ap (λ (p : PassView V). length p.seen) gets.after_is,
    length-set before.seen key held.value,
  ))

  -- the owner found the value, left another that it may become, and let the lock go
  pub visits : (before got after : PassView V) (key : ℕ) (held : HeldView V) (found left : V) → ¬ Owns before key
      → Gets rule before key held got
      → found ≡ held.value → MayBecome rule key before.thread found left → after ≈ letting_go got held.key left
      → HasSeen after held.key left
      → (lot : LotView) → key < lot.locks → HasShape lot after → Visits rule before key found left after
  visits before got after key held found left free gets same may went seen lot is_lock shape =
      subst (λ x. Visits rule before key x left after) (sym same) record {
        kept = gets.kept;
        grown = gets.grown;
        mine = gets.mine;
        may = subst (λ x. MayBecome rule key before.thread x left) same may;
        after_is = after_is;
        same_owns = ap (λ (p : PassView V). p.owns) after_is ∙ set_back before.owns key free;
        seen = subst (λ k. HasSeen after k left) gets.key_is seen;
        own_near = omega (arith, near, length-map before.seen (rule.part before.thread));
        own_was = own_found before key held.value gets.mine near;
        own_is =
            ap (λ (p : PassView V). own_parts rule p) after_is
            ∙ (ap (map (rule.part before.thread)) (set-set before.seen key held.value left)
            ∙ map-set (rule.part before.thread) before.seen key left);
      }
    where
      after_is : after ≈ letting_go (owning before key held.value) key left
      after_is =
          subst (λ k. after ≈ letting_go got k left) gets.key_is went
          ∙ ap (λ (p : PassView V). record (letting_go p key left) { made = after.made }) gets.after_is

      near : key < length before.seen
      near = omega (
        arith,
        is_lock,
        shape.seen,
        ap (λ (p : PassView V). length p.seen) after_is,
        length-set (set before.seen key held.value) key left,
        length-set before.seen key held.value,
      )

-- which accesses it made
pub visit_made : {V : Type 0} (before got after : PassView V) (key k now : ℕ) (became : Released) → k ≡ key → got.thread ≡ before.thread
    → Adds before.made (GetTrace before.thread key) got.made
    → IsFitting became false now → Adds got.made (FreeTrace got.thread k became) after.made
    → Adds before.made (VisitTrace before.thread key now) after.made
visit_made before got after key k now became same thread (get, got_is, trace) fits (free, after_is, freed) = (
  get ++ free,
  after_is ∙ (ap (λ ds. ds ++ free) got_is ∙ append_assoc before.made get free),
  record {
    get = get;
    free = free;
    became = became;
    fits = fits;
    got = trace;
    freed = subst (λ l. FreeTrace before.thread l became free) same (subst (λ t. FreeTrace t k became free) thread freed);
    is = refl;
  },
)
