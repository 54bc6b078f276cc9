-- What each kind of event is to the semaphore part of the model: a step of lot_core's.
use Rattle.std.proofs.Common.{◌≡◌, ◌≢◌, ℕ, ◌+◌, ◌-◌, ◌<◌, ◌≤◌, ◌&&◌, ◌⊎◌, ◌==◌, Bool, true, false, not, List, [], ◌∷◌, ◌++◌, refl, sym, ap}
use Rattle.std.proofs.Common.{subst, arith, ◌∙◌, eq-eqb, ne_eqb, Option, Some, None}
use Rattle.std.specs.Prelude.{if◌then◌else◌}
use Rattle.lot_core.specs.Model.{put}
use Rattle.lot_core.specs.Steps.{SaysMore, first, none_left, permit_given, with_sem_line, seeker_woken}
use Rattle.lot_core.specs.Parts.{SemaphorePart, PartSeeks}
use Rattle.lot_events.specs.declared.events.Event.TheVariants.{SemTake, SemMark, SemPark, SemFree, SemPass, SemClear}
use Rattle.lot_events.specs.declared.events.Seen.TheVariants.{Bool as Saw, Done, Sleeper}
use Rattle.lot_core.proofs.Put.{put_again}
use Rattle.lot_sems.specs.World.{Numbers, IsAmong}
use Rattle.lot_sems.specs.Rule.{IsStep}

-- the part after an event of t at k: what it then has of k, and what t seeks and has
abbrev pub turned : SemaphorePart → ℕ → ℕ → ℕ → Bool → List ℕ → ℕ → Option ℕ → SemaphorePart
turned a t k l b xs o s = record {
  sems =
      record {
        left = put a.sems.left k l;
        parked = put a.sems.parked k b;
        line = put a.sems.line k xs;
        out = put a.sems.out k (put (a.sems.out k) t o);
      };
  seeks = put a.seeks t s;
}

pub some_left : (l : ℕ) → l ≢ 0 → (l == 0) ≡ false
some_left l ne = ne_eqb l 0 ne

pub nothing_left : (l : ℕ) → l ≡ 0 → (l == 0) ≡ true
nothing_left l e = eq-eqb l 0 e

module _ (a : SemaphorePart) where
  same_left : (k : ℕ) → put a.sems.left k (a.sems.left k) ≡ a.sems.left
  same_left k = put_again a.sems.left k

  same_parked : (k : ℕ) → put a.sems.parked k (a.sems.parked k) ≡ a.sems.parked
  same_parked k = put_again a.sems.parked k

  pub same_line : (k : ℕ) → put a.sems.line k (a.sems.line k) ≡ a.sems.line
  same_line k = put_again a.sems.line k

  same_out : (k t : ℕ) → put a.sems.out k (put (a.sems.out k) t (a.sems.out k t)) ≡ a.sems.out
  same_out k t = ap (put a.sems.out k) (put_again (a.sems.out k) t) ∙ put_again a.sems.out k

  pub same_seeks : (t : ℕ) → put a.seeks t (a.seeks t) ≡ a.seeks
  same_seeks t = put_again a.seeks t

  part_is : (t k l : ℕ) (b : Bool) (xs : List ℕ) (o : ℕ) (s : Option ℕ) (left : ℕ → ℕ) (parked : ℕ → Bool) (line : ℕ → List ℕ)
      (out : ℕ → ℕ → ℕ) (seeks : ℕ → Option ℕ)
      → put a.sems.left k l ≡ left → put a.sems.parked k b ≡ parked → put a.sems.line k xs ≡ line
      → put a.sems.out k (put (a.sems.out k) t o) ≡ out → put a.seeks t s ≡ seeks
      → turned a t k l b xs o s ≡ record { sems = record { left = left; parked = parked; line = line; out = out }; seeks = seeks }
  part_is t k l b xs o s left parked line out seeks e f g h d =
      λ i. record { sems = record { left = e i; parked = f i; line = g i; out = h i }; seeks = d i }

  -- nothing but the parked bit changes
  bit_turned : (t k : ℕ) (b : Bool) → turned a t k (a.sems.left k) b (a.sems.line k) (a.sems.out k t) (a.seeks t)
      ≡ record a { sems = record a.sems { parked = put a.sems.parked k b } }
  bit_turned t k b =
      part_is t k (a.sems.left k) b (a.sems.line k) (a.sems.out k t) (a.seeks t) a.sems.left (put a.sems.parked k b) a.sems.line a.sems.out
      a.seeks (same_left k) refl (same_line k) (same_out k t) (same_seeks t)

  module _ (size : Numbers) (t : ℕ) (near : t < size.threads) (k : ℕ) (among : IsAmong size k) where
    module _ (may : (a.seeks t ≡ None) ⊎ PartSeeks a t k) where
      -- a permit is taken
      pub row_got : a.sems.left k ≢ 0 → IsStep size a (SemTake t k) (Saw true)
          (turned a t k (a.sems.left k - 1) (a.sems.parked k) (a.sems.line k) (a.sems.out k t + 1) None)
      row_got some =
          let e : none_left a.sems k ≡ false = some_left (a.sems.left k) some in
          let z = a.sems in (
            (near, among, may),
            ap (λ b. Saw (not b)) (sym e),
            part_is t k (z.left k - 1) (z.parked k) (z.line k) (z.out k t + 1) None (put z.left k (z.left k - 1)) z.parked z.line
                (put z.out k (put (z.out k) t (z.out k t + 1))) (put a.seeks t None)
                refl (same_parked k) (same_line k) refl refl
                ∙ ap (λ b. record {
                  sems =
                      if b then z else record z { left = put z.left k (z.left k - 1); out = put z.out k (put (z.out k) t (z.out k t + 1)) };
                  seeks = put a.seeks t (if b then Some k else None);
                }) (sym e),
          )

      -- none is left
      pub row_empty : a.sems.left k ≡ 0 → IsStep size a (SemTake t k) (Saw false)
          (turned a t k (a.sems.left k) (a.sems.parked k) (a.sems.line k) (a.sems.out k t) (Some k))
      row_empty none =
          let e : none_left a.sems k ≡ true = nothing_left (a.sems.left k) none in
          let z = a.sems in (
            (near, among, may),
            ap (λ b. Saw (not b)) (sym e),
            part_is t k (z.left k) (z.parked k) (z.line k) (z.out k t) (Some k) z.left z.parked z.line z.out (put a.seeks t (Some k))
                (same_left k) (same_parked k) (same_line k) (same_out k t) refl
                ∙ ap (λ b. record {
                  sems =
                      if b then z else record z { left = put z.left k (z.left k - 1); out = put z.out k (put (z.out k) t (z.out k t + 1)) };
                  seeks = put a.seeks t (if b then Some k else None);
                }) (sym e),
          )

    module _ (seeks : PartSeeks a t k) where
      pub row_mark : a.sems.left k ≡ 0 → IsStep size a (SemMark t k) Done
          (turned a t k (a.sems.left k) true (a.sems.line k) (a.sems.out k t) (a.seeks t))
      row_mark none = ((near, among, seeks, none), refl, bit_turned t k true)

      pub row_queued : (none_left a.sems k && a.sems.parked k) ≡ true → IsStep size a (SemPark t k) (Saw true)
          (turned a t k (a.sems.left k) (a.sems.parked k) (a.sems.line k ++ t ∷ []) (a.sems.out k t) (a.seeks t))
      row_queued e =
          let z = a.sems in (
            (near, among, seeks),
            ap Saw (sym e),
            part_is t k (z.left k) (z.parked k) (z.line k ++ t ∷ []) (z.out k t) (a.seeks t) z.left z.parked
                (put z.line k (z.line k ++ t ∷ [])) z.out a.seeks
                (same_left k) (same_parked k) refl (same_out k t) (same_seeks t)
                ∙ ap (λ b. record a { sems = if b then with_sem_line z k (z.line k ++ t ∷ []) else z }) (sym e),
          )

      pub row_not_queued : (none_left a.sems k && a.sems.parked k) ≡ false → IsStep size a (SemPark t k) (Saw false) a
      row_not_queued e = (
        (near, among, seeks),
        ap Saw (sym e),
        ap
            (λ b. record a { sems = if b then with_sem_line a.sems k (a.sems.line k ++ t ∷ []) else a.sems }) (sym e),
      )

    module _ (calm : a.seeks t ≡ None) where
      pub row_free : 1 ≤ a.sems.out k t → a.sems.parked k ≡ false → IsStep size a (SemFree t k) (Saw true)
          (turned a t k (a.sems.left k + 1) (a.sems.parked k) (a.sems.line k) (a.sems.out k t - 1) (a.seeks t))
      row_free some e =
          let z = a.sems in (
            (near, among, calm, some),
            ap (λ b. Saw (not b)) (sym e),
            part_is t k (z.left k + 1) (z.parked k) (z.line k) (z.out k t - 1) (a.seeks t) (put z.left k (z.left k + 1)) z.parked z.line
                (put z.out k (put (z.out k) t (z.out k t - 1))) a.seeks
                refl (same_parked k) (same_line k) refl (same_seeks t)
                ∙ ap (λ b. record a { sems = if b then z else permit_given z t k }) (sym e),
          )

      -- nobody is in the line
      pub row_pass_none : (more : Bool) → 1 ≤ a.sems.out k t → a.sems.line k ≡ []
          → IsStep size a (SemPass t k more) (Sleeper None)
          (turned a t k (a.sems.left k + 1) (a.sems.parked k) (a.sems.line k) (a.sems.out k t - 1) (a.seeks t))
      row_pass_none more some e =
          let z = a.sems in (
            (near, among, calm, some, (subst (λ xs. SaysMore xs more) (sym e) (λ h. absurd (omega arith)))),
            ap (λ xs. Sleeper (first xs)) (sym e),
            part_is t k (z.left k + 1) (z.parked k) (z.line k) (z.out k t - 1) (a.seeks t) (put z.left k (z.left k + 1)) z.parked z.line
                (put z.out k (put (z.out k) t (z.out k t - 1))) a.seeks
                refl (same_parked k) (same_line k) refl (same_seeks t)
                ∙ ap (λ xs. record a { sems = seeker_woken (permit_given z t k) k more xs }) (sym e),
          )

      pub row_pass : (more : Bool) (u : ℕ) (rest : List ℕ) → 1 ≤ a.sems.out k t → a.sems.line k ≡ u ∷ rest → SaysMore (a.sems.line k) more
          → IsStep size a (SemPass t k more) (Sleeper (Some u))
          (turned a t k (a.sems.left k + 1) more rest (a.sems.out k t - 1) (a.seeks t))
      row_pass more u rest some e says =
          let z = a.sems in (
            (near, among, calm, some, says),
            ap (λ xs. Sleeper (first xs)) (sym e),
            part_is t k (z.left k + 1) more rest (z.out k t - 1) (a.seeks t) (put z.left k (z.left k + 1))
                (put z.parked k more) (put z.line k rest)
                (put z.out k (put (z.out k) t (z.out k t - 1))) a.seeks
                refl refl refl refl (same_seeks t)
                ∙ ap (λ xs. record a { sems = seeker_woken (permit_given z t k) k more xs }) (sym e),
          )

      pub row_clear : a.sems.line k ≡ [] → IsStep size a (SemClear t k) Done
          (turned a t k (a.sems.left k) false (a.sems.line k) (a.sems.out k t) (a.seeks t))
      row_clear e = ((near, among, calm, e), refl, bit_turned t k false)
