-- While some thread needs a key, some thread goes on: the levels of needed keys rise from waiting thread to waiting
-- thread, and end.
use Rattle.std.proofs.Common.{◌≡◌, ◌≢◌, ◌⊎◌, ◌+◌, ◌<◌, ◌≤◌, ℕ, zero, suc, Bool}
use Rattle.std.proofs.Common.{true, false, List, [], ◌∷◌, refl, subst, ap}
use Rattle.std.proofs.Common.{arith, inl, inr}
use Rattle.std.specs.Prelude.{nat_eq}
use Rattle.std.specs.List.{Contains, list_any}
use Rattle.std.proofs.Math.Nat.{eq-zero-or-pos}
use Rattle.std.proofs.lemmas.Bool.{eqb-true, cases_eq}
use Rattle.std.proofs.lemmas.Map.Views.{Contains-from_any}
use Rattle.lot_events.specs.declared.events.Point.{Point}
use Rattle.lot_events.specs.declared.events.Point.TheVariants.{Calm, Wants, Bed, Rest, Sweeps, Seeks}
use Rattle.lot_core.specs.Sums.{total, bit}
use Rattle.lot_core.specs.Model.{StateView}
use Rattle.lot_core.specs.Steps.{IsThread, IsTrying, IsSeeking}
use Rattle.lot_core.specs.Parts.{semaphore_part}
use Rattle.lot_core.specs.Sound.{IsSound, is_seeking}
use Rattle.lot_core.specs.WellFormed.{MayStand, IsWellFormed}
use Rattle.lot_core.proofs.Put.{by_bit}
use Rattle.lot_core.proofs.Members.{in_none}
use Rattle.lot_core.proofs.Permits.{found, seeking_is}
use Rattle.lot_core.proofs.Following.{sought_is}
use Rattle.lot_order.specs.Order.{IsOrdered, key_count, Rises}
use Rattle.lot_order.specs.Waiting.{Has, Needs, MayGet, GoesOn, AwaitsNotice, SeeksInVain, ComesTo, AllComeTo}
use Rattle.lot_order.specs.Waiting.{SomeoneGoesOn, IsOrderly}
use Rattle.lot_order.proofs.Circles.{ordered_at, needed, no_circle}

-- who stands in a line, or doesn't
pub in_line : (line : List ℕ) (t : ℕ) → Contains line t ⊎ (Contains line t → ⊥)
in_line line t =
    by_bit (λ b. list_any (nat_eq t) line ≡ b → Contains line t ⊎ (Contains line t → ⊥)) (list_any (nat_eq t) line)
    (λ _ is. inl (Contains-from_any (λ x y e. eqb-true x y e) t line is))
    (λ _ is. inr (λ inside. let it : list_any (nat_eq t) line ≡ true = found t line inside in absurd (cc)))
    refl

-- a sum that is not 0 has a part that is not
pub some_part : (n : ℕ) (f : ℕ → ℕ) → 1 ≤ total n f → (t : ℕ) × (1 ≤ f t)
some_part zero f some = absurd (omega (arith, some))
some_part (suc n) f some = elim (eq-zero-or-pos (f n)) [
  | inl none ↦ some_part n f (omega (arith, some, none))
  | inr more ↦ (n, omega (arith, more))
]

pub part_within : (n : ℕ) (f : ℕ → ℕ) (k : ℕ) → k < n → f k ≤ total n f
part_within zero f k within = absurd (omega (arith, within))
part_within (suc n) f k within = elim (cases_eq k n) [
  | inl here ↦ let is : f k ≡ f n = ap f here in omega (arith, is)
  | inr else ↦ omega (arith, part_within n f k (omega (arith, within, else)))
]

pub bit_set : (b : Bool) → 1 ≤ bit b → b ≡ true
bit_set true some = refl
bit_set false some = absurd (omega (arith, some))

-- a line that someone is in has a first
some_in : (line : List ℕ) (t : ℕ) → Contains line t → line ≢ []
some_in line t inside none = in_none t (subst (λ xs. Contains xs t) none inside)

-- where permits are left, somebody seeks them who is up
seeker : (s : StateView) (t k : ℕ) → IsSound s → s.point t ≡ Seeks k → 1 ≤ s.sems.left k → (u : ℕ) × IsSeeking s u k
seeker s t k sound seeks some = elim (in_line (s.sems.line k) t) [
  | inr up ↦ (t, (seeks, up))
  | inl sleeps ↦
      let sought = sound.permits_are_sought k (some_in (s.sems.line k) t sleeps) in
      let one = some_part s.threads (λ v. bit (is_seeking ((semaphore_part s).seeks v) k (s.sems.line k) v)) (omega
      (arith, sought, some)) in
      let is = seeking_is ((semaphore_part s).seeks one.0) k (s.sems.line k) one.0 (bit_set _ one.1) in
      (one.0, (sought_is (s.point one.0) k is.0, is.1))
]

-- the thread that stands so may: its next event names only what there is
may_get : (s : StateView) (t k : ℕ) → IsWellFormed s → IsTrying s t k → s.locks.held k ≡ false → MayGet s t k
may_get s t k formed (inl (wants, up)) free =
    let there = subst (MayStand s t) wants (formed.points t) in
    inl (inl (wants, up), (there.0, there.1, inr (inl (wants, up))), free)
may_get s t k formed (inr (c, rests, up)) free =
    let there = subst (MayStand s t) rests (formed.points t) in
    inl (inr (c, rests, up), (there.0, there.2, inr (inr (c, rests, up))), free)

may_take : (s : StateView) (t k : ℕ) → IsWellFormed s → IsSeeking s t k → 1 ≤ s.sems.left k → MayGet s t k
may_take s t k formed seeking some =
    let there = subst (MayStand s t) seeking.0 (formed.points t) in inr (seeking, (there.0, there.1, inr seeking), some)

-- who has a key is a thread
owner_thread : (s : StateView) (u k : ℕ) → IsWellFormed s → Has s u k → IsThread s u
owner_thread s u k formed (inl lock) = (formed.owners k u lock).0
owner_thread s u k formed (inr permit) = (formed.takers k u permit).0

module _ (above : ℕ → ℕ → Type 0) (s : StateView) (sound : IsSound s) (formed : IsWellFormed s) (ordered : IsOrdered above s) where
  -- what may be found with a key that some thread needs
  abbrev pub Found : ℕ → ℕ → Type 0
  Found u k = GoesOn s u k ⊎ AwaitsNotice above s u k ⊎ SeeksInVain s u k

  -- that is found with k, or who has k waits in turn for a key that lies above
  abbrev Next : ℕ → Type 0
  Next k = ((u : ℕ) × Found u k) ⊎ ((u j : ℕ) × Has s u k × Needs s u j × above k j)

  has_it : (u k : ℕ) (p : Point) → Has s u k → s.point u ≡ p → Next k
  has_it u k Calm has at = inl (u, inl (inr (has, (owner_thread s u k formed has, inl at))))
  has_it u k (Bed c l) has at = inl (u, inl (inr (has, (owner_thread s u k formed has, inr (inr (c, l, at))))))
  has_it u k (Sweeps c) has at = inl (u, inl (inr (has, (owner_thread s u k formed has, inr (inl (c, at))))))
  has_it u k (Wants l) has at =
      let o = ordered_at above s u (Wants l) ordered at in inr (u, l, has, inl at, o.1 k has)
  has_it u k (Seeks j) has at =
      let o = ordered_at above s u (Seeks j) ordered at in inr (u, j, has, inr (inl at), o.1 k has)
  has_it u k (Rest c l) has at =
      let o = ordered_at above s u (Rest c l) ordered at in
      elim (in_line (s.conds.line c) u) [
        | inl sleeps ↦ inl (u, inr (inl (has, (c, l, at, sleeps, o.2 k has))))
        | inr up ↦ inr (u, l, has, inr (inr (c, at, up)), o.1 k has)
      ]

  -- who is trying to get a lock may get it, or it has an owner
  tries : (t k : ℕ) → IsTrying s t k → Next k
  tries t k trying =
      by_bit (λ b. s.locks.held k ≡ b → Next k) (s.locks.held k)
      (λ _ held. let owner = (sound.one_owner.some k).0 held in has_it owner.0 k (s.point owner.0) (inl owner.1) refl)
      (λ _ free. inl (t, inl (inl (may_get s t k formed trying free))))
      refl

  next_wanted : (t k : ℕ) → s.point t ≡ Wants k → Next k
  next_wanted t k wants =
      by_bit (λ b. s.locks.held k ≡ b → Next k) (s.locks.held k)
      (λ _ held. let owner = (sound.one_owner.some k).0 held in has_it owner.0 k (s.point owner.0) (inl owner.1) refl)
      (λ _ free. elim (in_line (s.locks.line k) t) [
        | inl sleeps ↦
            let other = sound.someone_is_trying k free (some_in (s.locks.line k) t sleeps) in tries other.0 k other.2
        | inr up ↦ tries t k (inl (wants, up))
      ])
      refl

  -- where none is left and the semaphore was opened with some, somebody has one
  next_out : (t k : ℕ) → s.point t ≡ Seeks k → s.sems.left k ≡ 0 → Next k
  next_out t k seeks none = elim (eq-zero-or-pos (s.permits k)) [
    | inl never ↦ inl (t, inr (inr (seeks, never)))
    | inr opened ↦
        let conserved = sound.permits_conserved k in
        let holder = some_part s.threads (s.sems.out k) (omega (arith, conserved, opened, none)) in
        has_it holder.0 k (s.point holder.0) (inr holder.1) refl
  ]

  next_sought : (t k : ℕ) → s.point t ≡ Seeks k → Next k
  next_sought t k seeks = elim (eq-zero-or-pos (s.sems.left k)) [
    | inr some ↦
        let left : 1 ≤ s.sems.left k = omega (arith, some) in
        let who = seeker s t k sound seeks left in
        inl (who.0, inl (inl (may_take s who.0 k formed who.1 left)))
    | inl none ↦ next_out t k seeks none
  ]

  next : (t k : ℕ) → Needs s t k → Next k
  next t k (inl wants) = next_wanted t k wants
  next t k (inr (inl seeks)) = next_sought t k seeks
  next t k (inr (inr rests)) = tries t k (inr rests)

  module _ (level : ℕ → ℕ) (rises : Rises above level) where
    -- no level of a key is above the sum of all
    ends : (left t k : ℕ) → Needs s t k → total (key_count s) level < level k + left
        → (others : List ℕ) × ((u j : ℕ) × ComesTo s k others j × Found u j)
    ends zero t k needs near = absurd (omega (arith, near, part_within (key_count s) level k (needed above s t k ordered needs).0))
    ends (suc left) t k needs near = elim (next t k needs) [
      | inl found ↦ ([], (found.0, k, refl, found.1))
      | inr (v, next_key, has, needs_it, over) ↦
          let higher = rises k next_key over in
          let further = ends left v next_key needs_it (omega (arith, near, higher)) in
          (v ∷ further.0, (further.1.0, further.1.1, (has, (next_key, needs_it, further.1.2)), further.1.3))
    ]

    pub goes_on : SomeoneGoesOn above s
    goes_on t k needs = ends (suc (total (key_count s) level)) t k needs (omega arith)

    pub nothing_kept : ((t c l j : ℕ) → s.point t ≡ Rest c l → above j c → ⊥) → AllComeTo s (λ u k. GoesOn s u k ⊎ SeeksInVain s u k)
    nothing_kept lowest t k needs =
        let found = goes_on t k needs in (
          found.0,
          (
            found.1.0,
            found.1.1,
            found.1.2,
            elim found.1.3 [
              | inl goes ↦ inl goes
              | inr (inl (has, (c, l, at, sleeps, below))) ↦ absurd (lowest found.1.0 c l found.1.1 at below)
              | inr (inr vain) ↦ inr vain
            ],
          ),
        )

pub orderly : (above : ℕ → ℕ → Type 0) (s : StateView) → IsSound s → IsWellFormed s → IsOrdered above s → IsOrderly above s
orderly above s sound formed ordered = record {
  ordered = ordered;
  no_circle = λ level rises. no_circle above level rises s ordered;
  goes_on = λ level rises. goes_on above s sound formed ordered level rises;
}
