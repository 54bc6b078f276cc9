-- What each event keeps of the semaphores.
use Rattle.std.proofs.Common.{◌≡◌, ◌≢◌, ◌⊎◌, ◌+◌, ◌-◌, ◌<◌, ◌≤◌, ◌++◌, ℕ, Bool, true, false, not, List, [], ◌∷◌, Option, Some, None, refl}
use Rattle.std.proofs.Common.{subst, sym, ap, ◌∙◌, arith, inl, inr}
use Rattle.std.specs.Prelude.{◌==◌, ◌&&◌, ◌||◌, if◌then◌else◌, nat_eq}
use Rattle.std.specs.List.{Contains, list_any}
use Rattle.std.proofs.lemmas.Bool.{eqb-true, eqb-false, eq-eqb, ne_eqb, and_parts, and_left, false_from_ne_true}
use Rattle.std.proofs.lemmas.Cmp.{nat_eq_equiv}
use Rattle.std.proofs.lemmas.Map.Views.{Contains-from_any, list_any-from_Contains}
use Rattle.lot_events.specs.declared.events.Event.{Event}
use Rattle.lot_events.specs.declared.events.Event.TheVariants.{SemTake, SemMark, SemPark, SemFree, SemPass, SemClear}
use Rattle.lot_events.specs.declared.events.Seen.{Seen}
use Rattle.lot_core.specs.Sums.{total, bit, count_below}
use Rattle.lot_core.specs.Model.{put, none_taken}
use Rattle.lot_core.specs.Steps.{SaysMore, none_left, permit_given, seeker_woken}
use Rattle.lot_core.specs.Sound.{IsOnce, is_seeking, IsSoundSemaphorePart}
use Rattle.lot_core.specs.Parts.{SemaphorePart, PartSeeks, SemaphoreAllowed, semaphore_part_after, SemaphoreStep}
use Rattle.lot_core.proofs.Sums.{total_same, total_but, total_none, bit_le}
use Rattle.lot_core.proofs.Put.{by_bit, by_line, at_all, put_same, put_other}
use Rattle.lot_core.proofs.Members.{in_tail, in_head, in_none, two_from, once_tail, head_left, once_push, once_none}
use Rattle.lot_core.proofs.Members.{each_push, unmarked_none}

-- who stands in a line is found there
pub found : (t : ℕ) (line : List ℕ) → Contains line t → list_any (nat_eq t) line ≡ true
found t line inside = list_any-from_Contains nat_eq_equiv t line inside

pub not_found : (t : ℕ) (line : List ℕ) → (Contains line t → ⊥) → list_any (nat_eq t) line ≡ false
not_found t line out =
    false_from_ne_true (list_any (nat_eq t) line) (λ is. out (Contains-from_any (λ x y e. eqb-true x y e) t line is))

-- a thread that seeks no permit of k
pub seeks_another : (o : Option ℕ) (k : ℕ) (line : List ℕ) (t : ℕ) → o ≢ Some k → is_seeking o k line t ≡ false
seeks_another None k line t ne = refl
seeks_another (Some j) k line t ne = and_left (j == k) _ (ne_eqb j k (λ e. ne (ap Some e)))

-- one that does, outside the line and in it
pub seeks_outside : (o : Option ℕ) (k : ℕ) (line : List ℕ) (t : ℕ) → o ≡ Some k → (Contains line t → ⊥) → is_seeking o k line t ≡ true
seeks_outside o k line t is out =
    ap (λ p. is_seeking p k line t) is
    ∙ ap (λ b. b && not (list_any (nat_eq t) line)) (eq-eqb k k refl) ∙ ap not (not_found t line out)

pub seeks_inside : (o : Option ℕ) (k : ℕ) (line : List ℕ) (t : ℕ) → o ≡ Some k → Contains line t → is_seeking o k line t ≡ false
seeks_inside o k line t is inside =
    ap (λ p. is_seeking p k line t) is
    ∙ ap (λ b. b && not (list_any (nat_eq t) line)) (eq-eqb k k refl) ∙ ap not (found t line inside)

-- the test tells who is seeking
pub seeking_is : (o : Option ℕ) (k : ℕ) (line : List ℕ) (t : ℕ) → is_seeking o k line t ≡ true → (o ≡ Some k) × (Contains line t → ⊥)
seeking_is None k line t is = absurd (cc)
seeking_is (Some j) k line t is =
    let parts = and_parts (j == k) (not (list_any (nat_eq t) line)) is in (
      ap Some (eqb-true j k parts.0),
      (λ inside. let in_it : list_any (nat_eq t) line ≡ true = found t line inside in
          let both : not true ≡ true = ap not (sym in_it) ∙ parts.1 in absurd (cc)),
    )

-- who is not the first of a line is in it exactly where it is behind the first
pub seeks_behind : (o : Option ℕ) (k u : ℕ) (rest : List ℕ) (w : ℕ) → w ≢ u → is_seeking o k (u ∷ rest) w ≡ is_seeking o k rest w
seeks_behind None k u rest w ne = refl
seeks_behind (Some j) k u rest w ne = ap (λ b. (j == k) && not (b || list_any (nat_eq w) rest)) (ne_eqb w u ne)

-- of semaphore k, by its values: with n threads and this opening number, what holds of it whatever run led there
pub record IsKeptSemaphore (n opening k left : ℕ) (parked : Bool) (line : List ℕ) (out : ℕ → ℕ) (seeks : ℕ → Option ℕ) : Type 0 where
  pub conserved : left + total n out ≡ opening
  pub marked : (t : ℕ) → Contains line t → parked ≡ true
  pub sought : line ≢ [] → left ≤ count_below n (λ t. is_seeking (seeks t) k line t)
  pub once : IsOnce line
  pub named : (t : ℕ) → Contains line t → (t < n) × (seeks t ≡ Some k)

conserved_given : (n opening left : ℕ) (out : ℕ → ℕ) (t : ℕ) → left + total n out ≡ opening → t < n → 1 ≤ out t →
    (left + 1) + total n (put out t (out t - 1)) ≡ opening
conserved_given n opening left out t conserved near some =
    let one : total n out + put out t (out t - 1) t ≡ total n (put out t (out t - 1)) + out t =
    total_but n out (put out t (out t - 1)) t near (λ u ne. sym (put_other out t (out t - 1) u ne)) in
    omega (arith, put_same out t (out t - 1))

module _ {n opening k left : ℕ} {parked : Bool} {line : List ℕ} {out : ℕ → ℕ} {seeks : ℕ → Option ℕ}
    (h : IsKeptSemaphore n opening k left parked line out seeks) where
  -- the same with another thing for t to seek, where neither is k
  beside : (t : ℕ) (o : Option ℕ) → seeks t ≢ Some k → o ≢ Some k → IsKeptSemaphore n opening k left parked line out (put seeks t o)
  beside t o before now = record {
    conserved = h.conserved;
    marked = h.marked;
    sought = λ some.
        let same : count_below n (λ u. is_seeking (seeks u) k line u) ≡ count_below n (λ u. is_seeking (put seeks t o u) k line u) =
        total_same n _ _ (λ u near. ap bit (at_all (λ u b. is_seeking (seeks u) k line u ≡ is_seeking (if b then o else seeks u) k line u) t
        (seeks_another (seeks t) k line t before ∙ sym (seeks_another o k line t now)) (λ u ne. refl) u)) in
        omega (arith, h.sought some, same);
    once = h.once;
    named = λ u inside.
        let is : (u < n) × (seeks u ≡ Some k) = h.named u inside in
        (is.0, put_other seeks t o u (λ e. before (ap seeks (sym e) ∙ is.1)) ∙ is.1);
  }

  -- t, which may be seeking a permit of k, is not in k's line
  taker_outside : (t : ℕ) → (seeks t ≡ None) ⊎ ((seeks t ≡ Some k) × (Contains line t → ⊥)) → Contains line t → ⊥
  taker_outside t (inl none) inside = let is = (h.named t inside).1 in absurd (cc)
  taker_outside t (inr x) inside = x.1 inside

  -- t takes one of the permits that are left
  takes : (t : ℕ) → t < n → left ≢ 0 → (seeks t ≡ None) ⊎ ((seeks t ≡ Some k) × (Contains line t → ⊥)) →
      IsKeptSemaphore n opening k (left - 1) parked line (put out t (out t + 1)) (put seeks t None)
  takes t near some may = record {
    conserved =
        let one : total n out + put out t (out t + 1) t ≡ total n (put out t (out t + 1)) + out t =
        total_but n out (put out t (out t + 1)) t near (λ u ne. sym (put_other out t (out t + 1) u ne)) in
        omega (arith, h.conserved, one, put_same out t (out t + 1));
    marked = h.marked;
    sought = λ queued.
        let f : ℕ → ℕ = λ u. bit (is_seeking (seeks u) k line u) in
        let g : ℕ → ℕ = λ u. bit (is_seeking (put seeks t None u) k line u) in
        let one : total n f + g t ≡ total n g + f t =
        total_but n f g t near (λ u ne. ap (λ o. bit (is_seeking o k line u)) (sym (put_other seeks t None u ne))) in
        let gone : g t ≡ 0 = ap (λ o. bit (is_seeking o k line t)) (put_same seeks t None) in
        let before : left ≤ total n f = h.sought queued in
        omega (arith, bit_le (is_seeking (seeks t) k line t));
    once = h.once;
    named = λ u inside.
        let is : (u < n) × (seeks u ≡ Some k) = h.named u inside in (
          is.0,
          put_other seeks t None u (λ e. taker_outside t may (subst (Contains line) e inside)) ∙ is.1,
        );
  }

  -- t finds none left
  finds_none : (t : ℕ) → left ≡ 0 → IsKeptSemaphore n opening k left parked line out (put seeks t (Some k))
  finds_none t none = record {
    conserved = h.conserved;
    marked = h.marked;
    sought = λ queued. omega arith;
    once = h.once;
    named = λ u inside. (
      (h.named u inside).0,
      at_all (λ u b. seeks u ≡ Some k → (if b then Some k else seeks u) ≡ Some k) t (λ is. refl) (λ u ne is. is) u (h.named u inside).1,
    );
  }

  -- the parked bit alone is set
  marks : IsKeptSemaphore n opening k left true line out seeks
  marks = record { conserved = h.conserved; marked = λ t inside. refl; sought = h.sought; once = h.once; named = h.named }

  -- t goes last in the line
  queues : (t : ℕ) → t < n → left ≡ 0 → parked ≡ true →
      seeks t ≡ Some k → (Contains line t → ⊥) → IsKeptSemaphore n opening k left parked (line ++ t ∷ []) out seeks
  queues t near none bit_set is outside = record {
    conserved = h.conserved;
    marked = λ u inside. bit_set;
    sought = λ queued. omega arith;
    once = once_push line t h.once outside;
    named = each_push (λ u. (u < n) × (seeks u ≡ Some k)) line t h.named (near, is);
  }

  -- t gives a permit back, and nobody is queued
  gives : (t : ℕ) → t < n → 1 ≤ out t → line ≡ [] →
      IsKeptSemaphore n opening k (left + 1) parked line (put out t (out t - 1)) seeks
  gives t near some empty = record {
    conserved = conserved_given n opening left out t h.conserved near some;
    marked = h.marked;
    sought = λ queued. absurd (queued empty);
    once = h.once;
    named = h.named;
  }

  -- t gives a permit back, and the first of the line leaves it
  passes : (t : ℕ) (more : Bool) (u : ℕ) (rest : List ℕ) →
      t < n → 1 ≤ out t → line ≡ u ∷ rest → SaysMore (u ∷ rest) more →
      IsKeptSemaphore n opening k (left + 1) more rest (put out t (out t - 1)) seeks
  passes t more u rest near some is says =
      let h' : IsKeptSemaphore n opening k left parked (u ∷ rest) out seeks =
      subst (λ xs. IsKeptSemaphore n opening k left parked xs out seeks) is h in
      let first : (u < n) × (seeks u ≡ Some k) = h'.named u (in_head u rest) in
      record {
        conserved = conserved_given n opening left out t h.conserved near some;
        marked = λ w inside. says (two_from u rest w inside);
        sought = λ queued.
            let f : ℕ → ℕ = λ w. bit (is_seeking (seeks w) k (u ∷ rest) w) in
            let g : ℕ → ℕ = λ w. bit (is_seeking (seeks w) k rest w) in
            let one : total n f + g u ≡ total n g + f u =
            total_but n f g u first.0 (λ w ne. ap bit (seeks_behind (seeks w) k u rest w ne)) in
            let was : f u ≡ 0 = ap bit (seeks_inside (seeks u) k (u ∷ rest) u first.1 (in_head u rest)) in
            let is_now : g u ≡ 1 = ap bit (seeks_outside (seeks u) k rest u first.1 (head_left u rest h'.once)) in
            let before : left ≤ total n f = h'.sought (λ e. absurd (cc)) in
            omega arith;
        once = once_tail u rest h'.once;
        named = λ w inside. h'.named w (in_tail u rest w inside);
      }

  -- the parked bit is cleared where nobody is queued
  clears : line ≡ [] → IsKeptSemaphore n opening k left false line out seeks
  clears empty = record {
    conserved = h.conserved;
    marked = λ t inside. absurd (in_none t (subst (λ xs. Contains xs t) empty inside));
    sought = h.sought;
    once = h.once;
    named = h.named;
  }

-- all semaphores of a part
abbrev pub IsKeptPart : ℕ → (ℕ → ℕ) → SemaphorePart → Type 0
IsKeptPart n permits a =
    (k : ℕ) → IsKeptSemaphore n (permits k) k (a.sems.left k) (a.sems.parked k) (a.sems.line k) (a.sems.out k) a.seeks

pub part_sound : (n : ℕ) (permits : ℕ → ℕ) (a : SemaphorePart) → IsKeptPart n permits a → IsSoundSemaphorePart n permits a
part_sound n permits a h = record {
  permits_conserved = λ k. (h k).conserved;
  seekers_are_marked = λ k. (h k).marked;
  permits_are_sought = λ k. (h k).sought;
  once = λ k. (h k).once;
  seeks = λ k. (h k).named;
}

pub part_opening : (n : ℕ) (permits : ℕ → ℕ) → IsKeptPart n permits (record { sems = none_taken permits; seeks = λ t. None })
part_opening n permits k = record {
  conserved = omega (arith, total_none n);
  marked = λ t inside. absurd (in_none t inside);
  sought = λ some. absurd (some refl);
  once = once_none;
  named = λ t inside. absurd (in_none t inside);
}

-- who may take from k seeks nothing of another semaphore
pub taker_beside : (a : SemaphorePart) (t k i : ℕ) → i ≢ k → (a.seeks t ≡ None) ⊎ PartSeeks a t k → a.seeks t ≢ Some i
taker_beside a t k i ne (inl none) e = absurd (cc)
taker_beside a t k i ne (inr x) e = let is = x.0 in ne (let same : i ≡ k = cc in same)

pub take_part : (n : ℕ) (permits : ℕ → ℕ) (a : SemaphorePart) (t k : ℕ) → IsKeptPart n permits a → t < n
    → (a.seeks t ≡ None) ⊎ PartSeeks a t k →
    IsKeptPart n permits (semaphore_part_after a (SemTake t k))
take_part n permits a t k h near may =
    let z = a.sems in
    by_bit (λ b. IsKeptPart n permits (record {
      sems = if b then z else record z { left = put z.left k (z.left k - 1); out = put z.out k (put (z.out k) t (z.out k t + 1)) };
      seeks = put a.seeks t (if b then Some k else None);
    })) (none_left z k)
    (λ none. at_all (λ i b. IsKeptSemaphore n (permits i) i (z.left i) (z.parked i) (z.line i) (z.out i) (put a.seeks t (Some k))) k
    (finds_none (h k) t (eqb-true (z.left k) 0 none))
    (λ i ne. beside (h i) t (Some k) (taker_beside a t k i ne may) (λ e. let same : i ≡ k = cc in ne same)))
    (λ some. at_all (λ i b. IsKeptSemaphore n (permits i) i (if b then z.left k - 1 else z.left i) (z.parked i) (z.line i)
    (if b then put (z.out k) t (z.out k t + 1) else z.out i) (put a.seeks t None)) k
    (takes (h k) t near (eqb-false (z.left k) 0 some) may)
    (λ i ne. beside (h i) t None (taker_beside a t k i ne may) (λ e. absurd (cc))))

pub park_part : (n : ℕ) (permits : ℕ → ℕ) (a : SemaphorePart) (t k : ℕ) → IsKeptPart n permits a → t < n → PartSeeks a t k →
    IsKeptPart n permits (semaphore_part_after a (SemPark t k))
park_part n permits a t k h near seeks =
    let z = a.sems in
    by_bit (λ b. IsKeptPart n permits (record a { sems = if b then record z { line = put z.line k (z.line k ++ t ∷ []) } else z }))
    (none_left z k && z.parked k)
    (λ both.
    let parts = and_parts (none_left z k) (z.parked k) both in
    at_all (λ i b. IsKeptSemaphore n (permits i) i (z.left i) (z.parked i) (if b then z.line k ++ t ∷ [] else z.line i) (z.out i) a.seeks) k
    (queues (h k) t near (eqb-true (z.left k) 0 parts.0) parts.1 seeks.0 seeks.1)
    (λ i ne. h i))
    (λ not_both. h)

pub free_part : (n : ℕ) (permits : ℕ → ℕ) (a : SemaphorePart) (t k : ℕ) → IsKeptPart n permits a → t < n → 1 ≤ a.sems.out k t →
    IsKeptPart n permits (semaphore_part_after a (SemFree t k))
free_part n permits a t k h near some =
    let z = a.sems in
    by_bit (λ b. IsKeptPart n permits (record a { sems = if b then z else permit_given z t k })) (z.parked k)
    (λ set. h)
    (λ clear. at_all (λ i b. IsKeptSemaphore n (permits i) i (if b then z.left k + 1 else z.left i) (z.parked i) (z.line i)
    (if b then put (z.out k) t (z.out k t - 1) else z.out i) a.seeks) k
    (gives (h k) t near some (unmarked_none (z.line k) (h k).marked clear))
    (λ i ne. h i))

pub pass_part : (n : ℕ) (permits : ℕ → ℕ) (a : SemaphorePart) (t k : ℕ) (more : Bool) → IsKeptPart n permits a
    → t < n → 1 ≤ a.sems.out k t →
    SaysMore (a.sems.line k) more → IsKeptPart n permits (semaphore_part_after a (SemPass t k more))
pass_part n permits a t k more h near some says =
    let z = a.sems in
    by_line (λ xs. IsKeptPart n permits (record a { sems = seeker_woken (permit_given z t k) k more xs })) (z.line k)
    (λ none. at_all (λ i b. IsKeptSemaphore n (permits i) i (if b then z.left k + 1 else z.left i) (z.parked i) (z.line i)
    (if b then put (z.out k) t (z.out k t - 1) else z.out i) a.seeks) k
    (gives (h k) t near some none)
    (λ i ne. h i))
    (λ u rest is. at_all (λ i b. IsKeptSemaphore n (permits i) i (if b then z.left k + 1 else z.left i) (if b then more else z.parked i)
    (if b then rest else z.line i) (if b then put (z.out k) t (z.out k t - 1) else z.out i) a.seeks) k
    (passes (h k) t more u rest near some is (subst (λ xs. SaysMore xs more) is says))
    (λ i ne. h i))

-- the parked bit of k alone becomes this
pub bit_part : (n : ℕ) (permits : ℕ → ℕ) (a : SemaphorePart) (k : ℕ) (bit : Bool) → IsKeptPart n permits a →
    IsKeptSemaphore n (permits k) k (a.sems.left k) bit (a.sems.line k) (a.sems.out k) a.seeks →
    IsKeptPart n permits (record a { sems = record a.sems { parked = put a.sems.parked k bit } })
bit_part n permits a k bit h here =
    let z = a.sems in
    at_all (λ i b. IsKeptSemaphore n (permits i) i (z.left i) (if b then bit else z.parked i) (z.line i)
    (z.out i) a.seeks) k here (λ i ne. h i)

-- each event that is allowed keeps the part
pub part_kept : (threads first_sem sems : ℕ) (permits : ℕ → ℕ) (a : SemaphorePart) (e : Event) → IsKeptPart threads permits a →
    SemaphoreAllowed threads first_sem sems a e → IsKeptPart threads permits (semaphore_part_after a e)
part_kept threads first_sem sems permits a (SemTake t k) h ok = take_part threads permits a t k h ok.0 ok.2
part_kept threads first_sem sems permits a (SemMark t k) h ok =
    bit_part threads permits a k true h (marks (h k))
part_kept threads first_sem sems permits a (SemPark t k) h ok = park_part threads permits a t k h ok.0 ok.2
part_kept threads first_sem sems permits a (SemFree t k) h ok = free_part threads permits a t k h ok.0 ok.3
part_kept threads first_sem sems permits a (SemPass t k more) h ok = pass_part threads permits a t k more h ok.0 ok.3 ok.4
part_kept threads first_sem sems permits a (SemClear t k) h ok =
    bit_part threads permits a k false h (clears (h k) ok.3)
part_kept threads first_sem sems permits a _ h ok = absurd ok

-- a step leads from a sound part to a sound part
pub kept_from_sound : (n : ℕ) (permits : ℕ → ℕ) (a : SemaphorePart) → IsSoundSemaphorePart n permits a → IsKeptPart n permits a
kept_from_sound n permits a h k =
    record {
      conserved = h.permits_conserved k;
      marked = h.seekers_are_marked k;
      sought = h.permits_are_sought k;
      once = h.once k;
      named = h.seeks k;
    }

pub semaphore_step_sound : (threads first_sem sems : ℕ) (permits : ℕ → ℕ) (a b : SemaphorePart) (e : Event) (saw : Seen) →
    SemaphoreStep threads first_sem sems a e saw b → IsSoundSemaphorePart threads permits a → IsSoundSemaphorePart threads permits b
semaphore_step_sound threads first_sem sems permits a b e saw step h = subst (IsSoundSemaphorePart threads permits) (sym step.2)
    (part_sound threads permits (semaphore_part_after a e)
    (part_kept threads first_sem sems permits a e (kept_from_sound threads permits a h) step.0))
