-- A pass that owns one lock or two got them from owning none, and lets the first of two go again.
use Rattle.std.proofs.Common.{◌≡◌, ◌≢◌, ℕ, zero, suc, Bool, true, false, List, [], ◌∷◌, get_or, set, length, ◌<◌, MatchOption, Option, Some}
use Rattle.std.proofs.Common.{None, refl, sym, ap, subst, ◌∙◌, ⊎_elim, arith}
use Rattle.std.proofs.lemmas.List.{get_or-set_other, length-set}
use Rattle.atomic_table.proofs.Lists.{at_set, set_here}
use mathlib.Core.Logic.{dite}
use mathlib.Core.Option.{some, some-injective}
use lib.ListN.{get_elem?}
use native.Mathlib.Decide.{ℕ_discrete}
use Rattle.lot_words.specs.CallersRule.{CallersRule}
use Rattle.lot_sync.specs.Lot.{LotView, PassView, HeldView, ◌≈◌, HasShape, Owns, OwnsNone, HasSeen, owning, letting_go, permits_with}
use Rattle.lot_sync.specs.Values.{Gets, MayGiveBack}
use Rattle.lot_sync.specs.Holding.{Holding, HoldingBoth}

-- what lies at a number lies within the list
pub near_of : {A : Type 0} (xs : List A) (k : ℕ) (x : A) → get_elem? xs k ≡ some x → k < length xs
near_of [] k x e = absurd cc
near_of (y ∷ ys) zero x e = omega arith
near_of (y ∷ ys) (suc k) x e = let near = near_of ys k x e in omega (arith, near)

module _ {V Part : Type 0} (rule : CallersRule V Part) where
  -- all that the pass has seen of a lock that it got grows to the value
  grown_newly : (before after : PassView V) (key : ℕ) (held : HeldView V) → Gets rule before key held after → (u : V)
      → HasSeen after held.key u → rule.grows u held.value
  grown_newly before after key held got u seen =
      ⊎_elim (λ same. subst (λ x. rule.grows x held.value) same.1 (rule.grows_itself held.value)) (λ other. absurd (other.0 got.key_is))
      (at_set before.seen key held.key held.value u (subst (λ (p : PassView V). HasSeen p held.key u) got.after_is seen))

  -- what is got is held
  pub got_holds : (before after : PassView V) (key : ℕ) (held : HeldView V) → OwnsNone before → Gets rule before key held after
      → Holding rule.grows after held
  got_holds before after key held none got = record {
    owns = subst (λ k. Owns after k) (sym got.key_is) got.owns;
    alone =
        λ k other owned.
        none.no_lock k (sym (get_or-set_other before.owns key k true false (λ e. other (e ∙ sym got.key_is)))
        ∙ subst (λ (p : PassView V). Owns p k) got.after_is owned);
    no_permit = λ k. ap (λ (p : PassView V). permits_with p k) got.after_is ∙ none.no_permit k;
    knows = subst (λ k. k < length after.seen) (sym got.key_is) (near_of after.seen key held.value got.seen);
    grown = grown_newly before after key held got;
  }

  -- where nothing is got, the pass is as before
  pub tried_holds : (before after : PassView V) (key : ℕ) (found : Option (HeldView V)) → OwnsNone before →
      MatchOption found (after ≈ before) (λ held. Gets rule before key held after)
      → MatchOption found (OwnsNone after) (λ held. (held.key ≡ key) × Holding rule.grows after held)
  tried_holds before after key None none same = subst OwnsNone (sym same) (record { no_lock = none.no_lock; no_permit = none.no_permit })
  tried_holds before after key (Some held) none got = (got.key_is, got_holds before after key held none got)

  -- a second lock is got
  pub got_both : (before after : PassView V) (first second : HeldView V) (key : ℕ) → key ≢ first.key → Holding rule.grows before first
      → Gets rule before key second after
      → HoldingBoth rule.grows after first second
  got_both before after first second key two holds got = record {
    two = λ e. two (sym got.key_is ∙ e);
    owns_first =
        subst (λ (p : PassView V). Owns p first.key) (sym got.after_is)
        (get_or-set_other before.owns key first.key true false (λ e. two (sym e)) ∙ holds.owns);
    owns_second = subst (λ k. Owns after k) (sym got.key_is) got.owns;
    alone = λ k not_first not_second owned. holds.alone k not_first
        (sym (get_or-set_other before.owns key k true false (λ e. not_second (e ∙ sym got.key_is)))
        ∙ subst (λ (p : PassView V). Owns p k) got.after_is owned);
    no_permit = λ k. ap (λ (p : PassView V). permits_with p k) got.after_is ∙ holds.no_permit k;
    knows_first =
        subst (λ n. first.key < n)
        (sym (ap (λ (p : PassView V). length p.seen) got.after_is ∙ length-set before.seen key second.value)) holds.knows;
    knows_second = subst (λ k. k < length after.seen) (sym got.key_is) (near_of after.seen key second.value got.seen);
    grown_first = λ u seen. ⊎_elim (λ same. absurd (two (sym same.0))) (λ else. holds.grown u else.1)
        (at_set before.seen key first.key second.value u (subst (λ (p : PassView V). HasSeen p first.key u) got.after_is seen));
    grown_second = grown_newly before after key second got;
  }

  -- the value that was found is what the pass has seen
  pub seen_newly : (before after : PassView V) (key : ℕ) (held : HeldView V) → Gets rule before key held after → (u : V)
      → HasSeen after held.key u → held.value ≡ u
  seen_newly before after key held got u seen = some-injective held.value u (sym got.seen ∙ subst (λ k. HasSeen after k u) got.key_is seen)

  -- a value that keeps the rule, has grown from what was found, and has the others' parts of that may be given back
  pub may_go_back : (before after : PassView V) (key : ℕ) (held : HeldView V) (value : V) → Gets rule before key held after
      → rule.keeps held.key value → rule.grows held.value value
      → ((t : ℕ) → t ≢ before.thread → rule.part t held.value ≡ rule.part t value)
      → MayGiveBack rule after (record { key = held.key; value = value })
  may_go_back before after key held value got kept grown others = record {
    kept = kept;
    grown = λ u seen. subst (λ x. rule.grows x value) (seen_newly before after key held got u seen) grown;
    others = λ u t seen else. subst (λ x. rule.part t x ≡ rule.part t value) (seen_newly before after key held got u seen)
        (others t (λ e. else (e ∙ sym (ap (λ (p : PassView V). p.thread) got.after_is))));
  }

pub let_go_of : (owns : List Bool) (k : ℕ) → get_or (set owns k false) k false ≡ false
let_go_of [] k = refl
let_go_of (b ∷ owns) zero = refl
let_go_of (b ∷ owns) (suc k) = let_go_of owns k

pub not_both : (b : Bool) → b ≡ true → b ≡ false → ⊥
not_both b e f = cc

unowned : (bs : List Bool) (k j : ℕ) → ((i : ℕ) → get_or bs i false ≡ true → ⊥) → get_or (set (set bs k true) k false) j false ≡ true → ⊥
unowned [] k j none e = none j e
unowned (b ∷ bs) zero zero none e = absurd (cc)
unowned (b ∷ bs) zero (suc j) none e = none (suc j) e
unowned (b ∷ bs) (suc k) zero none e = none zero e
unowned (b ∷ bs) (suc k) (suc j) none e = unowned bs k j (λ i h. none (suc i) h) e

-- whoever owned nothing, got a lock and let it go again owns nothing
pub owns_none_again : {V : Type 0} (p q r : PassView V) (k l : ℕ) (x y : V) → OwnsNone p → q ≈ owning p k x
    → r ≈ letting_go q l y → l ≡ k → OwnsNone r
owns_none_again p q r k l x y none e f same =
    let left : r ≈ letting_go q k y = subst (λ j. r ≈ letting_go q j y) same f in
    record {
      no_lock = λ j h. unowned p.owns k j none.no_lock
          (subst (λ (z : PassView _). get_or (set z.owns k false) j false ≡ true) e
          (subst (λ (z : PassView _). get_or z.owns j false ≡ true) left h));
      no_permit = λ j. ap (λ (z : PassView _). permits_with z j) left ∙ (ap (λ (z : PassView _). permits_with z j) e ∙ none.no_permit j);
    }

-- what was left is what the pass has seen
pub seen_left : {V : Type 0} (p q : PassView V) (k l : ℕ) (y u : V) → q ≈ letting_go p l y → l ≡ k → HasSeen q k u → y ≡ u
seen_left p q k l y u e same at = ⊎_elim (λ here. here.1) (λ else. absurd (else.0 refl))
    (at_set p.seen k k y u (subst (λ (z : PassView _). HasSeen z k u) (subst (λ j. q ≈ letting_go p j y) same e) at))

-- the pass that let a lock of the lot go has seen the value that it left
pub sees_left : {V : Type 0} (lot : LotView) (p q : PassView V) (k : ℕ) (y : V) → k < lot.locks → HasShape lot q
    → q ≈ letting_go p k y → HasSeen q k y
sees_left lot p q k y is_lock shape e =
    let seen : q.seen ≡ set p.seen k y = ap (λ (z : PassView _). z.seen) e in
    ap (λ (xs : List _). get_elem? xs k) seen
    ∙ set_here p.seen k y (subst (λ n. k < n) (sym shape.seen ∙ (ap length seen ∙ length-set p.seen k y)) is_lock)

-- the first of two locks is let go, and the second is still held
pub left_second : {V : Type 0} (grows : V → V → Type 0) (before after : PassView V) (first second : HeldView V)
    → HoldingBoth grows before first second
    → after ≈ letting_go before first.key first.value → Holding grows after second
left_second grows before after first second both left = record {
  owns =
      subst (λ (p : PassView _). Owns p second.key) (sym left)
      (get_or-set_other before.owns first.key second.key false false both.two ∙ both.owns_second);
  alone = λ k other owned. dite (ℕ_discrete k first.key)
      (λ e. not_both (get_or (set before.owns first.key false) k false) (subst (λ (p : PassView _). Owns p k) left owned)
      (ap (λ j. get_or (set before.owns first.key false) j false) e ∙ let_go_of before.owns first.key))
      (λ else.
      both.alone k else other (sym (get_or-set_other before.owns first.key k false false else)
      ∙ subst (λ (p : PassView _). Owns p k) left owned));
  no_permit = λ k. ap (λ (p : PassView _). permits_with p k) left ∙ both.no_permit k;
  knows =
      subst (λ n. second.key < n)
      (sym (ap (λ (p : PassView _). length p.seen) left ∙ length-set before.seen first.key first.value)) both.knows_second;
  grown = λ u seen. ⊎_elim (λ same. absurd (both.two same.0)) (λ else. both.grown_second u else.1)
      (at_set before.seen first.key second.key first.value u (subst (λ (p : PassView _). HasSeen p second.key u) left seen));
}

-- whoever let go the one lock that it owned owns nothing
pub left_all : {V : Type 0} (grows : V → V → Type 0) (pass : PassView V) (held : HeldView V) → Holding grows pass held
    → OwnsNone (letting_go pass held.key held.value)
left_all grows pass held holding = record {
  no_lock = λ k owned. dite (ℕ_discrete k held.key)
      (λ e. not_both (get_or (set pass.owns held.key false) k false) owned
      (ap (λ j. get_or (set pass.owns held.key false) j false) e ∙ let_go_of pass.owns held.key))
      (λ else. holding.alone k else (sym (get_or-set_other pass.owns held.key k false false else) ∙ owned));
  no_permit = holding.no_permit;
}
