-- The laws of seeking, of whatever is sought.
use Rattle.std.proofs.Common.{◌≡◌, ℕ, List, [], ◌++◌, inl, inr, sym, ap, subst, ◌∙◌}
use Rattle.std.specs.List.{All}
use Rattle.std.proofs.lemmas.List.Elements.{All-nil, All-append}
use Rattle.lot_seeking.specs.declared.seeking.Seeking.{Seeking}
use Rattle.lot_seeking.specs.declared.seeking.Seeking.TheVariants.{Got, Waits, Parks}
use Rattle.lot_seeking.specs.Seeking.{SeekingLaws, IsUnfinished, IsAwake, IsWanting, SeeksSo, AddingLaws}

module _ {P A : Type 0} (thread : P → ℕ) (adding : P → List A → P) (wants : P → ℕ → P) (allowed : P → ℕ → Type 0)
    (is_seek : ℕ → ℕ → A → Type 0) (gets : P → ℕ → P → Type 0) (adds : AddingLaws thread adding wants allowed is_seek gets) where
  abbrev Awake : P → ℕ → P → Type 0
  Awake = IsAwake thread adding wants allowed is_seek

  abbrev Wanting : P → ℕ → P → Type 0
  Wanting = IsWanting thread adding wants allowed is_seek

  abbrev Seeks : P → ℕ → Seeking → P → Type 0
  Seeks = SeeksSo thread adding wants allowed is_seek gets

  -- whoever may seek is awake, from where it stands
  pub begins : (now : P) (key : ℕ) → allowed now key → Awake now key now
  begins now key may = record { may = may; did = []; sought = All-nil (is_seek (thread now) key); is = inl (sym (adds.none now)) }

  -- who wants it is awake
  pub awake : (before now : P) (key : ℕ) → Wanting before key now → Awake before key now
  awake before now key s = record { may = s.may; did = s.did; sought = s.sought; is = inr s.is }

  -- ---- who is awake is the same thread, wants the same, and may seek still
  same_awake : (before now : P) (key : ℕ) → Awake before key now → thread now ≡ thread before
  same_awake before now key s = elim s.is [
    | inl e ↦ ap thread e ∙ adds.same before s.did
    | inr e ↦ ap thread e ∙ (adds.same (wants before key) s.did ∙ adds.wants_same before key)
  ]

  wants_now : (before now : P) (key : ℕ) (s : Awake before key now) → wants now key ≡ adding (wants before key) s.did
  wants_now before now key s = elim s.is [
    | inl e ↦ ap (λ (p : P). wants p key) e ∙ adds.wants_added before key s.did
    | inr e ↦ ap (λ (p : P). wants p key) e ∙ (adds.wants_added (wants before key) key s.did
        ∙ ap (λ (p : P). adding p s.did) (adds.wants_once before key))
  ]

  pub may_now : (before now : P) (key : ℕ) → Awake before key now → allowed now key
  may_now before now key s = elim s.is [
    | inl e ↦ subst (λ (p : P). allowed p key) (sym e) (adds.may_added before key s.did s.may)
    | inr e ↦ subst (λ (p : P). allowed p key) (sym e) (adds.may_added (wants before key) key s.did (adds.may_again before key s.may))
  ]

  -- ---- as from where it is
  pub awake_itself : (before now : P) (key : ℕ) → Awake before key now → Awake now key now
  awake_itself before now key s = begins now key (may_now before now key s)

  wanting_itself : (before now : P) (key : ℕ) → Wanting before key now → Wanting now key now
  unfolding awake
  wanting_itself before now key s = record {
    may = may_now before now key (awake before now key s);
    did = [];
    sought = All-nil (is_seek (thread now) key);
    is = s.is ∙ (sym (wants_now before now key (awake before now key s)) ∙ sym (adds.none (wants now key)));
  }

  -- ---- as from where it began
  sought_on : (before now : P) (key : ℕ) (s : Awake before key now) (did : List A) → All (is_seek (thread now) key) did
      → All (is_seek (thread before) key) (s.did ++ did)
  sought_on before now key s did sought = All-append (is_seek (thread before) key) s.did did s.sought
      (subst (λ (t : ℕ). All (is_seek t key) did) (same_awake before now key s) sought)

  pub wanting_on : (before now after : P) (key : ℕ) → Awake before key now → Wanting now key after → Wanting before key after
  wanting_on before now after key s t = record {
    may = s.may;
    did = s.did ++ t.did;
    sought = sought_on before now key s t.did t.sought;
    is = t.is ∙ (ap (λ (p : P). adding p t.did) (wants_now before now key s) ∙ adds.both (wants before key) s.did t.did);
  }

  pub awake_on : (before now after : P) (key : ℕ) → Awake before key now → Awake now key after → Awake before key after
  awake_on before now after key s t = record {
    may = s.may;
    did = s.did ++ t.did;
    sought = sought_on before now key s t.did t.sought;
    is = elim t.is [
      | inl e ↦ elim s.is [
        | inl f ↦ inl (e ∙ (ap (λ (p : P). adding p t.did) f ∙ adds.both before s.did t.did))
        | inr f ↦ inr (e ∙ (ap (λ (p : P). adding p t.did) f ∙ adds.both (wants before key) s.did t.did))
      ]
      | inr e ↦ inr (e ∙ (ap (λ (p : P). adding p t.did) (wants_now before now key s) ∙ adds.both (wants before key) s.did t.did))
    ];
  }

  pub got_on : (before now after : P) (key : ℕ) → Awake before key now → gets now key after → gets before key after
  got_on before now after key s got = elim s.is [
    | inl e ↦ adds.got_after before after key s.did s.sought (subst (λ (p : P). gets p key after) e got)
    | inr e ↦ adds.got_wanting before after key (adds.got_after (wants before key) after key s.did
        (subst (λ (t : ℕ). All (is_seek t key) s.did) (sym (adds.wants_same before key)) s.sought)
        (subst (λ (p : P). gets p key after) e got))
  ]

  -- ---- the laws
  same : (before now : P) (key : ℕ) (far : Seeking) → Seeks before key far now → thread now ≡ thread before
  same before now key Got s = adds.got_same before now key s
  same before now key Waits s = same_awake before now key s
  same before now key Parks s = same_awake before now key (awake before now key s)

  waits : (before now : P) (key : ℕ) (far : Seeking) → IsUnfinished far → Seeks before key far now → Awake before key now
  waits before now key Got done s = absurd done
  waits before now key Waits u s = s
  waits before now key Parks u s = awake before now key s

  itself : (before now : P) (key : ℕ) (far : Seeking) → IsUnfinished far → Seeks before key far now → Seeks now key far now
  itself before now key Got done s = absurd done
  itself before now key Waits u s = awake_itself before now key s
  itself before now key Parks u s = wanting_itself before now key s

  goes_on : (before now after : P) (key : ℕ) (next : Seeking) → Awake before key now → Seeks now key next after
      → Seeks before key next after
  goes_on before now after key Got s t = got_on before now after key s t
  goes_on before now after key Waits s t = awake_on before now after key s t
  goes_on before now after key Parks s t = wanting_on before now after key s t

  pub laws : SeekingLaws thread Seeks
  laws = record {
    same = same;
    waits = waits;
    itself = itself;
    on = λ before now after key far next u s t. goes_on before now after key next (waits before now key far u s) t;
  }
