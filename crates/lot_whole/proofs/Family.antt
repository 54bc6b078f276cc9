-- Families over the three kinds, and what is shown of each kind by itself.
use Rattle.std.proofs.Common.{◌≡◌, ◌≢◌, ℕ, ◌+◌, ◌<◌, ◌≤◌, ◌⊎◌, Bool, true, false, List, length, get_or, refl, ap, ◌∙◌, inl, inr}
use Rattle.std.proofs.Common.{arith, Option, Some, None}
use Rattle.std.specs.Prelude.{nat_lt, if◌then◌else◌, is_some}
use Rattle.std.proofs.lemmas.Bool.{lt-ltb, le-ltb}
use mathlib.Core.Option as maybe
use Rattle.lot_core.specs.Model.{StateView}
use Rattle.lot_rights.specs.Layout.{word_at, letter_at, word_count}
use Rattle.lot_rights.proofs.Distinct.{word_within}
use Rattle.lot_rights.specs.World.{letter_of}
use Rattle.lot_words.specs.CallersRule.{CallersRule}
use Rattle.lot_words.specs.World.{bits_of}
use Rattle.lot_words.proofs.Machine.{awake_is as lock_awake}
use Rattle.lot_conds.specs.World.{flag_word}
use Rattle.lot_conds.specs.declared.views.CondPassView.{CondPassView}
use Rattle.lot_conds.proofs.Machine.{awake_is as cond_awake}
use Rattle.lot_sems.specs.World.{word_of}
use Rattle.lot_sems.proofs.Machine.{awake_is as sem_awake}
use Rattle.lot_words.specs.declared.views.LockPassView.{LockPassView}
use Rattle.lot_whole.specs.Family.{Which, lock, cond, sem, LotSize, sizes_in, key_count, IsKeyIn, PassIn, away, homes_in, meaning_of}
use Rattle.lot_whole.specs.Family.{part_in, dput}
use Rattle.lot_whole.specs.Whole.{word_in, line_in, line_at}
use Rattle.lot_whole.specs.Lot.{sum_of}

-- ---- which kind it is
pub which_is : (j k : Which) → (j ≡ k) ⊎ (j ≢ k)
which_is lock lock = inl refl
which_is lock cond = inr (λ e. cc)
which_is lock sem = inr (λ e. cc)
which_is cond lock = inr (λ e. cc)
which_is cond cond = inl refl
which_is cond sem = inr (λ e. cc)
which_is sem lock = inr (λ e. cc)
which_is sem cond = inr (λ e. cc)
which_is sem sem = inl refl

pub not_true : (b : Bool) → (b ≡ true → ⊥) → b ≡ false
not_true true h = absurd (h refl)
not_true false h = refl

-- ---- families with one value changed
-- what holds of the new value, and of each other one, holds of all
pub dput_elim : {X : Which → Type 0} (P : (j : Which) → X j → Type 0) (k : Which) (x : X k) (f : (j : Which) → X j) → P k x
    → ((j : Which) → j ≢ k → P j (f j)) → (j : Which) → P j (dput {X = X} k x f j)
dput_elim P lock x f here there lock = here
dput_elim P lock x f here there cond = there cond (λ e. cc)
dput_elim P lock x f here there sem = there sem (λ e. cc)
dput_elim P cond x f here there lock = there lock (λ e. cc)
dput_elim P cond x f here there cond = here
dput_elim P cond x f here there sem = there sem (λ e. cc)
dput_elim P sem x f here there lock = there lock (λ e. cc)
dput_elim P sem x f here there cond = there cond (λ e. cc)
dput_elim P sem x f here there sem = here

-- the same of two families at once
pub dput_two : {X Y : Which → Type 0} (P : (j : Which) → X j → Y j → Type 0) (k : Which) (x : X k) (f : (j : Which) → X j) (y : Y k)
    (g : (j : Which) → Y j)
    → P k x y → ((j : Which) → j ≢ k → P j (f j) (g j)) → (j : Which) → P j (dput {X = X} k x f j) (dput {X = Y} k y g j)
dput_two P lock x f y g here there lock = here
dput_two P lock x f y g here there cond = there cond (λ e. cc)
dput_two P lock x f y g here there sem = there sem (λ e. cc)
dput_two P cond x f y g here there lock = there lock (λ e. cc)
dput_two P cond x f y g here there cond = here
dput_two P cond x f y g here there sem = there sem (λ e. cc)
dput_two P sem x f y g here there lock = there lock (λ e. cc)
dput_two P sem x f y g here there cond = there cond (λ e. cc)
dput_two P sem x f y g here there sem = here

pub dput_same : {X : Which → Type 0} (k : Which) (x : X k) (f : (j : Which) → X j) → dput {X = X} k x f k ≡ x
dput_same lock x f = refl
dput_same cond x f = refl
dput_same sem x f = refl

-- ---- sums over the kinds
pub three_same : (f g : Which → ℕ → ℕ) (t : ℕ) → ((j : Which) → f j t ≡ g j t) → sum_of f t ≡ sum_of g t
three_same f g t same = let a = same lock in let b = same cond in let c = same sem in omega arith

-- where one kind alone has a number that is not 0, the sum is that
pub three_one : (f : Which → ℕ → ℕ) (j : Which) (t : ℕ) → ((k : Which) → k ≢ j → f k t ≡ 0) → sum_of f t ≡ f j t
three_one f lock t none = omega (arith, none cond (λ e. cc), none sem (λ e. cc))
three_one f cond t none = omega (arith, none lock (λ e. cc), none sem (λ e. cc))
three_one f sem t none = omega (arith, none lock (λ e. cc), none cond (λ e. cc))

-- ---- keys
module _ (z : LotSize) where
  pub key_lot : (j : Which) (c : ℕ) → IsKeyIn z j c → c < key_count z
  key_lot lock c is = omega (arith, is.1)
  key_lot cond c is = omega (arith, is.1)
  key_lot sem c is = omega (arith, is.1)

  pub key_near : (j : Which) (c : ℕ) → IsKeyIn z j c → word_at c < word_count z.threads (key_count z)
  key_near j c is = word_within z.threads (key_count z) c (key_lot j c is)

  pub letter_near : (t : ℕ) → t < z.threads → letter_at t < word_count z.threads (key_count z)
  letter_near t near = omega arith

  -- a key is of one kind
  pub keys_apart : (j k : Which) (c d : ℕ) → IsKeyIn z j c → IsKeyIn z k d → j ≢ k → c ≢ d
  keys_apart lock lock c d a b ne e = ne refl
  keys_apart lock cond c d a b ne e = omega (arith, a.1, b.0)
  keys_apart lock sem c d a b ne e = omega (arith, a.1, b.0)
  keys_apart cond lock c d a b ne e = omega (arith, a.0, b.1)
  keys_apart cond cond c d a b ne e = ne refl
  keys_apart cond sem c d a b ne e = omega (arith, a.1, b.0)
  keys_apart sem lock c d a b ne e = omega (arith, a.0, b.1)
  keys_apart sem cond c d a b ne e = omega (arith, a.0, b.1)
  keys_apart sem sem c d a b ne e = ne refl

  -- in its kind's own table a key and a letter have their places too
  pub key_in : (j : Which) (c : ℕ) → IsKeyIn z j c → word_at c < word_count z.threads ((sizes_in z j).first + (sizes_in z j).keys)
  key_in j c is = word_within z.threads ((sizes_in z j).first + (sizes_in z j).keys) c is.1

  pub letter_in_kind : (j : Which) (t : ℕ) → t < z.threads → letter_at t < word_count z.threads ((sizes_in z j).first + (sizes_in z j).keys)
  letter_in_kind j t near = omega arith

-- ---- kind by kind
no_some : {A : Type 0} (o : Option A) → is_some o ≡ false → o ≡ None
no_some None e = refl
no_some (Some x) e = absurd (cc)

module _ {V Part : Type 0} (rule : CallersRule V Part) (z : LotSize) (xs : List V) where
  pub wide_in : (j : Which) (w : (meaning_of rule z xs j).World) (ws : List ℕ) (hs : List (maybe.Option (Option V)))
      → (meaning_of rule z xs j).Fits w ws (homes_in j hs)
      → length ws ≡ word_count z.threads ((sizes_in z j).first + (sizes_in z j).keys)
  wide_in lock w ws hs ok = ok.words.wide
  wide_in cond w ws hs ok = ok.words.wide
  wide_in sem w ws hs ok = ok.words.wide

  pub letter_in : (j : Which) (w : (meaning_of rule z xs j).World) (ws : List ℕ) (hs : List (maybe.Option (Option V)))
      → (meaning_of rule z xs j).Fits w ws (homes_in j hs)
      → (t : ℕ) → t < z.threads → get_or ws (letter_at t) 0 ≡ ((meaning_of rule z xs j).told_by w).letters t
  letter_in lock w ws hs ok = ok.words.letters
  letter_in cond w ws hs ok = ok.words.letters
  letter_in sem w ws hs ok = ok.words.letters

  -- who is not away has no letter
  pub still : (j : Which) (w : (meaning_of rule z xs j).World) (ws : List ℕ) (hs : List (maybe.Option (Option V)))
      → (meaning_of rule z xs j).Fits w ws (homes_in j hs)
      → (t : ℕ) (p : PassIn V j) → (meaning_of rule z xs j).PassFits w t p → away V j p ≡ false
      → ((meaning_of rule z xs j).told_by w).letters t ≡ 0
  still lock w ws hs ok t p fit up =
      ap letter_of (lock_awake z.threads w.word w.root t (w.pass t) (w.spot t) (ok.kept.threads t).spot
      (ap (λ (x : LockPassView V). x.asleep) fit.1 ∙ up))
  still cond w ws hs ok t p fit up =
      ap letter_of (cond_awake z.threads w.root t (w.pass t) (w.spot t) (ok.kept.threads t).spot
      (ap (λ (x : CondPassView). x.out) fit.1 ∙ no_some p.out up))
  still sem w ws hs ok t p fit up = ap letter_of (sem_awake (w.spot t) (fit.asleep ∙ up))

  -- the word of a key is the word that its kind's part of the state tells
  pub word_is : (j : Which) (s : StateView) (c : ℕ) → IsKeyIn z j c
      → word_in z s c ≡ (meaning_of rule z xs j).word_in (part_in rule z xs j s) c
  word_is lock s c is = ap (λ b. if b then bits_of (s.locks.held c) (s.locks.parked c)
      else (if nat_lt c (z.locks + z.conds) then flag_word (s.conds.flag c) else word_of (s.sems.left c) (s.sems.parked c)))
      (lt-ltb c z.locks (omega (arith, is.1)))
  word_is cond s c is = (λ i. if le-ltb c z.locks is.0 i then bits_of (s.locks.held c) (s.locks.parked c)
      else (if lt-ltb c (z.locks + z.conds) is.1 i then flag_word (s.conds.flag c) else word_of (s.sems.left c) (s.sems.parked c)))
  word_is sem s c is = (λ i. if le-ltb c z.locks (omega (arith, is.0)) i then bits_of (s.locks.held c) (s.locks.parked c)
      else (if le-ltb c (z.locks + z.conds) is.0 i then flag_word (s.conds.flag c) else word_of (s.sems.left c) (s.sems.parked c)))

-- and its line that of its kind
pub line_behind : (z : LotSize) (s : StateView) (c : ℕ) → z.locks + z.conds ≤ c → line_at z s c ≡ s.sems.line c
line_behind z s c far = (λ i. if le-ltb c z.locks (omega arith) i then s.locks.line c
    else (if le-ltb c (z.locks + z.conds) far i then s.conds.line c else s.sems.line c))

pub line_is : (z : LotSize) (j : Which) (s : StateView) (c : ℕ) → IsKeyIn z j c → line_at z s c ≡ line_in s j c
line_is z lock s c is = (λ i. if lt-ltb c z.locks (omega (arith, is.1)) i then s.locks.line c
    else (if nat_lt c (z.locks + z.conds) then s.conds.line c else s.sems.line c))
line_is z cond s c is = (λ i. if le-ltb c z.locks is.0 i then s.locks.line c
    else (if lt-ltb c (z.locks + z.conds) is.1 i then s.conds.line c else s.sems.line c))
line_is z sem s c is = line_behind z s c is.0
