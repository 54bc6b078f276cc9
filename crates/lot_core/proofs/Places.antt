-- What holds of each thread of a line, place by place.
use Rattle.std.proofs.Common.{◌≡◌, ◌<◌, ◌≤◌, ◌+◌, ℕ, List, length, ap, subst, ◌∙◌, arith, below_more}
use Rattle.std.specs.Prelude.{slice_get, Some}
use Rattle.std.specs.List.{Contains}
use Rattle.std.proofs.lemmas.Option.{slice_get-get_or, slice_get_within, get_or_from_slice_get}

module _ (P : ℕ → Type 0) (xs : List ℕ) where
  -- one place more
  pub place_more : (n u : ℕ) → ((i t : ℕ) → i < n → slice_get xs i ≡ Some t → P t) → slice_get xs n ≡ Some u → P u →
      (i t : ℕ) → i < n + 1 → slice_get xs i ≡ Some t → P t
  place_more n u so at p i t near is =
      below_more (λ j. slice_get xs j ≡ Some t → P t) n (λ j before. so j t before) (λ here. let same : u ≡ t = cc in
      subst P same p) i near is

  -- every place
  pub all_places : (n : ℕ) → length xs ≤ n → ((i t : ℕ) → i < n → slice_get xs i ≡ Some t → P t) → (t : ℕ) → Contains xs t → P t
  all_places n past so t (k, within, is) = so k t (omega arith) (slice_get-get_or xs k t within ∙ ap Some is)

  -- the thread at a place
  pub of_place : (n u : ℕ) → slice_get xs n ≡ Some u → ((t : ℕ) → Contains xs t → P t) → P u
  of_place n u at all = all u (n, slice_get_within xs n u at, get_or_from_slice_get xs n u u at)
