-- The first of some kinds whose word stands at the front.
use Rattle.std.proofs.Common.{◌≡◌, ◌<◌, ◌≤◌, ◌+◌, ℕ, List, length, get_or, drop, Some, None, sym, ap, ◌∙◌, add-one}
use Rattle.std.proofs.Math.Seq.{drop-cons}
use Rattle.std.proofs.Math.ListN.{drop_of_length-le}
use Rattle.lot_events.specs.declared.reading.Kind.{Kind}
use Rattle.lot_events.specs.Reading.{rest_behind, kind_word, first_of, or_else}

pub first_at : (ks : List Kind) (i : ℕ) (d : Kind) (text : List ℕ) → i < length ks →
    first_of (drop i ks) text ≡ or_else (get_or ks i d) (rest_behind (kind_word (get_or ks i d)) text) (first_of (drop (i + 1) ks) text)
unfolding first_of
first_at ks i d text within =
    ap (λ xs. first_of xs text) (drop-cons ks i d within)
    ∙ ap (λ n. or_else (get_or ks i d) (rest_behind (kind_word (get_or ks i d)) text) (first_of (drop n ks) text)) (sym (add-one i))

pub first_here : (ks : List Kind) (i : ℕ) (d : Kind) (text rest : List ℕ) → i < length ks → first_of ks text ≡ first_of (drop i ks) text →
    Some rest ≡ rest_behind (kind_word (get_or ks i d)) text → Some (get_or ks i d, rest) ≡ first_of ks text
first_here ks i d text rest within so is =
    sym (so ∙ first_at ks i d text within ∙ ap (λ o. or_else (get_or ks i d) o (first_of (drop (i + 1) ks) text)) (sym is))

pub first_later : (ks : List Kind) (i : ℕ) (d : Kind) (text : List ℕ) → i < length ks → first_of ks text ≡ first_of (drop i ks) text →
    None ≡ rest_behind (kind_word (get_or ks i d)) text → first_of ks text ≡ first_of (drop (i + 1) ks) text
first_later ks i d text within so is =
    so ∙ first_at ks i d text within ∙ ap (λ o. or_else (get_or ks i d) o (first_of (drop (i + 1) ks) text)) (sym is)

pub first_none : (ks : List Kind) (i : ℕ) (text : List ℕ) → length ks ≤ i → first_of ks text ≡ first_of (drop i ks) text
    → None ≡ first_of ks text
unfolding first_of
first_none ks i text past so = sym (so ∙ ap (λ xs. first_of xs text) (drop_of_length-le ks past))

-- which of some kinds the text begins with
pub ruleset kind_laws = (first_here, first_later, first_none)
