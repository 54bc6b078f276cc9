-- The line of a sighting, taken apart where its last space stands.
use Rattle.std.proofs.Common.{◌≡◌, ◌≢◌, ◌<◌, ◌+◌, ◌-◌, ◌++◌, ℕ, zero, suc, true, false, List, [], ◌∷◌, length, length-append, get_or, take}
use Rattle.std.proofs.Common.{drop, replicate, take-add, take_at, drop_at, refl, sym, ap}
use Rattle.std.proofs.Common.{◌∙◌, subst, arith, inl, inr, append_assoc, Some, None}
use Rattle.std.specs.Prelude.{codes, decimal}
use Rattle.std.proofs.lemmas.Bool.{cases_lt}
use Rattle.std.proofs.lemmas.List.{append-nil, append_cancel_right, get_or-append-add, take-append-drop}
use Rattle.std.proofs.Math.Seq.{get_or-append_seam}
use Rattle.lot_events.specs.declared.events.Event.{Event}
use Rattle.lot_events.specs.declared.events.Event.TheVariants as event
use Rattle.lot_events.specs.declared.events.Seen.{Seen}
use Rattle.lot_events.specs.declared.events.Seen.TheVariants.{Bool as Saw, Done, Sleeper, Count}
use Rattle.lot_events.specs.Spelling.{field, Spells, BeginsWith, NoEvent}
use Rattle.lot_events.specs.Reading.{field_at, event_at}
use Rattle.lot_events.proofs.Figures.{some_is, field_takes, field_again}
use Rattle.lot_events.proofs.Spelled.{event_again}
use Rattle.lot_witness.specs.declared.witness.Sighting.{Sighting}
use Rattle.lot_witness.specs.Spelling.{told, TellsTruth, TellsNothing, TellsSleeper, TellsNumber, IsSightOf, SpellsSighting}
use Rattle.lot_witness.proofs.Clean.{clean, clean_append, clean_at, clean_decimal, clean_front, IsOneLine}

-- a number that is all that stands there
pub whole_number : (text : List ℕ) (n : ℕ) (rest : List ℕ) → field_at text ≡ Some (n, rest) → length rest ≡ 0
    → (n < 10000) × (text ≡ field n)
whole_number text n [] read none = let taken = field_takes text n [] read in (taken.0, taken.1 ∙ append-nil (field n))
whole_number text n (b ∷ rest) read none = absurd (omega arith)

pub number_read : (text : List ℕ) (n : ℕ) → n < 10000 → text ≡ field n → field_at text ≡ Some (n, [])
number_read text n small is = ap field_at (is ∙ sym (append-nil (field n))) ∙ field_again n [] small tt

-- an event that is all that stands there
pub event_read : (text : List ℕ) (e : Event) → Spells text e → event_at text ≡ Some (e, [])
event_read text e spells = ap event_at (sym (append-nil text)) ∙ event_again text e [] spells

pub not_alone : (text : List ℕ) (e e' : Event) (rest : List ℕ) → BeginsWith text e rest → 0 < length rest → Spells text e' → ⊥
not_alone text e e' rest (first, spells, parts) some spells' =
    let both = some_is (e, rest) (e', [])
    (sym (event_again first e rest spells) ∙ ap event_at (sym parts) ∙ event_read text e' spells') in
    omega (arith, some, ap length (ap (λ (y : Event × List ℕ). y.1) both))

pub alone : (text : List ℕ) (e : Event) (rest : List ℕ) → BeginsWith text e rest → length rest ≡ 0 → Spells text e
alone text e [] (first, spells, parts) none = subst (λ t. Spells t e) (sym (parts ∙ append-nil first)) spells
alone text e (b ∷ rest) begins none = absurd (omega arith)

pub no_event_alone : (text : List ℕ) (e : Event) → NoEvent text → Spells text e → ⊥
no_event_alone text e none spells = none e text [] spells (sym (append-nil text))

-- what was seen is a space and a word
pub record IsTold (saw : Seen) : Type 0 where
  pub word : List ℕ
  pub is : told saw ≡ 32 ∷ word
  pub no_space : clean 32 word ≡ true
  pub no_feed : clean 10 word ≡ true

pub number_told : (saw : Seen) (n : ℕ) → told saw ≡ field n → n < 10000 → IsTold saw
number_told saw n is small = record {
  word = decimal n;
  is = is;
  no_space = clean_decimal 32 n (omega arith) small;
  no_feed = clean_decimal 10 n (omega arith) small;
}

pub truth_told : (saw : Seen) → TellsTruth saw → IsTold saw
truth_told (Saw true) tells = record { word = codes "true"; is = refl; no_space = refl; no_feed = refl }
truth_told (Saw false) tells = record { word = codes "false"; is = refl; no_space = refl; no_feed = refl }
truth_told _ tells = absurd tells

pub nothing_told : (saw : Seen) → TellsNothing saw → IsTold saw
nothing_told Done tells = record { word = codes "done"; is = refl; no_space = refl; no_feed = refl }
nothing_told _ tells = absurd tells

pub sleeper_told : (saw : Seen) → TellsSleeper saw → IsTold saw
sleeper_told (Sleeper None) tells = record { word = codes "-"; is = refl; no_space = refl; no_feed = refl }
sleeper_told (Sleeper (Some t)) tells = number_told (Sleeper (Some t)) t refl tells
sleeper_told _ tells = absurd tells

pub count_told : (saw : Seen) → TellsNumber saw → IsTold saw
count_told (Count n) tells = number_told (Count n) n refl tells
count_told _ tells = absurd tells

-- what holds of the four kinds of sight holds of what any event can see
pub by_sight : (P : (Seen → Type 0) → Type 0) → P TellsTruth → P TellsNothing → P TellsSleeper → P TellsNumber
    → (e : Event) → P (IsSightOf e)
by_sight P truth nothing sleeper count (event.Mark t l) = nothing
by_sight P truth nothing sleeper count (event.Pass t l fair more) = sleeper
by_sight P truth nothing sleeper count (event.Enlist t c l) = nothing
by_sight P truth nothing sleeper count (event.Call t c n more) = count
by_sight P truth nothing sleeper count (event.Lower t c) = nothing
by_sight P truth nothing sleeper count (event.Sweep t c) = count
by_sight P truth nothing sleeper count (event.SemMark t k) = nothing
by_sight P truth nothing sleeper count (event.SemPass t k more) = sleeper
by_sight P truth nothing sleeper count (event.SemClear t k) = nothing
by_sight P truth nothing sleeper count _ = truth

pub sight_told : (e : Event) (saw : Seen) → IsSightOf e saw → IsTold saw
sight_told = by_sight (λ Tells. (saw : Seen) → Tells saw → IsTold saw) truth_told nothing_told sleeper_told count_told

-- the line without its end is the event, a space and a word
pub record IsCut (line : List ℕ) (x : Sighting) : Type 0 where
  pub front : List ℕ
  pub word : List ℕ
  pub spells : Spells (front ++ 10 ∷ []) x.event
  pub sight : IsSightOf x.event x.saw
  pub told_is : told x.saw ≡ 32 ∷ word
  pub no_space : clean 32 word ≡ true
  pub no_feed : clean 10 line ≡ true
  pub parts : line ≡ front ++ (32 ∷ word)

pub cut : (line : List ℕ) (x : Sighting) → SpellsSighting (line ++ 10 ∷ []) x → IsCut line x
cut line x is =
    let says = sight_told x.event x.saw is.sight in
    let parts : line ≡ is.front ++ (32 ∷ says.word) =
    append_cancel_right line (is.front ++ (32 ∷ says.word)) (10 ∷ [])
    (is.parts ∙ ap (λ t. is.front ++ (t ++ 10 ∷ [])) says.is ∙ sym (append_assoc is.front (32 ∷ says.word) (10 ∷ []))) in
    record {
      front = is.front;
      word = says.word;
      spells = is.spells;
      sight = is.sight;
      told_is = says.is;
      no_space = says.no_space;
      no_feed = ap (clean 10) parts ∙ clean_append 10 is.front (32 ∷ says.word) (clean_front is.front x.event is.spells) says.no_feed;
      parts = parts;
    }

-- each spelled line is one line
pub sighting_is_one : (text : List ℕ) (x : Sighting) → SpellsSighting text x → IsOneLine text
sighting_is_one text x is =
    let front : List ℕ = is.front ++ told x.saw in
    let parts : text ≡ front ++ 10 ∷ [] = is.parts ∙ sym (append_assoc is.front (told x.saw) (10 ∷ [])) in
    record { front = front; parts = parts; clean_is = (cut front x (subst (λ t. SpellsSighting t x) parts is)).no_feed }

-- k is the place of the last space
abbrev pub IsLastSpace : List ℕ → ℕ → Type 0
IsLastSpace line k = (k < length line) × (get_or line k 0 ≡ 32) × ((i : ℕ) → k < i → i < length line → get_or line i 0 ≢ 32)

pub space_at : (front word : List ℕ) → get_or (front ++ (32 ∷ word)) (length front) 0 ≡ 32
space_at front word = get_or-append_seam front 32 word 0

pub behind_space : (front word : List ℕ) (k : ℕ) → length front < k →
    get_or (front ++ (32 ∷ word)) k 0 ≡ get_or word (k - length front - 1) 0
behind_space front word k past =
    let n : ℕ = k - length front - 1 in
    let is : k ≡ length front + suc n = omega (arith, past) in
    ap (λ i. get_or (front ++ (32 ∷ word)) i 0) is ∙ get_or-append-add front (32 ∷ word) (suc n) 0

pub last_is : (front word : List ℕ) (k : ℕ) → clean 32 word ≡ true → IsLastSpace (front ++ (32 ∷ word)) k → k ≡ length front
last_is front word k no_space (within, is, after) =
    elim (cases_lt k (length front)) [
      | inl early ↦ absurd (after (length front) early (omega (arith, length-append front (32 ∷ word))) (space_at front word))
      | inr late ↦ elim (cases_lt (length front) k) [
        | inl past ↦ absurd (clean_at 32 word no_space (k - length front - 1)
            (omega (arith, within, length-append front (32 ∷ word), past)) (sym (behind_space front word k past) ∙ is))
        | inr same ↦ omega (arith, late, same)
      ]
    ]

pub front_taken : (front ys : List ℕ) → (take (length front) (front ++ ys) ≡ front) × (drop (length front) (front ++ ys) ≡ ys)
front_taken [] ys = (refl, refl)
front_taken (b ∷ front) ys = let more = front_taken front ys in (ap (λ bs. b ∷ bs) more.0, more.1)

-- so the place of the last space parts the event from what was seen
pub cut_at : (line : List ℕ) (x : Sighting) (k : ℕ) → (is : IsCut line x) → IsLastSpace line k
    → (take k line ≡ is.front) × (drop k line ≡ told x.saw)
cut_at line x k is last =
    let at = last_is is.front is.word k is.no_space (subst (λ l. IsLastSpace l k) is.parts last) in
    let both = front_taken is.front (32 ∷ is.word) in (
      ap (take k) is.parts ∙ ap (λ i. take i (is.front ++ (32 ∷ is.word))) at ∙ both.0,
      ap (drop k) is.parts ∙ ap (λ i. drop i (is.front ++ (32 ∷ is.word))) at ∙ both.1 ∙ sym is.told_is,
    )

pub cut_has_space : (line : List ℕ) (x : Sighting) → IsCut line x → ((i : ℕ) → i < length line → get_or line i 0 ≢ 32) → ⊥
cut_has_space line x is none =
    none (length is.front) (omega (arith, ap length is.parts, length-append is.front (32 ∷ is.word)))
    (ap (λ l. get_or l (length is.front) 0) is.parts ∙ space_at is.front is.word)

-- the line that was put together of the two
pub joined : (line : List ℕ) (x : Sighting) (k : ℕ) → Spells (take k line ++ 10 ∷ []) x.event → IsSightOf x.event x.saw
    → drop k line ≡ told x.saw → SpellsSighting (line ++ 10 ∷ []) x
joined line x k spells sight is = record {
  front = take k line;
  spells = spells;
  sight = sight;
  parts = ap (λ l. l ++ 10 ∷ []) (sym (take-append-drop k line) ∙ ap (λ t. take k line ++ t) is)
      ∙ append_assoc (take k line) (told x.saw) (10 ∷ []);
}

-- a front that was put into an array of LFs, and the next of them
pub feed_behind : (n m : ℕ) → n < m → take {A = ℕ} 1 (drop n (replicate m 10)) ≡ 10 ∷ []
feed_behind n zero within = absurd (omega arith)
feed_behind zero (suc m) within = refl
feed_behind (suc n) (suc m) within = feed_behind n m (omega (arith, within))

pub ended : (front put : List ℕ) (m : ℕ) → put ≡ front → length front < m →
    take {A = ℕ} (length front + 1) (put ++ drop (length front) (replicate m 10)) ≡ front ++ 10 ∷ []
ended front put m same within =
    let n : ℕ = length front in
    let rest : List ℕ = drop n (replicate m 10) in
    ap (λ p. take (n + 1) (p ++ rest)) same
    ∙ take-add n 1 (front ++ rest)
    ∙ ap (λ t. t ++ take 1 (drop n (front ++ rest))) (take_at front rest n refl)
    ∙ ap (λ t. front ++ take 1 t) (drop_at front rest n refl)
    ∙ ap (λ t. front ++ t) (feed_behind n m within)
