-- What has been read of a script, line by line.
use Rattle.std.proofs.Common.{◌≡◌, ◌≢◌, ◌<◌, ◌≤◌, ◌+◌, ◌++◌, ℕ, List, [], ◌∷◌, length, length-append, refl, sym, ap, ◌∙◌, subst, arith}
use Rattle.std.proofs.Common.{append_assoc, ◌⊎◌, inl, inr, Some, None}
use Rattle.std.specs.Prelude.{codes}
use Rattle.std.proofs.lemmas.List.{append-nil, nil_from_length}
use Rattle.lot_events.specs.declared.events.Event.{Event}
use Rattle.lot_core.specs.declared.script.TheConstants.{MAX_LINES}
use Rattle.lot_core.specs.Script.{line, Spells, SpellsAll, SpellsScript, IsFirstBad, BeginsWith, NoEvent, WantsMemory}
use Rattle.lot_core.specs.Reading.{field_at, end_at, open_at, ReadsNumbers, SpellsFront, AreGoodLines, IsBadLine}
use Rattle.lot_core.proofs.Openings.{opening_takes, same_numbers}
use Rattle.lot_core.proofs.ReadBack.{beyond, line_not_nil}

-- one more line
pub spells_push : (lines : List ℕ) (events : List Event) (first : List ℕ) (e : Event) → SpellsAll lines events → Spells first e →
    SpellsAll (lines ++ first) (events ++ e ∷ [])
spells_push lines [] first e none is = (first, is, ([], refl, ap (λ l. l ++ first) none ∙ sym (append-nil first)))
spells_push lines (x ∷ events) first e (front, spells, (rest, each, parts)) is = (
  front,
  spells,
  (rest ++ first, spells_push rest events first e each is, ap (λ l. l ++ first) parts ∙ append_assoc front rest first),
)

pub front_none : (text : List ℕ) → SpellsFront text [] text
front_none text = record { lines = []; each = refl; parts = refl }

pub front_push : (text : List ℕ) (events : List Event) (rest : List ℕ) (e : Event) (behind : List ℕ) →
    SpellsFront text events rest → BeginsWith rest e behind → SpellsFront text (events ++ e ∷ []) behind
front_push text events rest e behind front taken = record {
  lines = front.lines ++ taken.0;
  each = spells_push front.lines events taken.0 e front.each taken.1;
  parts = front.parts ∙ ap (λ r. front.lines ++ r) taken.2 ∙ sym (append_assoc front.lines taken.0 behind);
}

-- what was read of the lines began with one, where another was found behind them
pub front_first : (text : List ℕ) (events : List Event) (rest : List ℕ) (e : Event) (behind : List ℕ) →
    SpellsFront text events rest → BeginsWith rest e behind → (f : Event) × (after : List ℕ) × BeginsWith text f after
front_first text [] rest e behind front taken =
    (e, behind, subst (λ t. BeginsWith t e behind) (sym (front.parts ∙ ap (λ l. l ++ rest) front.each)) taken)
front_first text (f ∷ events) rest e behind front taken = (
  f,
  front.each.2.0 ++ rest,
  (
    front.each.0,
    front.each.1,
    front.parts ∙ ap (λ l. l ++ rest) front.each.2.2 ∙ append_assoc front.each.0 front.each.2.0 rest,
  ),
)

-- a line less is left
pub line_shorter : (text : List ℕ) (e : Event) (behind : List ℕ) → BeginsWith text e behind → length behind < length text
line_shorter text e behind (first, spells, parts) = shorter first refl
  where
    shorter : (f : List ℕ) → first ≡ f → length behind < length text
    shorter [] none = absurd (line_not_nil first e [] spells (append-nil first ∙ none))
    shorter (byte ∷ f) is = omega (arith, ap length parts, ap length is, length-append first behind)

-- the lines from the second on were read up to line `number`, and `rest` is left
pub record IsSoFar (lines rest : List ℕ) (number : ℕ) : Type 0 where
  pub events : List Event
  pub front : SpellsFront lines events rest
  pub count : number ≡ length events + 2

pub so_first : (lines : List ℕ) → IsSoFar lines lines 2
so_first lines = record { events = []; front = front_none lines; count = refl }

pub so_more : (lines rest : List ℕ) (number : ℕ) (e : Event) (behind : List ℕ) → IsSoFar lines rest number → BeginsWith rest e behind →
    IsSoFar lines behind (number + 1)
so_more lines rest number e behind so taken = record {
  events = so.events ++ e ∷ [];
  front = front_push lines so.events rest e behind so.front taken;
  count = omega (arith, so.count, length-append so.events (e ∷ []));
}

pub so_done : (lines rest : List ℕ) (number : ℕ) → IsSoFar lines rest number → number ≤ MAX_LINES + 1 → length rest ≡ 0 →
    AreGoodLines lines
so_done lines rest number so few none =
    (so.events, subst (SpellsFront lines so.events) (nil_from_length rest none) so.front, omega (arith, so.count))

pub not_nil : (rest : List ℕ) → 0 < length rest → rest ≢ []
not_nil rest some e = omega (arith, ap length e)

-- line `number` is not as said, for one reason or the other
so_fails : (lines rest : List ℕ) (number : ℕ) → IsSoFar lines rest number → number ≤ MAX_LINES + 1 → 0 < length rest →
    NoEvent rest ⊎ (number ≡ MAX_LINES + 1) → IsBadLine lines number
so_fails lines rest number so few some why = record {
  events = so.events;
  rest = rest;
  front = so.front;
  few = omega (arith, so.count);
  count = so.count;
  some = not_nil rest some;
  why = why;
}

pub so_bad : (lines rest : List ℕ) (number : ℕ) → IsSoFar lines rest number → number ≤ MAX_LINES + 1 → 0 < length rest → NoEvent rest →
    IsBadLine lines number
so_bad lines rest number so few some none = so_fails lines rest number so few some (inl none)

pub so_many : (lines rest : List ℕ) (number : ℕ) → IsSoFar lines rest number → number ≡ MAX_LINES + 1 → 0 < length rest →
    IsBadLine lines (MAX_LINES + 1)
so_many lines rest number so last some =
    subst (IsBadLine lines) last (so_fails lines rest number so (omega arith) some (inr last))

-- a text was cut into its first line and good lines
pub record IsCut (text : List ℕ) (n l c : ℕ) (numbers lines : List ℕ) : Type 0 where
  pub permits : List ℕ
  pub events : List Event
  pub script : SpellsScript text n l c permits events
  pub behind : List ℕ
  pub reads : ReadsNumbers numbers permits behind
  pub all : field_at behind ≡ None
  pub each : SpellsAll lines events

pub cut : (text : List ℕ) (n l c : ℕ) (numbers permits behind lines : List ℕ) → open_at text ≡ Some (n, l, c, numbers) →
    ReadsNumbers numbers permits behind → field_at behind ≡ None → end_at behind ≡ Some lines → AreGoodLines lines →
    IsCut text n l c numbers lines
cut text n l c numbers permits behind lines opens reads all ends (events, front, few) =
    let first = opening_takes text n l c numbers permits behind lines opens reads ends in
    let each : SpellsAll lines events =
    subst (λ t. SpellsAll t events) (sym (front.parts ∙ append-nil front.lines)) front.each in
    record {
      permits = permits;
      events = events;
      script = record {
        first = line (codes "open") (n ∷ l ∷ c ∷ permits);
        rest = lines;
        opens = first.0;
        each = each;
        few = few;
        parts = first.1;
      };
      behind = behind;
      reads = reads;
      all = all;
      each = each;
    }

pub cut_bad : (text : List ℕ) (n l c : ℕ) (numbers permits behind lines : List ℕ) (number : ℕ) →
    open_at text ≡ Some (n, l, c, numbers) → ReadsNumbers numbers permits behind → end_at behind ≡ Some lines → IsBadLine lines number →
    IsFirstBad text number
cut_bad text n l c numbers permits behind lines number opens reads ends bad =
    let first = opening_takes text n l c numbers permits behind lines opens reads ends in
    let front : List ℕ = line (codes "open") (n ∷ l ∷ c ∷ permits) in
    inr (
      bad.rest,
      record {
        good = front ++ bad.front.lines;
        threads = n;
        locks = l;
        conds = c;
        permits = permits;
        events = bad.events;
        spells = record {
          first = front;
          rest = bad.front.lines;
          opens = first.0;
          each = bad.front.each;
          few = bad.few;
          parts = refl;
        };
        parts = first.1 ∙ ap (λ r. front ++ r) bad.front.parts ∙ sym (append_assoc front bad.front.lines bad.rest);
        count = bad.count;
      },
      bad.some,
      bad.why,
    )

-- what was kept of it is the script that it spells
pub cut_kept : (text : List ℕ) (n l c : ℕ) (numbers lines permits behind : List ℕ) (events : List Event) (rest : List ℕ) →
    IsCut text n l c numbers lines → ReadsNumbers numbers permits behind → field_at behind ≡ None → SpellsFront lines events rest →
    NoEvent rest → SpellsScript text n l c permits events
cut_kept text n l c numbers lines permits behind events rest is reads all front none =
    let same = same_numbers numbers is.permits is.behind permits behind is.reads is.all reads all in
    let left = beyond lines is.events front.lines events rest is.each front.each front.parts in
    subst (λ ps. SpellsScript text n l c ps events) same
    (subst (SpellsScript text n l c is.permits) (none_left left.more left.parts left.spells) is.script)
  where
    none_left : (more : List Event) → is.events ≡ events ++ more → SpellsAll rest more → is.events ≡ events
    none_left [] parts spells = parts ∙ append-nil events
    none_left (e ∷ more) parts (first, spells, (behind', each, same)) = absurd (none e first behind' spells same)

-- with a permit or an event memory is wanted for it
cut_wants : {text : List ℕ} {n l c : ℕ} {numbers lines : List ℕ} → (is : IsCut text n l c numbers lines)
    → 0 < length is.permits + length is.events → WantsMemory text
cut_wants {n = n} {l} {c} is some =
    record { threads = n; locks = l; conds = c; permits = is.permits; events = is.events; spells = is.script; some = some }

-- a semaphore's permits were read, and not kept
pub cut_lacks_permits : (text : List ℕ) (n l c : ℕ) (numbers lines : List ℕ) (p : ℕ) (rest : List ℕ) → IsCut text n l c numbers lines →
    field_at numbers ≡ Some (p, rest) → WantsMemory text
cut_lacks_permits text n l c numbers lines p rest is reads = cut_wants is (let one = some_number is.permits is.reads in omega arith)
  where
    some_number : (ps : List ℕ) → ReadsNumbers numbers ps is.behind → 0 < length ps
    some_number [] same = let found = sym reads ∙ ap field_at same ∙ is.all in absurd (cc)
    some_number (q ∷ ps) others = omega arith

-- an event was read, and not kept
pub cut_lacks_events : (text : List ℕ) (n l c : ℕ) (numbers lines : List ℕ) (e : Event) (rest : List ℕ) → IsCut text n l c numbers lines →
    BeginsWith lines e rest → WantsMemory text
cut_lacks_events text n l c numbers lines e rest is (first, spells, parts) =
    cut_wants is (let one = some_event is.events is.each in omega arith)
  where
    some_event : (events : List Event) → SpellsAll lines events → 0 < length events
    some_event [] none = absurd (line_not_nil first e rest spells (sym parts ∙ none))
    some_event (f ∷ events) others = omega arith
