-- A spelled script has no bad line, and one text spells one script.
use Rattle.std.proofs.Common.{◌≡◌, ◌+◌, ◌++◌, ℕ, List, [], ◌∷◌, length, length-append, None, refl, sym, ap, ◌∙◌, subst, ◌⊎◌, arith}
use Rattle.std.proofs.Common.{append_assoc, inl, inr}
use Rattle.std.proofs.lemmas.List.{append-nil}
use Rattle.lot_events.specs.declared.events.Event.{Event}
use Rattle.lot_core.specs.declared.script.TheConstants.{MAX_LINES}
use Rattle.lot_core.specs.Script.{Spells, SpellsAll, SpellsScript, IsFirstBad, NoEvent}
use Rattle.lot_core.specs.Reading.{event_at, first_of, rest_behind}
use Rattle.lot_events.proofs.Figures.{some_is}
use Rattle.lot_events.proofs.Spelled.{event_again}
use Rattle.lot_core.proofs.Openings.{same_opening}

pub nothing_read : event_at [] ≡ None
unfolding event_at first_of rest_behind
nothing_read = refl

pub line_not_nil : (first : List ℕ) (e : Event) (rest : List ℕ) → Spells first e → first ++ rest ≡ [] → ⊥
line_not_nil first e rest spells is = let read = sym (event_again first e rest spells) ∙ ap event_at is ∙ nothing_read in absurd (cc)

-- the lines begin with those of `shorter`: the rest spells what `longer` has beyond it
pub record IsBeyond (longer shorter : List Event) (rest : List ℕ) : Type 0 where
  pub more : List Event
  pub parts : longer ≡ shorter ++ more
  pub spells : SpellsAll rest more

pub beyond : (lines : List ℕ) (longer : List Event) (front : List ℕ) (shorter : List Event) (rest : List ℕ) →
    SpellsAll lines longer → SpellsAll front shorter → lines ≡ front ++ rest → IsBeyond longer shorter rest
beyond lines longer front [] rest each none is = record {
  more = longer;
  parts = refl;
  spells = subst (λ text. SpellsAll text longer) (is ∙ ap (λ text. text ++ rest) none) each;
}
beyond lines [] front (y ∷ shorter) rest none (first, spells, (behind, each, parts)) is =
    absurd (line_not_nil first y (behind ++ rest) spells
    (sym (append_assoc first behind rest) ∙ ap (λ text. text ++ rest) (sym parts) ∙ sym is ∙ none))
beyond lines (x ∷ longer) front (y ∷ shorter) rest (first, spells, (behind, each, parts)) (first', spells', (behind', each', parts')) is =
    let both = some_is (x, behind) (y, behind' ++ rest)
    (sym (event_again first x behind spells)
    ∙ ap event_at (sym parts ∙ is ∙ ap (λ text. text ++ rest) parts' ∙ append_assoc first' behind' rest)
    ∙ event_again first' y (behind' ++ rest) spells') in
    let same : x ≡ y = ap (λ (p : Event × List ℕ). p.0) both in
    let next = beyond behind longer behind' shorter rest each each' (ap (λ (p : Event × List ℕ). p.1) both) in
    record { more = next.more; parts = ap (λ e. e ∷ longer) same ∙ ap (λ es. y ∷ es) next.parts; spells = next.spells }

pub not_bad : (text : List ℕ) (n l c : ℕ) (ps : List ℕ) (events : List Event) (number : ℕ) → SpellsScript text n l c ps events
    → IsFirstBad text number → ⊥
not_bad text n l c ps events number script (inl bad) = bad.1 n l c ps script.first script.rest script.opens script.parts
not_bad text n l c ps events number script (inr (rest, good, some, why)) =
    let same = same_opening n l c good.threads good.locks good.conds ps good.permits script.first good.spells.first script.rest
    (good.spells.rest ++ rest)
    script.opens good.spells.opens
    (sym script.parts ∙ good.parts ∙ ap (λ front. front ++ rest) good.spells.parts
    ∙ append_assoc good.spells.first good.spells.rest rest) in
    let left = beyond script.rest events good.spells.rest good.events rest script.each good.spells.each same.rest in
    none_left left.more left.parts left.spells why
  where
    none_left : (more : List Event) → events ≡ good.events ++ more → SpellsAll rest more → NoEvent rest ⊎ (number ≡ MAX_LINES + 1) → ⊥
    none_left [] parts none why = some none
    none_left (e ∷ more) parts (first, spells, (behind, each, is)) (inl no_event) = no_event e first behind spells is
    none_left (e ∷ more) parts spells (inr last) =
        omega (arith, script.few, good.count, ap length parts, length-append good.events (e ∷ more))

pub one_script : (text : List ℕ) (n l c n' l' c' : ℕ) (ps ps' : List ℕ) (events events' : List Event) →
    SpellsScript text n l c ps events → SpellsScript text n' l' c' ps' events' →
    (n ≡ n') × (l ≡ l') × (c ≡ c') × (ps ≡ ps') × (events ≡ events')
one_script text n l c n' l' c' ps ps' events events' script script' =
    let same = same_opening n l c n' l' c' ps ps' script.first script'.first script.rest script'.rest script.opens script'.opens
    (sym script.parts ∙ script'.parts) in
    let left = beyond script.rest events script'.rest events' [] script.each script'.each (same.rest ∙ sym (append-nil script'.rest)) in
    (same.threads, same.locks, same.conds, same.permits, same_events left.more left.parts left.spells)
  where
    same_events : (more : List Event) → events ≡ events' ++ more → SpellsAll [] more → events ≡ events'
    same_events [] parts none = parts ∙ append-nil events'
    same_events (e ∷ more) parts (first, spells, (behind, each, is)) = absurd (line_not_nil first e behind spells (sym is))
