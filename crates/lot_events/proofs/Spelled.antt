-- A line that is read is spelled so, and a line that is spelled so is read.
use Rattle.std.proofs.Common.{◌≡◌, ◌++◌, ℕ, List, [], ◌∷◌, length, take, drop, Option, Some, None, refl, sym, ap, ◌∙◌, subst, append_assoc}
use Rattle.std.proofs.Common.{inl, inr, Bool}
use Rattle.std.specs.Prelude.{flat_map, if◌then◌else◌, bytes_eq}
use Rattle.std.specs.List.{AllByRecursion}
use Rattle.std.proofs.lemmas.List.{take-append-drop, append-nil}
use Rattle.std.proofs.lemmas.Slice.Eq.{bytes_eq-Decides}
use Rattle.lot_events.specs.declared.events.Event.{Event}
use Rattle.lot_events.specs.declared.events.Event.TheVariants as event
use Rattle.lot_events.specs.declared.reading.Kind.{Kind}
use Rattle.lot_events.specs.declared.reading.Kind.TheVariants.{Try, Take, Mark, Park, Free, Pass, Enlist, Look, Call, CallSome, Lower}
use Rattle.lot_events.specs.declared.reading.Kind.TheVariants.{Sweep, SemTake, SemMark, SemPark, SemFree, SemPass, SemClear}
use Rattle.lot_events.specs.Spelling.{bit, field, line, IsSmall, IsLine, Spells, BeginsWith, NoEvent}
use Rattle.lot_events.specs.Reading.{rest_behind, kind_word, kinds, first_of, or_else, field_at, flag_at, end_at, last_at, event_at}
use Rattle.lot_events.proofs.Cases.{by_bit}
use Rattle.lot_events.proofs.Figures.{bind_is, bind_some, some_is, Ends, field_takes, field_again, flag_takes, flag_again, end_takes}
use Rattle.lot_events.proofs.Figures.{end_again, bit_small}

-- a word at the front
pub rest_behind_takes : (w text rest : List ℕ) → rest_behind w text ≡ Some rest → text ≡ w ++ rest
unfolding rest_behind
rest_behind_takes w text rest is =
    by_bit (λ b. bytes_eq (take (length w) text) w ≡ b → (if b then Some (drop (length w) text) else None) ≡ Some rest → text ≡ w ++ rest)
    (bytes_eq (take (length w) text) w)
    (λ _ e is.
    let front : take (length w) text ≡ w = (bytes_eq-Decides (take (length w) text) w).0 e in
    let back : drop (length w) text ≡ rest = some_is (drop (length w) text) rest is in
    sym (take-append-drop (length w) text) ∙ ap (λ f. f ++ drop (length w) text) front ∙ ap (λ b. w ++ b) back)
    (λ _ e is. absurd (cc))
    refl is

pub chosen_takes : (x : Kind) (others : Option (Kind × List ℕ)) (text : List ℕ) (k : Kind) (rest : List ℕ) (o : Option (List ℕ)) →
    rest_behind (kind_word x) text ≡ o → (others ≡ Some (k, rest) → text ≡ kind_word k ++ rest) → or_else x o others ≡ Some (k, rest)
    → text ≡ kind_word k ++ rest
chosen_takes x others text k rest None e later is = later is
chosen_takes x others text k rest (Some r) e later is =
    let both = some_is (x, r) (k, rest) is in
    let k_is : x ≡ k = ap (λ (y : Kind × List ℕ). y.0) both in
    let rest_is : r ≡ rest = ap (λ (y : Kind × List ℕ). y.1) both in
    rest_behind_takes (kind_word x) text r e ∙ ap (λ j. kind_word j ++ r) k_is ∙ ap (λ s. kind_word k ++ s) rest_is

pub first_takes : (ks : List Kind) (text : List ℕ) (k : Kind) (rest : List ℕ) → first_of ks text ≡ Some (k, rest)
    → text ≡ kind_word k ++ rest
unfolding first_of
first_takes [] text k rest is = absurd (cc)
first_takes (x ∷ ks) text k rest is =
    chosen_takes x (first_of ks text) text k rest (rest_behind (kind_word x) text) refl (first_takes ks text k rest) is

pub first_again : (k : Kind) (rest : List ℕ) → first_of kinds (kind_word k ++ rest) ≡ Some (k, rest)
unfolding first_of rest_behind
first_again Try rest = refl
first_again _ rest = refl

-- what an event of this kind is, so far as its further numbers were read
pub record IsLast (k : Kind) (t x : ℕ) (text : List ℕ) (found : Event × List ℕ) : Type 0 where
  pub more : List ℕ
  pub small : AllByRecursion IsSmall more
  pub parts : text ≡ flat_map field more ++ found.1
  pub spells : (first : List ℕ) → IsLine (kind_word k) (t ∷ x ∷ more) first → Spells first found.0

pub last_of : (k : Kind) (t x : ℕ) (text : List ℕ) (e : Event) (more rest : List ℕ) (found : Event × List ℕ) →
    ((first : List ℕ) → IsLine (kind_word k) (t ∷ x ∷ more) first → Spells first e) →
    AllByRecursion IsSmall more → text ≡ flat_map field more ++ rest → Some (e, rest) ≡ Some found → IsLast k t x text found
last_of k t x text e more rest found spells small parts is =
    subst (λ y. IsLast k t x text y) (some_is (e, rest) found is)
    (record { more = more; small = small; parts = parts; spells = spells })

-- one and two parts, and what stands behind
pub one_part : (a rest : List ℕ) → (a ++ []) ++ rest ≡ a ++ rest
one_part a rest = ap (λ b. b ++ rest) (append-nil a)

pub two_parts : (a b rest : List ℕ) → (a ++ (b ++ [])) ++ rest ≡ a ++ (b ++ rest)
two_parts a b rest = append_assoc a (b ++ []) rest ∙ ap (λ c. a ++ c) (one_part b rest)

-- where a flag comes last, alone or behind a number
pub flag_last : (k : Kind) (t x : ℕ) (text rest : List ℕ) (flag : Bool) (e : Event) (found : Event × List ℕ) →
    ((first : List ℕ) → IsLine (kind_word k) (t ∷ x ∷ bit flag ∷ []) first → Spells first e) →
    flag_at text ≡ Some (flag, rest) → Some (e, rest) ≡ Some found → IsLast k t x text found
flag_last k t x text rest flag e found spells read is =
    last_of k t x text e (bit flag ∷ []) rest found spells (bit_small flag, tt)
    (flag_takes text flag rest read ∙ sym (one_part (field (bit flag)) rest)) is

pub flag_behind : (k : Kind) (t x : ℕ) (text middle rest : List ℕ) (n : ℕ) (flag : Bool) (e : Event) (found : Event × List ℕ) →
    ((first : List ℕ) → IsLine (kind_word k) (t ∷ x ∷ n ∷ bit flag ∷ []) first → Spells first e) →
    IsSmall n → text ≡ field n ++ middle → flag_at middle ≡ Some (flag, rest) → Some (e, rest) ≡ Some found → IsLast k t x text found
flag_behind k t x text middle rest n flag e found spells small starts read is =
    last_of k t x text e (n ∷ bit flag ∷ []) rest found spells (small, (bit_small flag, tt))
    (starts ∙ ap (λ r. field n ++ r) (flag_takes middle flag rest read) ∙ sym (two_parts (field n) (field (bit flag)) rest)) is

pub last_takes : (k : Kind) (t x : ℕ) (text : List ℕ) (found : Event × List ℕ) → last_at k t x text ≡ Some found → IsLast k t x text found
unfolding last_at
last_takes Pass t x text found is =
    let fair = bind_some _ (flag_at text) found is in
    let more = bind_some _ (flag_at fair.0.1) found fair.2 in
    flag_behind Pass t x text _ _ _ _ _ found (λ first is. is) (bit_small fair.0.0) (flag_takes text _ _ fair.1) more.1 more.2
last_takes Enlist t x text found is =
    let lock = bind_some _ (field_at text) found is in
    let taken = field_takes text lock.0.0 lock.0.1 lock.1 in
    last_of Enlist t x text _ (lock.0.0 ∷ []) _ found (λ first is. is) (taken.0, tt)
    (taken.1 ∙ sym (one_part (field lock.0.0) lock.0.1)) lock.2
last_takes Call t x text found is =
    let more = bind_some _ (flag_at text) found is in
    flag_last Call t x text _ _ _ found (λ first is. inr (refl, is)) more.1 more.2
last_takes CallSome t x text found is =
    let count = bind_some _ (field_at text) found is in
    let more = bind_some _ (flag_at count.0.1) found count.2 in
    let taken = field_takes text count.0.0 count.0.1 count.1 in
    flag_behind CallSome t x text _ _ _ _ _ found (λ first is. inl is) taken.0 taken.1 more.1 more.2
last_takes SemPass t x text found is =
    let more = bind_some _ (flag_at text) found is in
    flag_last SemPass t x text _ _ _ found (λ first is. is) more.1 more.2
last_takes k t x text found is = last_of k t x text _ [] text found (λ first is. is) tt refl is

-- a line of a word, two numbers and more, taken apart
pub regroup : (w a b m rest : List ℕ) → (w ++ ((a ++ (b ++ m)) ++ 10 ∷ [])) ++ rest ≡ w ++ (a ++ (b ++ (m ++ (10 ∷ rest))))
regroup w a b m rest = simp append_assoc

pub its_line : (word numbers : List ℕ) → AllByRecursion IsSmall numbers → IsLine word numbers (line word numbers)
its_line word numbers small = record { small = small; text_is = refl }

-- a line that was read part by part
pub line_read : (w : List ℕ) (t x : ℕ) (more text a b c rest behind : List ℕ) → text ≡ w ++ a → a ≡ field t ++ b → b ≡ field x ++ c →
    c ≡ flat_map field more ++ rest → rest ≡ 10 ∷ behind → text ≡ line w (t ∷ x ∷ more) ++ behind
line_read w t x more text a b c rest behind in_text in_a in_b in_c in_rest =
    in_text ∙ ap (λ r. w ++ r) (in_a
    ∙ ap (λ r. field t ++ r) (in_b ∙ ap (λ r. field x ++ r) (in_c ∙ ap (λ r. flat_map field more ++ r) in_rest)))
    ∙ sym (regroup w (field t) (field x) (flat_map field more) behind)

pub event_takes : (text : List ℕ) (e : Event) (rest : List ℕ) → event_at text ≡ Some (e, rest) → BeginsWith text e rest
unfolding event_at
event_takes text e rest is =
    let kind = bind_some _ (first_of kinds text) (e, rest) is in
    let thread = bind_some _ (field_at kind.0.1) (e, rest) kind.2 in
    let key = bind_some _ (field_at thread.0.1) (e, rest) thread.2 in
    let last = bind_some _ (last_at kind.0.0 thread.0.0 key.0.0 key.0.1) (e, rest) key.2 in
    let end = bind_some _ (end_at last.0.1) (e, rest) last.2 in
    let t = field_takes kind.0.1 thread.0.0 thread.0.1 thread.1 in
    let x = field_takes thread.0.1 key.0.0 key.0.1 key.1 in
    let l = last_takes kind.0.0 thread.0.0 key.0.0 key.0.1 last.0 last.1 in
    let both = some_is (last.0.0, end.0) (e, rest) end.2 in
    let e_is : last.0.0 ≡ e = ap (λ (y : Event × List ℕ). y.0) both in
    let rest_is : end.0 ≡ rest = ap (λ (y : Event × List ℕ). y.1) both in
    let first : List ℕ = line (kind_word kind.0.0) (thread.0.0 ∷ key.0.0 ∷ l.more) in
    let parts : text ≡ first ++ end.0 =
    line_read (kind_word kind.0.0) thread.0.0 key.0.0 l.more text kind.0.1 thread.0.1 key.0.1 last.0.1 end.0
    (first_takes kinds text kind.0.0 kind.0.1 kind.1) t.1 x.1 l.parts (end_takes last.0.1 end.0 end.1) in (
      first,
      subst (Spells first) e_is (l.spells first (its_line (kind_word kind.0.0) (thread.0.0 ∷ key.0.0 ∷ l.more) (t.0, (x.0, l.small)))),
      subst (λ r. text ≡ first ++ r) rest_is parts,
    )

pub fields_end : (more rest : List ℕ) → Ends (flat_map field more ++ (10 ∷ rest))
fields_end [] rest = refl
fields_end (m ∷ more) rest = refl

-- a line of this kind is read, so far as its further numbers are
pub again_of : (k : Kind) (t x : ℕ) (more first : List ℕ) (e : Event) (rest : List ℕ) → IsLine (kind_word k) (t ∷ x ∷ more) first →
    last_at k t x (flat_map field more ++ (10 ∷ rest)) ≡ Some (e, 10 ∷ rest) → event_at (first ++ rest) ≡ Some (e, rest)
unfolding event_at
again_of k t x more first e rest is last_is =
    let end : List ℕ = flat_map field more ++ (10 ∷ rest) in
    ap (λ l. event_at (l ++ rest)) is.text_is
    ∙ ap event_at (regroup (kind_word k) (field t) (field x) (flat_map field more) rest)
    ∙ bind_is _ (first_of kinds (kind_word k ++ (field t ++ (field x ++ end)))) (k, field t ++ (field x ++ end)) _
    (first_again k (field t ++ (field x ++ end)))
    (bind_is _ (field_at (field t ++ (field x ++ end))) (t, field x ++ end) _ (field_again t (field x ++ end) is.small.0 refl)
    (bind_is _ (field_at (field x ++ end)) (x, end) _ (field_again x end is.small.1.0 (fields_end more rest))
    (bind_is _ (last_at k t x end) (e, 10 ∷ rest) _ last_is
    (bind_is _ (end_at (10 ∷ rest)) rest _ (end_again rest) refl))))

pub event_again : (first : List ℕ) (e : Event) (rest : List ℕ) → Spells first e → event_at (first ++ rest) ≡ Some (e, rest)
unfolding last_at
event_again first (event.Try t x) rest is = again_of Try t x [] first (event.Try t x) rest is refl
event_again first (event.Take t x) rest is = again_of Take t x [] first (event.Take t x) rest is refl
event_again first (event.Mark t x) rest is = again_of Mark t x [] first (event.Mark t x) rest is refl
event_again first (event.Park t x) rest is = again_of Park t x [] first (event.Park t x) rest is refl
event_again first (event.Free t x) rest is = again_of Free t x [] first (event.Free t x) rest is refl
event_again first (event.Pass t x fair more) rest is =
    again_of Pass t x (bit fair ∷ bit more ∷ []) first (event.Pass t x fair more) rest is
    (ap (last_at Pass t x) (two_parts (field (bit fair)) (field (bit more)) (10 ∷ rest))
    ∙ bind_is _ (flag_at (field (bit fair) ++ (field (bit more) ++ (10 ∷ rest)))) (fair, field (bit more) ++ (10 ∷ rest)) _
    (flag_again fair (field (bit more) ++ (10 ∷ rest)) refl)
    (bind_is _ (flag_at (field (bit more) ++ (10 ∷ rest))) (more, 10 ∷ rest) _ (flag_again more (10 ∷ rest) refl) refl))
event_again first (event.Enlist t x l) rest is =
    again_of Enlist t x (l ∷ []) first (event.Enlist t x l) rest is
    (ap (last_at Enlist t x) (one_part (field l) (10 ∷ rest))
    ∙ bind_is _ (field_at (field l ++ (10 ∷ rest))) (l, 10 ∷ rest) _ (field_again l (10 ∷ rest) is.small.1.1.0 refl) refl)
event_again first (event.Look t x) rest is = again_of Look t x [] first (event.Look t x) rest is refl
event_again first (event.Call t x n more) rest (inl is) =
    again_of CallSome t x (n ∷ bit more ∷ []) first (event.Call t x n more) rest is
    (ap (last_at CallSome t x) (two_parts (field n) (field (bit more)) (10 ∷ rest))
    ∙ bind_is _ (field_at (field n ++ (field (bit more) ++ (10 ∷ rest)))) (n, field (bit more) ++ (10 ∷ rest)) _
    (field_again n (field (bit more) ++ (10 ∷ rest)) is.small.1.1.0 refl)
    (bind_is _ (flag_at (field (bit more) ++ (10 ∷ rest))) (more, 10 ∷ rest) _ (flag_again more (10 ∷ rest) refl) refl))
event_again first (event.Call t x n more) rest (inr (one, is)) =
    again_of Call t x (bit more ∷ []) first (event.Call t x n more) rest is
    (ap (last_at Call t x) (one_part (field (bit more)) (10 ∷ rest))
    ∙ bind_is _ (flag_at (field (bit more) ++ (10 ∷ rest))) (more, 10 ∷ rest) _ (flag_again more (10 ∷ rest) refl)
    (ap (λ m. Some (event.Call t x m more, 10 ∷ rest)) (sym one)))
event_again first (event.Lower t x) rest is = again_of Lower t x [] first (event.Lower t x) rest is refl
event_again first (event.Sweep t x) rest is = again_of Sweep t x [] first (event.Sweep t x) rest is refl
event_again first (event.SemTake t x) rest is = again_of SemTake t x [] first (event.SemTake t x) rest is refl
event_again first (event.SemMark t x) rest is = again_of SemMark t x [] first (event.SemMark t x) rest is refl
event_again first (event.SemPark t x) rest is = again_of SemPark t x [] first (event.SemPark t x) rest is refl
event_again first (event.SemFree t x) rest is = again_of SemFree t x [] first (event.SemFree t x) rest is refl
event_again first (event.SemPass t x more) rest is =
    again_of SemPass t x (bit more ∷ []) first (event.SemPass t x more) rest is
    (ap (last_at SemPass t x) (one_part (field (bit more)) (10 ∷ rest))
    ∙ bind_is _ (flag_at (field (bit more) ++ (10 ∷ rest))) (more, 10 ∷ rest) _ (flag_again more (10 ∷ rest) refl) refl)
event_again first (event.SemClear t x) rest is = again_of SemClear t x [] first (event.SemClear t x) rest is refl

pub no_event : (text : List ℕ) → event_at text ≡ None → NoEvent text
no_event text none e first more spells is = let read = ap event_at is ∙ event_again first e more spells in absurd (cc)

-- a line spells one event
pub one_event : (first : List ℕ) (e e' : Event) → Spells first e → Spells first e' → e ≡ e'
one_event first e e' is is' =
    ap (λ (y : Event × List ℕ). y.0) (some_is (e, []) (e', []) (sym (event_again first e [] is) ∙ event_again first e' [] is'))
