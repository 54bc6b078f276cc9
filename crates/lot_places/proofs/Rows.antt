-- The links of a row, with the places that they lead through written out, and what becomes of them.
use Rattle.std.proofs.Common.{◌≡◌, ◌≢◌, ℕ, ◌+◌, ◌-◌, ◌<◌, ◌≤◌, inl, inr, cond, ltb, List, [], ◌∷◌, ◌++◌, length, get_or, set, refl, sym}
use Rattle.std.proofs.Common.{◌∙◌, ap, subst, arith}
use Rattle.std.proofs.lemmas.List.{length-append, length-set, get_or-set_same, get_or-set_other}
use Rattle.std.proofs.lemmas.Bool.{lt-ltb, le-ltb, cases_lt, cond-true, cond-false}
use Rattle.std.proofs.lemmas.Bool.Decides.{eqb_tells}
use Rattle.lot_places.specs.Links.{times, last_of, way_from, row_of, IsLinked}
use Rattle.lot_places.proofs.Ways.{times-append, times_here, times_below, last_stands, start_or_stands, last_of-append}
use Rattle.lot_places.proofs.Ways.{Leads, length-way_from, Leads-way_from, way_from-Leads, Leads-append, Leads-split, Leads-set}
use Rattle.lot_places.proofs.Ways.{Leads-redirect}

-- the links lead through these places in use, and through these free ones
pub record Chained (next : List ℕ) (room len last free : ℕ) (used spare : List ℕ) : Type 0 where
  pub size : room ≡ length next - 1
  pub count : len ≡ length used
  pub all : room ≡ length used + length spare
  pub complete : (p : ℕ) → times p used + times p spare ≡ cond (ltb p room) 1 0
  pub ends : last ≡ last_of room used
  pub in_use : (e : ℕ) × Leads next (get_or next room 0) used e
  pub unused : (e : ℕ) × Leads next free spare e

pub opened : {next : List ℕ} {room len last free : ℕ} → IsLinked next room len last free
    → Chained next room len last free (way_from next len (get_or next room 0)) (way_from next (room - len) free)
opened {next} {room} {len} {last} {free} linked =
    let used = way_from next len (get_or next room 0) in
    let spare = way_from next (room - len) free in
    record {
      size = linked.size;
      count = sym (length-way_from next len (get_or next room 0));
      all = omega (arith, linked.fits, length-way_from next len (get_or next room 0), length-way_from next (room - len) free);
      complete = λ p. sym (times-append p used spare) ∙ linked.complete p;
      ends = linked.ends;
      in_use = Leads-way_from next len (get_or next room 0);
      unused = Leads-way_from next (room - len) free;
    }

module _ {next : List ℕ} {room len last free : ℕ} {used spare : List ℕ} (c : Chained next room len last free used spare) where
  pub used_is : way_from next len (get_or next room 0) ≡ used
  used_is = ap (λ n. way_from next n (get_or next room 0)) c.count ∙ way_from-Leads next (get_or next room 0) used c.in_use.0 c.in_use.1

  pub spare_is : way_from next (room - len) free ≡ spare
  spare_is =
      let left : room - len ≡ length spare = omega (arith, c.all, c.count) in
      ap (λ n. way_from next n free) left ∙ way_from-Leads next free spare c.unused.0 c.unused.1

  pub row_is : row_of next room len free ≡ record { room = room; used = used; free = spare }
  row_is = rw (used_is, spare_is) refl

  pub closed : IsLinked next room len last free
  closed =
      record {
        size = c.size;
        fits = omega (arith, c.all, c.count);
        complete = λ p. rw (used_is, spare_is) (times-append p used spare ∙ c.complete p);
        ends = rw used_is c.ends;
      }

  -- who stands in one of the lists is a place
  pub place_of : (p : ℕ) → 0 < times p used + times p spare → p < room
  place_of p stands =
      elim (cases_lt p room) [
        | inl below ↦ below
        | inr past ↦ absurd (let none : times p used + times p spare ≡ 0 =
            c.complete p ∙ cond-false _ 1 0 (le-ltb p room past) in omega arith)
      ]

  pub at_most_once : (p : ℕ) → times p used + times p spare ≤ 1
  at_most_once p =
      elim (cases_lt p room) [
        | inl below ↦ omega (arith, c.complete p ∙ cond-true _ 1 0 (lt-ltb p room below))
        | inr past ↦ omega (arith, c.complete p ∙ cond-false _ 1 0 (le-ltb p room past))
      ]

  -- the entry behind the places is none of them
  no_place : times room used + times room spare ≡ 0
  no_place = c.complete room ∙ cond-false _ 1 0 (le-ltb room room (omega arith))

  -- of two parts of the lists, the last of the first (or the entry behind the places) does not stand in the second
  last_apart : (xs ys : List ℕ) → ((q : ℕ) → times q xs + times q ys ≤ times q used + times q spare) → times (last_of room xs) ys ≡ 0
  last_apart xs ys parts =
      let last = last_of room xs in
      elim (start_or_stands room xs) [
        | inl e ↦ rw e (omega (arith, parts room, no_place))
        | inr stands ↦ omega (arith, parts last, at_most_once last)
      ]

  -- a part of those in use, with the entry behind the places first, has no place twice
  behind_once : (xs : List ℕ) → ((q : ℕ) → times q xs ≤ times q used) → (q : ℕ) → times q (room ∷ xs) ≤ 1
  behind_once xs part q =
      elim (eqb_tells room q) [
        | inl e ↦ let gone : times q xs ≡ 0 = rw (← e.1) (omega (arith, part room, no_place)) in rw e.0 (omega (arith, gone))
        | inr e ↦ rw e.0 (omega (arith, part q, at_most_once q))
      ]

  -- the last of a part of those in use has a link
  pub last_within : (xs : List ℕ) → ((q : ℕ) → times q xs ≤ times q used) → 0 < room → last_of room xs < length next
  last_within xs part some =
      let last = last_of room xs in
      elim (start_or_stands room xs) [
        | inl e ↦ omega (arith, e, c.size)
        | inr stands ↦ omega (arith, part last, c.size, place_of last (omega (arith, part last)))
      ]

-- the first free place is taken into use, as the last
pub appended : {next : List ℕ} {room len last free : ℕ} {used spare : List ℕ} → Chained next room len last free used (free ∷ spare)
    → Chained (set next last free) room (len + 1) free (get_or next free 0) (used ++ free ∷ []) spare
appended {next} {room} {len} {last} {free} {used} {spare} c =
    let part : (q : ℕ) → times q used ≤ times q used = λ q. omega arith in
    let bound = last_within c used part (omega (arith, c.all)) in
    let apart : times last spare ≡ 0 = rw c.ends (last_apart c used spare (λ q. omega (arith, times_below q free spare))) in
    let then = set next last free in
    record {
      size = omega (arith, c.size, length-set next last free);
      count = omega (arith, c.count, length-append used (free ∷ []));
      all = omega (arith, c.all, length-append used (free ∷ []));
      complete = λ p. omega (arith, c.complete p, times-append p used (free ∷ []));
      ends = sym (last_of-append room used (free ∷ []));
      in_use = (
        get_or then free 0,
        Leads-append then (get_or then room 0) used free (free ∷ []) _
            (rw c.ends (Leads-redirect next room used c.in_use.0 free (behind_once c used part) bound c.in_use.1)) (refl, refl),
      );
      unused = (c.unused.0, Leads-set next last free (get_or next free 0) spare c.unused.0 apart c.unused.1.1);
    }

-- the last place once one is taken out, which was the last itself or was not
ends_without : (room place last last' : ℕ) (front back : List ℕ) → last ≡ last_of room (front ++ place ∷ back) → times place back ≡ 0
    → (place ≡ last → last' ≡ last_of room front) → (place ≢ last → last' ≡ last) → last' ≡ last_of room (front ++ back)
ends_without room place last last' front [] ends none was stays =
    was (sym (ends ∙ last_of-append room front (place ∷ []))) ∙ sym (last_of-append room front [])
ends_without room place last last' front (x ∷ xs) ends none was stays =
    let e : last ≡ last_of x xs = ends ∙ last_of-append room front (place ∷ x ∷ xs) in
    let other : place ≢ last =
    λ same. (let here : 0 < times place (x ∷ xs) =
    subst (λ (q : ℕ). 0 < times q (x ∷ xs)) (sym (same ∙ e)) (last_stands x xs) in omega arith) in
    stays other ∙ e ∙ sym (last_of-append room front (x ∷ xs))

-- a place is taken out of use, wherever it stands
module _ {next : List ℕ} {room len last free : ℕ} (front back spare : List ℕ) (place : ℕ)
    (c : Chained next room len last free (front ++ place ∷ back) spare) where
  stands : (q : ℕ) → times q (front ++ place ∷ back) ≡ times q front + times q (place ∷ back)
  stands q = times-append q front (place ∷ back)

  part : (q : ℕ) → times q front ≤ times q (front ++ place ∷ back)
  part q = omega (arith, stands q)

  alone : times place front + times place back + times place spare ≡ 0
  alone = omega (arith, at_most_once c place, stands place, times_here place back)

  pub before_within : last_of room front < length next
  before_within = last_within c front part (omega (arith, c.all, length-append front (place ∷ back)))

  pub place_within : place < room
  place_within = place_of c place (omega (arith, stands place, times_here place back))

  pub removed : (last' : ℕ) → (place ≡ last → last' ≡ last_of room front) → (place ≢ last → last' ≡ last)
      → Chained (set (set next (last_of room front) (get_or next place 0)) place free) room (len - 1) last' place
      (front ++ back) (place ∷ spare)
  removed last' was stays =
      let before = last_of room front in
      let after = get_or next place 0 in
      let once = set next before after in
      let twice = set once place free in
      let split = Leads-split next (get_or next room 0) front (place ∷ back) c.in_use.0 c.in_use.1 in
      let none = last_apart c front (back ++ spare) (λ q. omega (arith, stands q, times-append q back spare, times_below q place back)) in
      let apart : times before back + times before spare ≡ 0 = omega (arith, none, times-append before back spare) in
      let first : get_or twice room 0 ≡ get_or once room 0 =
      get_or-set_other once place room free 0 (λ same. omega (arith, place_within)) in
      let freed : get_or twice place 0 ≡ free =
      get_or-set_same once place free 0 (omega (arith, c.size, place_within, length-set next before after)) in
      let redirected = Leads-redirect next room front split.0 after (behind_once c front part) before_within split.1 in
      let to_front = Leads-set once place free (get_or once room 0) front after (omega (arith, alone)) redirected in
      let to_back =
      Leads-set once place free after back c.in_use.0 (omega (arith, alone))
      (Leads-set next before after after back c.in_use.0 (omega (arith, apart)) split.2.1) in
      let to_spare =
      Leads-set once place free free spare c.unused.0 (omega (arith, alone))
      (Leads-set next before after free spare c.unused.0 (omega (arith, apart)) c.unused.1) in
      record {
        size = omega (arith, c.size, length-set next before after, length-set once place free);
        count = omega (arith, c.count, length-append front (place ∷ back), length-append front back);
        all = omega (arith, c.all, length-append front (place ∷ back), length-append front back);
        complete = λ p. omega (arith, c.complete p, stands p, times-append p front back);
        ends = ends_without room place last last' front back c.ends (omega (arith, alone)) was stays;
        in_use = (c.in_use.0, Leads-append twice (get_or twice room 0) front after back c.in_use.0 (rw first to_front) to_back);
        unused = (c.unused.0, (refl, rw freed to_spare));
      }
