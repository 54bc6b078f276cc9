-- What each step on a row finds, and what it leaves.
use Rattle.std.proofs.Common.{◌≡◌, ◌≢◌, ℕ, suc, ◌+◌, ◌-◌, ◌<◌, ◌≤◌, List, [], ◌∷◌, ◌++◌, length, get_or, set, take, drop, remove, sym, ◌∙◌}
use Rattle.std.proofs.Common.{ap, subst, arith, take-append-drop, drop-cons}
use Rattle.std.proofs.lemmas.List.{take_more, take_at, length-take-le, get_or_default}
use Rattle.std.proofs.lemmas.List.Edits.{length-remove}
use Rattle.lot_places.specs.Links.{Row, times, last_of, row_of, IsLinked, StandsIn}
use Rattle.lot_places.specs.declared.links.Cursor.{Cursor}
use Rattle.lot_places.specs.declared.links.Links.TheInside.{Inside}
use Rattle.lot_places.proofs.Ways.{times_here, last_of-append, first_of_way, next_of_last}
use Rattle.lot_places.proofs.Rows.{Chained, opened, place_of, at_most_once, last_within, appended, before_within, place_within, removed}

-- a list, cut at one of its places
cut_at : (xs : List ℕ) (i : ℕ) → i < length xs → take i xs ++ get_or xs i 0 ∷ drop (suc i) xs ≡ xs
cut_at xs i lt = ap (λ ys. take i xs ++ ys) (sym (drop-cons xs i 0 lt)) ∙ take-append-drop i xs

pub last_of_take_more : (b : ℕ) (xs : List ℕ) (i : ℕ) → i < length xs → last_of b (take (i + 1) xs) ≡ get_or xs i 0
last_of_take_more b xs i lt = ap (last_of b) (take_more xs i 0 lt) ∙ last_of-append b (take i xs) (get_or xs i 0 ∷ [])

-- the fields are links, and are seen as the row
abbrev pub Shows : Inside → Row → Type 0
Shows fields row =
    IsLinked fields.next.items fields.room fields.len fields.last fields.free
    × (row_of fields.next.items fields.room fields.len fields.free ≡ row)

module _ (fields : Inside) (row : Row) (shows : Shows fields row) where
  pub room_is : fields.room ≡ row.room
  room_is = ap (λ (r : Row). r.room) shows.1

  chained : Chained fields.next.items fields.room fields.len fields.last fields.free row.used row.free
  chained =
      let P : Row → Type 0 = λ r. Chained fields.next.items fields.room fields.len fields.last fields.free r.used r.free in
      subst P shows.1 (opened shows.0)

  -- the row, cut at one of the places in use
  cut : (i : ℕ) → i < length row.used → Chained fields.next.items fields.room fields.len fields.last fields.free
      (take i row.used ++ get_or row.used i 0 ∷ drop (suc i) row.used) row.free
  cut i lt = rw (cut_at row.used i lt) chained

  pub free_first : length row.used < row.room → row.free ≡ fields.free ∷ drop 1 row.free
  free_first less =
      first_of_way fields.next.items fields.free row.free chained.unused.0 (omega (arith, chained.all, room_is)) chained.unused.1

-- what a cursor that stands before a place in use finds
pub record IsFound (fields : Inside) (row : Row) (cursor : Cursor) : Type 0 where
  pub bound : cursor.before < length fields.next.items
  pub reads : (p : ℕ) → p ≡ get_or fields.next.items cursor.before p → p ≡ get_or row.used cursor.passed 0
  pub place : get_or row.used cursor.passed 0 < row.room
  pub wide : row.room < length fields.next.items
  pub fits : length row.used ≤ row.room

pub found : (fields : Inside) (row : Row) (cursor : Cursor) → Shows fields row → StandsIn row cursor → cursor.passed < length row.used
    → IsFound fields row cursor
found fields row cursor shows stands more =
    let next = fields.next.items in
    let i = cursor.passed in
    let front = take i row.used in
    let back = drop (suc i) row.used in
    let all = chained fields row shows in
    let same = room_is fields row shows in
    let there = cut fields row shows i more in
    let bound : cursor.before < length next = rw (stands.before, ← same) (before_within front back row.free (get_or row.used i 0) there) in
    record {
      bound = bound;
      reads =
          λ p read. read ∙ get_or_default next cursor.before p 0 bound
          ∙ rw (stands.before, ← same) (next_of_last next fields.room row.used all.in_use.0 i more all.in_use.1);
      place = rw (← same) (place_within front back row.free (get_or row.used i 0) there);
      wide = omega (arith, all.size, all.all, same);
      fits = omega (arith, all.all, same);
    }

-- what becomes of the links where the first free place is taken into use
pub record IsAppended (fields : Inside) (row : Row) : Type 0 where
  pub free : fields.free < length fields.next.items
  pub last : fields.last < length fields.next.items
  pub after : (p : ℕ) → p ≡ get_or fields.next.items fields.free p
      → Chained (set fields.next.items fields.last fields.free) fields.room (fields.len + 1) fields.free p
      (row.used ++ fields.free ∷ []) (drop 1 row.free)
  pub place : fields.free < row.room
  pub unused : times fields.free row.used ≡ 0

pub append : (fields : Inside) (row : Row) → Shows fields row → length row.used < row.room → IsAppended fields row
append fields row shows less =
    let next = fields.next.items in
    let all = chained fields row shows in
    let same = room_is fields row shows in
    let apart : Chained next fields.room fields.len fields.last fields.free row.used (fields.free ∷ drop 1 row.free) =
    rw (← free_first fields row shows less) all in
    let stands = times_here fields.free (drop 1 row.free) in
    let place = place_of apart fields.free (omega (arith, stands)) in
    let bound : fields.free < length next = omega (arith, place, all.size) in
    record {
      free = bound;
      last = rw all.ends (last_within apart row.used (λ q. omega arith) (omega (arith, less, same)));
      after = λ p read. rw (read ∙ get_or_default next fields.free p 0 bound) (appended apart);
      place = omega (arith, place, same);
      unused = omega (arith, stands, at_most_once apart fields.free);
    }

-- what becomes of the links where the place before which the cursor stands is taken out of use
pub record IsRemoved (fields : Inside) (row : Row) (cursor : Cursor) (place : ℕ) : Type 0 where
  pub within : place < length fields.next.items
  pub after : (p last : ℕ) → p ≡ get_or fields.next.items place p → (place ≡ fields.last → last ≡ cursor.before)
      → (place ≢ fields.last → last ≡ fields.last)
      → Chained (set (set fields.next.items cursor.before p) place fields.free) fields.room (fields.len - 1) last place
      (remove row.used cursor.passed) (place ∷ row.free)

pub take_out : (fields : Inside) (row : Row) (cursor : Cursor) (place : ℕ) → Shows fields row → StandsIn row cursor
    → cursor.passed < length row.used
    → place ≡ get_or fields.next.items cursor.before place → IsRemoved fields row cursor place
take_out fields row cursor place shows stands more read =
    let next = fields.next.items in
    let i = cursor.passed in
    let front = take i row.used in
    let back = drop (suc i) row.used in
    let there = found fields row cursor shows stands more in
    let here : place ≡ get_or row.used i 0 = there.reads place read in
    let apart : Chained next fields.room fields.len fields.last fields.free (front ++ place ∷ back) row.free =
    rw here (cut fields row shows i more) in
    let before : cursor.before ≡ last_of fields.room front = rw (room_is fields row shows) stands.before in
    let bound : place < length next = omega (arith, here, there.place, there.wide) in
    record {
      within = bound;
      after =
          λ p last read' was stays. rw (before, read' ∙ get_or_default next place p 0 bound)
          (removed front back row.free place apart last (λ e. was e ∙ before) stays);
    }

-- the cursor then stands before the place that came after
pub stands_still : (row : Row) (cursor : Cursor) (free : List ℕ) → StandsIn row cursor → cursor.passed < length row.used
    → StandsIn (record { room = row.room; used = remove row.used cursor.passed; free = free }) cursor
stands_still row cursor free stands more =
    let i = cursor.passed in
    record {
      within = omega (arith, length-remove row.used i more);
      before =
          stands.before
          ∙ ap (last_of row.room) (sym (take_at (take i row.used) (drop (suc i) row.used) i (length-take-le i row.used (omega arith))));
    }
