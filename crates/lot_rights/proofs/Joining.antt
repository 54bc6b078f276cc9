-- Seats that join and split keep the rule.
use Rattle.std.proofs.Common.{◌≡◌, ℕ, ◌+◌, ◌<◌, List, [], ◌∷◌, ◌++◌, set, take, drop, sym, ap, subst, arith}
use Rattle.atomic_table.specs.Seated.{TableId}
use Rattle.atomic_table.specs.Table.{Me, Splits, Joins}
use Rattle.lot_rights.specs.declared.views.Right.{Right}
use Rattle.lot_rights.specs.Seating.{times, Each}
use Rattle.lot_rights.specs.Rule.{number, made_with, Meaning, RightFits, LeadsOn, Ruled}
use Rattle.lot_rights.proofs.Seats.{joins, splits, times_set, times_snoc, times_append}
use Rattle.lot_rights.proofs.Histories.{records_join, records_split}

module _ {S P R : Type 0} (k : Meaning S P R) where
  -- a seat takes in the rights of another
  pub joins_rule : (id : ℕ) (v : List (Right P R)) (other : ℕ) (w : List (Right P R)) → Joins {S = S} (Ruled k) id v other w (v ++ w) []
  joins_rule id v other w s ru at ne there = record {
    world = ru.world;
    fits = ru.fits;
    seats = joins number (RightFits k ru.world) s.views id other v w ru.seats at ne there;
    present =
        λ i is.
        omega (
          arith,
          ru.present i is,
          times_set number i (set s.views id (v ++ w)) other w [] there,
          times_set number i s.views id v (v ++ w) at,
          times_append number i v w,
        );
    log = ru.log;
    recorded = records_join number made_with (LeadsOn k) k.start ru.log s.views (k.told_by ru.world) ru.recorded id other v w at ne there;
    owed = ru.owed;
  }

  -- a seat that has one right comes to another of its table
  pub joins_seats : (id other : ℕ) (v : List (Right P R)) (me : Me S (List (Right P R))) (r : Right P R) (table mine its : TableId)
      → mine ≡ table → its ≡ table → me ≡ (r ∷ [], []) → 0 < table.words
      → (mine ≡ table) × (its ≡ table) × (me.1 ≡ []) × (0 < table.words) × Joins {S = S} (Ruled k) id v other me.0 (v ++ me.0) []
  joins_seats id other v me r table mine its here there one some =
      (here, there, ap (λ (m : Me S (List (Right P R))). m.1) one, some, joins_rule id v other me.0)

  -- the rights at a seat are cut in two
  pub splits_rule : (id : ℕ) (v l r : List (Right P R))
      → ((i : ℕ) → times {R = Right P R} number i l + times {R = Right P R} number i r ≡ times {R = Right P R} number i v)
      → ((F : Right P R → Type 0) → Each {R = Right P R} number F v → Each {R = Right P R} number F l × Each {R = Right P R} number F r)
      → Splits {S = S} (Ruled k) id v l r
  splits_rule id v l r same cut s ru at = record {
    world = ru.world;
    fits = ru.fits;
    seats = splits number (RightFits k ru.world) s.views id v l r ru.seats at (λ i. omega (arith, same i)) (cut (RightFits k ru.world));
    present =
        λ i is. omega (arith, ru.present i is, times_snoc number i (set s.views id l) r, times_set number i s.views id v l at, same i);
    log = ru.log;
    recorded = records_split number made_with (LeadsOn k) k.start ru.log s.views (k.told_by ru.world) ru.recorded id v l r at same (cut _);
    owed = ru.owed;
  }

  -- the first of two rights, and the other
  pub parts_two : (id : ℕ) (v : List (Right P R)) (a b : Right P R) → v ≡ a ∷ b ∷ [] → Splits {S = S} (Ruled k) id v (take 1 v) (drop 1 v)
  parts_two id v a b is = subst (λ z. Splits {S = S} (Ruled k) id z (take 1 z) (drop 1 z)) (sym is)
      (splits_rule id (a ∷ b ∷ []) (a ∷ []) (b ∷ []) (λ i. omega arith) (λ F e. ((e.0, tt), (e.1.0, tt))))

  -- the first right goes to a new seat
  pub deals : (id : ℕ) (v : List (Right P R)) (a : Right P R) (rest : List (Right P R)) → v ≡ a ∷ rest
      → Splits {S = S} (Ruled k) id v (drop 1 v) (take 1 v)
  deals id v a rest is = subst (λ z. Splits {S = S} (Ruled k) id z (drop 1 z) (take 1 z)) (sym is)
      (splits_rule id (a ∷ rest) rest (a ∷ []) (λ i. omega arith) (λ F e. (e.1, (e.0, tt))))
