-- The rights at the opening: the first seat has them all.
use Rattle.std.specs.Prelude.{◌≡◌, ℕ, zero, suc, ◌+◌, List, [], ◌∷◌, ◌++◌, map}
use mathlib.Core.Option.{some}
use Rattle.atomic_table.specs.Seated.{TableId}
use Rattle.atomic_table.specs.Table.{opening}
use Rattle.lot_rights.specs.declared.views.PassRight.{PassRight}
use Rattle.lot_rights.specs.declared.views.RootRight.{RootRight}
use Rattle.lot_rights.specs.declared.views.Right.{Right}
use Rattle.lot_rights.specs.declared.views.Right.TheVariants.{Pass, Root}
use Rattle.lot_rights.specs.Rule.{Meaning, IsThread, IsKey, Ruled}
use Rattle.lot_rights.specs.Shown.{PassShown, RootShown, pass_at_table, root_at_table}

-- n rights, whose numbers begin at i
abbrev pub rights_from : {A : Type 0} → (ℕ → A) → ℕ → ℕ → List A
rights_from right i zero = []
rights_from right i (suc n) = right i ∷ rights_from right (i + 1) n

abbrev pub new_pass : {P : Type 0} → (ℕ → P) → ℕ → PassRight P
new_pass own t = record { thread = t; made = []; own = own t }

abbrev pub new_root : {R : Type 0} → (ℕ → R) → ℕ → RootRight R
new_root own c = record { key = c; made = []; own = own c }

module _ {S P R : Type 0} (k : Meaning S P R) where
  abbrev pub passes_from : ℕ → ℕ → List (Right P R)
  passes_from t n = rights_from (λ u. Pass (new_pass k.fresh_pass u)) t n

  abbrev pub roots_from : ℕ → ℕ → List (Right P R)
  roots_from c n = rights_from (λ d. Root (new_root k.fresh_root d)) c n

  abbrev pub all_rights : List (Right P R)
  all_rights = passes_from 0 k.threads ++ roots_from k.first_key k.keys

  -- the words and the slots stand for a world in which each right knows what it does at the opening
  pub record OpensWell (ws : List ℕ) (xs : List S) : Type 0 where
    pub world : k.World
    pub fits : k.Fits world ws (map some xs)
    pub passes : (t : ℕ) → IsThread k t → k.PassFits world t (k.fresh_pass t)
    pub roots : (c : ℕ) → IsKey k c → k.RootFits world c (k.fresh_root c)
    pub start : k.told_by world ≡ k.start
    pub owed : (c : ℕ) → k.owed_in world c ≡ 0

  -- a table with these words and slots, all of whose rights are at the first seat, keeps the rule
  abbrev pub Begins : List ℕ → List S → Type 0
  Begins ws xs = Ruled k (opening ws xs all_rights)

  -- ---- what an opening answers
  abbrev pub pass_at : TableId → ℕ → PassShown P
  pass_at table t = pass_at_table table (new_pass k.fresh_pass t)

  abbrev pub root_at : TableId → ℕ → RootShown R
  root_at table c = root_at_table table (new_root k.fresh_root c)
