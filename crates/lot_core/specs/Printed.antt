-- A state as text.
use Rattle.std.specs.Prelude.{ℕ, ◌+◌, ◌*◌, List, [], ◌∷◌, ◌++◌, codes, decimal, flat_map, find, Option, Some, None}
use Rattle.std.specs.List.{join_by, range_with_len}
use Rattle.lot_events.specs.declared.events.Point.{Point}
use Rattle.lot_events.specs.declared.events.Point.TheVariants.{Calm, Wants, Bed, Rest, Sweeps, Seeks}
use Rattle.lot_core.specs.Sums.{total, bit}
use Rattle.lot_core.specs.Model.{StateView}

-- the threads of a line, in order
unfoldable pub line_text : List ℕ → List ℕ
line_text [] = codes "-"
line_text (t ∷ ts) = join_by decimal (codes ",") (t ∷ ts)

abbrev pub owner_text : Option ℕ → List ℕ
owner_text None = codes "-"
owner_text (Some t) = decimal t

-- the first thread that has the lock
abbrev pub owner_of : StateView → ℕ → Option ℕ
owner_of w l = find (w.locks.has l) (range_with_len 0 w.threads)

abbrev pub point_text : Point → List ℕ
point_text Calm = codes "calm"
point_text (Wants l) = codes "wants " ++ decimal l
point_text (Bed c l) = codes "bed " ++ decimal c ++ codes " " ++ decimal l
point_text (Rest c l) = codes "rest " ++ decimal c ++ codes " " ++ decimal l
point_text (Sweeps c) = codes "sweeps " ++ decimal c
point_text (Seeks k) = codes "seeks " ++ decimal k

unfoldable pub lock_line : StateView → ℕ → List ℕ
lock_line w l =
    codes "lock " ++ decimal l
    ++ codes " word " ++ decimal (bit (w.locks.held l) + 2 * bit (w.locks.parked l))
    ++ codes " owner " ++ owner_text (owner_of w l) ++ codes " line " ++ line_text (w.locks.line l) ++ codes "\n"

unfoldable pub cond_line : StateView → ℕ → List ℕ
cond_line w c =
    codes "cond " ++ decimal c ++ codes " flag " ++ decimal (bit (w.conds.flag c))
    ++ codes " line " ++ line_text (w.conds.line c) ++ codes "\n"

unfoldable pub sem_line : StateView → ℕ → List ℕ
sem_line w k =
    codes "sem " ++ decimal k ++ codes " left " ++ decimal (w.sems.left k)
    ++ codes " out " ++ decimal (total w.threads (w.sems.out k))
    ++ codes " parked " ++ decimal (bit (w.sems.parked k)) ++ codes " line " ++ line_text (w.sems.line k) ++ codes "\n"

unfoldable pub thread_line : StateView → ℕ → List ℕ
thread_line w t = codes "thread " ++ decimal t ++ codes " " ++ point_text (w.point t) ++ codes "\n"

abbrev pub printed : StateView → List ℕ
printed w =
    flat_map (lock_line w) (range_with_len 0 w.lock_count)
    ++ flat_map (cond_line w) (range_with_len w.lock_count w.cond_count)
    ++ flat_map (sem_line w) (range_with_len (w.lock_count + w.cond_count) w.sem_count)
    ++ flat_map (thread_line w) (range_with_len 0 w.threads)
