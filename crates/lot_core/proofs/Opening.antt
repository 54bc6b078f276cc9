-- The vectors of an opening state stand for the opening state of the model.
use Rattle.std.proofs.Common.{◌≡◌, ◌+◌, ℕ, Bool, false, List, Option, None, is_some, length, replicate, ap, ◌∙◌}
use Rattle.lot_events.specs.declared.events.Point.{Point}
use Rattle.lot_events.specs.declared.events.Point.TheVariants.{Calm}
use Rattle.lot_core.specs.declared.lines.Lines.{Lines}
use Rattle.lot_core.specs.Model.{StateView, Semaphores, opening_with, none_taken}
use Rattle.lot_core.specs.Rows.{told, row, row_from}
use Rattle.lot_core.specs.Lines.{line_of, no_lines}
use Rattle.lot_core.specs.State.{owns}
use Rattle.lot_core.proofs.Rows.{row_none, row_from_none}

-- the locks and conditions of an opening state
abbrev pub built : ℕ → ℕ → ℕ → List ℕ → (ℕ → Option ℕ) → (ℕ → Bool) → (ℕ → List ℕ) → (ℕ → Bool) → (ℕ → List ℕ) → (ℕ → Point) → StateView
built threads locks conds permits owner parked lock_line flag cond_line point =
    record (opening_with threads locks conds permits) {
      locks = record { held = told is_some owner; parked = parked; line = lock_line; has = told owns owner };
      conds = record { flag = flag; line = cond_line };
      point = point;
    }

pub opened : (threads locks conds : ℕ) (permits : List ℕ) (owners : List (Option ℕ)) (bits flags : List Bool)
    (lock_lines cond_lines : Lines) (points : List Point) →
    owners ≡ replicate locks None → bits ≡ replicate locks false → line_of lock_lines ≡ no_lines →
    flags ≡ replicate conds false → line_of cond_lines ≡ no_lines → points ≡ replicate threads Calm →
    built threads locks conds permits (row None owners) (row false bits) (line_of lock_lines) (row_from false locks flags)
    (line_of cond_lines) (row Calm points)
    ≡ opening_with threads locks conds permits
opened threads locks conds permits owners bits flags lock_lines cond_lines points no_owner no_bit no_sleeper no_flag no_waiter all_calm =
    let with = built threads locks conds permits in
    ap (λ (o : ℕ → Option ℕ). with o (row false bits) (line_of lock_lines) (row_from false locks flags)
    (line_of cond_lines) (row Calm points))
    (ap (row None) no_owner ∙ row_none None locks)
    ∙ ap (λ (p : ℕ → Bool). with (λ l. None) p (line_of lock_lines) (row_from false locks flags) (line_of cond_lines) (row Calm points))
    (ap (row false) no_bit ∙ row_none false locks)
    ∙ ap (λ (line : ℕ → List ℕ). with (λ l. None) (λ l. false) line (row_from false locks flags) (line_of cond_lines) (row Calm points))
    no_sleeper
    ∙ ap (λ (f : ℕ → Bool). with (λ l. None) (λ l. false) no_lines f (line_of cond_lines) (row Calm points))
    (ap (row_from false locks) no_flag ∙ row_from_none false locks conds)
    ∙ ap (λ (line : ℕ → List ℕ). with (λ l. None) (λ l. false) no_lines (λ c. false) line (row Calm points))
    no_waiter
    ∙ ap (λ (p : ℕ → Point). with (λ l. None) (λ l. false) no_lines (λ c. false) no_lines p)
    (ap (row Calm) all_calm ∙ row_none Calm threads)

-- with the semaphores that were made for it
pub opened_with : (threads locks conds : ℕ) (permits : List ℕ) (owners : List (Option ℕ)) (bits flags : List Bool)
    (lock_lines cond_lines : Lines) (points : List Point)
    (n : ℕ) (p : ℕ → ℕ) (z : Semaphores) →
    owners ≡ replicate locks None → bits ≡ replicate locks false → line_of lock_lines ≡ no_lines →
    flags ≡ replicate conds false → line_of cond_lines ≡ no_lines → points ≡ replicate threads Calm →
    n ≡ length permits → p ≡ row_from 0 (locks + conds) permits → z ≡ none_taken (row_from 0 (locks + conds) permits) →
    record (built threads locks conds permits (row None owners) (row false bits) (line_of lock_lines) (row_from false locks flags)
    (line_of cond_lines) (row Calm points)) {
      sem_count = n;
      permits = p;
      sems = z;
    } ≡ opening_with threads locks conds permits
opened_with threads locks conds permits owners bits flags lock_lines cond_lines points n p z no_owner no_bit no_sleeper no_flag no_waiter
    all_calm count numbers sems =
    let w : StateView = built threads locks conds permits (row None owners) (row false bits) (line_of lock_lines)
    (row_from false locks flags)
    (line_of cond_lines) (row Calm points) in
    ap (λ (m : ℕ). let v : StateView = record w { sem_count = m; permits = p; sems = z } in v) count
    ∙ ap (λ (q : ℕ → ℕ). let v : StateView = record w { permits = q; sems = z } in v) numbers
    ∙ ap (λ (y : Semaphores). let v : StateView = record w { sems = y } in v) sems
    ∙ opened threads locks conds permits owners bits flags lock_lines cond_lines points no_owner no_bit no_sleeper
    no_flag no_waiter all_calm
