-- Tasks of which each is somewhere once, and was done.
use Rattle.std.proofs.Common.{◌≡◌, ℕ, ◌<◌, zero, suc, nat_lt, true, false, List, length, get_or, refl, sym, ap, subst, ◌∙◌, arith}
use Rattle.std.specs.List.{list_all}
use Rattle.std.proofs.lemmas.List.Folds.{list_all_at}
use Rattle.gallery.specs.Tasks.{HasEachOnce, AllDone, are_done}
use Rattle.gallery.specs.declared.tasks.Pool.{Pool}

-- of numbers above 0 none is 0
positive_at : (times : List ℕ) (i n : ℕ) → are_done times ≡ true → i < length times → get_or times i 0 ≡ n → 0 < n
positive_at times i zero all near is =
    let none : list_all (λ number. nat_lt 0 number) times ≡ false =
    list_all_at (λ number. nat_lt 0 number) times i 0 near (ap (λ number. nat_lt 0 number) is) in
    absurd (cc)
positive_at times i (suc n) all near is = omega arith

-- what is somewhere once, and was done, was done once
pub all_done : (pool : Pool) → HasEachOnce pool → are_done pool.times.items ≡ true → AllDone pool
all_done pool whole done task near =
    let once = whole.once task near in
    omega (arith, positive_at pool.times.items task (get_or pool.times.items task 0) done (omega (arith, near, whole.counts)) refl, once)
