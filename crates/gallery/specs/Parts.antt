-- Values that have a part for each thread.
use Rattle.std.specs.Prelude.{◌≡◌, ◌≢◌, ℕ}

-- the part of each other thread is as before
abbrev pub OthersKeep : {V Part : Type 0} → (part : ℕ → V → Part) → ℕ → V → V → Type 0
OthersKeep part thread before after = (t : ℕ) → t ≢ thread → part t before ≡ part t after
