-- What a run of the model keeps.
use Rattle.std.proofs.Common.{List, [], ◌∷◌, sym, subst}
use Rattle.lot_events.specs.declared.events.Event.{Event}
use Rattle.lot_events.specs.declared.events.Seen.{Seen}
use Rattle.lot_rights.specs.History.{ModelRun}

module _ {P : Type 0} (Step : P → Event → Seen → P → Type 0) (Ok : P → Type 0)
    (kept : (a b : P) (e : Event) (saw : Seen) → Ok a → Step a e saw b → Ok b) where
  -- what each step keeps, each run keeps
  pub run_keeps : (a : P) (es : List (Event × Seen)) (b : P) → ModelRun Step a es b → Ok a → Ok b
  run_keeps a [] b run ok = subst Ok (sym run) ok
  run_keeps a (x ∷ es) b run ok = run_keeps run.0 es b run.1.1 (kept a run.0 x.0 x.1 ok run.1.0)
