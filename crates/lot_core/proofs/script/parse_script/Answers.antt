use Rattle.std.proofs.Common.{◌∙◌, ap, sym, refl, inl}
use Rattle.lot_core.specs.Reading.{open_at}
use Rattle.lot_core.proofs.Openings.{no_opening, no_end}
use Rattle.lot_core.proofs.Scripts.{cut, cut_bad, cut_kept, cut_lacks_permits, cut_lacks_events}
use Rattle.lot_core.proofs.script.parse_script.Goals as goal

pub returns-in-None : goal.returns-in-None
returns-in-None c =
    inl (refl, no_opening c.args.text.now (sym (ap open_at c.as_bytes.ensures.value) ∙ sym c.in-None.ensures))

pub returns-in-None-end : goal.returns-in-None-end
returns-in-None-end c =
    inl (
      refl,
      no_end _ _ _ _ _ _ _ (sym (ap open_at c.as_bytes.ensures.value) ∙ sym c.in-Some.ensures) c.behind_numbers.ensures.read.1
          c.behind_numbers.ensures.all (sym c.in-None-end.ensures),
    )

pub returns-in-Some-first_bad : goal.returns-in-Some-first_bad
returns-in-Some-first_bad c =
    cut_bad _ _ _ _ _ _ _ _ _ (sym (ap open_at c.as_bytes.ensures.value) ∙ sym c.in-Some.ensures) c.behind_numbers.ensures.read.1
    (sym c.in-Some-end.ensures) c.in-Some-first_bad.ensures.bad

pub returns-in-Err : goal.returns-in-Err
returns-in-Err c =
    cut_lacks_permits _ _ _ _ _ _ _ _
    (cut _ _ _ _ _ _ _ _ (sym (ap open_at c.as_bytes.ensures.value) ∙ sym c.in-Some.ensures) c.behind_numbers.ensures.read.1
    c.behind_numbers.ensures.all (sym c.in-Some-end.ensures) c.in_default.ensures.good)
    c.in-Err.ensures.some.2

pub returns-in-Err-events : goal.returns-in-Err-events
returns-in-Err-events c =
    cut_lacks_events _ _ _ _ _ _ _ _
    (cut _ _ _ _ _ _ _ _ (sym (ap open_at c.as_bytes.ensures.value) ∙ sym c.in-Some.ensures) c.behind_numbers.ensures.read.1
    c.behind_numbers.ensures.all (sym c.in-Some-end.ensures) c.in_default.ensures.good)
    c.in-Err-events.ensures.some.2

pub returns : goal.returns
returns c =
    let made = c.in-Ok-events.ensures.read in
    cut_kept _ _ _ _ _ _ _ _ _ _
    (cut _ _ _ _ _ _ _ _ (sym (ap open_at c.as_bytes.ensures.value) ∙ sym c.in-Some.ensures) c.behind_numbers.ensures.read.1
    c.behind_numbers.ensures.all (sym c.in-Some-end.ensures) c.in_default.ensures.good)
    c.in-Ok.ensures.read.0 c.in-Ok.ensures.read.1 made.1 made.2
