use Rattle.std.proofs.Common.{◌∙◌, ap, sym, refl, inl, inr, arith, None}
use Rattle.std.proofs.lemmas.Str.Pattern.{split_after}
use Rattle.lot_events.specs.Reading.{open_at}
use Rattle.lot_core.proofs.Openings.{no_opening, no_end}
use Rattle.lot_witness.proofs.Texts.{opens_from, opens_split, opening_splits, cut_good, good_kept, lacks_permits, lacks_sightings}
use Rattle.lot_witness.proofs.witness.parse_witness.Goals as goal

pub returns-in_default : goal.returns-in_default
returns-in_default c =
    inl (refl, no_opening c.args.text.now (sym (ap open_at c.as_bytes.ensures.value) ∙ sym c.in_default.ensures))

pub returns-in_default-end : goal.returns-in_default-end
returns-in_default-end c =
    inl (
      refl,
      no_end _ _ _ _ _ _ _ (sym (ap open_at c.as_bytes.ensures.value) ∙ sym c.in-Some.ensures) c.behind_numbers.ensures.read.1
          c.behind_numbers.ensures.all (sym c.in_default-end.ensures),
    )

pub returns-in_default-split_once : goal.returns-in_default-split_once
returns-in_default-split_once c =
    let opens =
    opens_from c.args.text.now c.in-Some.threads c.in-Some.locks c.in-Some.conds _ _ _ _
    (sym (ap open_at c.as_bytes.ensures.value) ∙ sym c.in-Some.ensures) c.behind_numbers.ensures.read.1 (sym c.in-Some-end.ensures) in
    let splits = opening_splits _ _ _ _ _ _ opens in
    absurd (split_after 10 c.args.text.now splits.0 c.in-Some-end.field-0.now None (c.in_default-split_once.ensures {u = tt}).cases
    (omega arith) splits.1 splits.2)

pub returns-in-Some-first_bad : goal.returns-in-Some-first_bad
returns-in-Some-first_bad c =
    let opens =
    opens_split c.args.text.now c.in-Some.threads c.in-Some.locks c.in-Some.conds _ _ _ _ c.in-Some-split_once.field-0-0
    c.in-Some-split_once.lines (sym (ap open_at c.as_bytes.ensures.value) ∙ sym c.in-Some.ensures) c.behind_numbers.ensures.read.1
    (sym c.in-Some-end.ensures) (c.in-Some-split_once.ensures {u = tt}).cases in
    inr (
      c.in-Some.threads,
      c.in-Some.locks,
      c.in-Some.conds,
      c.behind_numbers.ensures.read.0,
      c.in-Some-split_once.lines.now,
      opens,
      c.in-Some-first_bad.ensures.bad,
    )

pub returns-in-Err : goal.returns-in-Err
returns-in-Err c =
    let is =
    cut_good c.args.text.now c.in-Some.threads c.in-Some.locks c.in-Some.conds _ _ _ _ c.in-Some-split_once.field-0-0
    c.in-Some-split_once.lines (sym (ap open_at c.as_bytes.ensures.value) ∙ sym c.in-Some.ensures) c.behind_numbers.ensures.read.1
    c.behind_numbers.ensures.all (sym c.in-Some-end.ensures) (c.in-Some-split_once.ensures {u = tt}).cases
    c.in_default-first_bad.ensures.good in
    lacks_permits _ _ _ _ _ _ _ _ is c.in-Err.ensures.some.2

pub returns-in-Err-sightings : goal.returns-in-Err-sightings
returns-in-Err-sightings c =
    let is =
    cut_good c.args.text.now c.in-Some.threads c.in-Some.locks c.in-Some.conds _ _ _ _ c.in-Some-split_once.field-0-0
    c.in-Some-split_once.lines (sym (ap open_at c.as_bytes.ensures.value) ∙ sym c.in-Some.ensures) c.behind_numbers.ensures.read.1
    c.behind_numbers.ensures.all (sym c.in-Some-end.ensures) (c.in-Some-split_once.ensures {u = tt}).cases
    c.in_default-first_bad.ensures.good in
    lacks_sightings _ _ _ _ _ _ _ _ is c.in-Err-sightings.ensures.some.2

pub returns : goal.returns
returns c =
    let is =
    cut_good c.args.text.now c.in-Some.threads c.in-Some.locks c.in-Some.conds _ _ _ _ c.in-Some-split_once.field-0-0
    c.in-Some-split_once.lines (sym (ap open_at c.as_bytes.ensures.value) ∙ sym c.in-Some.ensures) c.behind_numbers.ensures.read.1
    c.behind_numbers.ensures.all (sym c.in-Some-end.ensures) (c.in-Some-split_once.ensures {u = tt}).cases
    c.in_default-first_bad.ensures.good in
    let made = c.in-Ok-sightings.ensures.read in
    good_kept _ _ _ _ _ _ _ _ _ _ is c.in-Ok.ensures.read.0 c.in-Ok.ensures.read.1 made.1 made.2
