-- The rule, by what the table was told when it was made.
use Rattle.std.specs.Prelude.{Option}
use Rattle.lot_rights.specs.Rule.{Meaning}
use Rattle.lot_rights.specs.Settled.{HasOneOutcome, LinesHaveNoLetter}
use Rattle.lot_words.specs.CallersRule.{CallersRule}
use Rattle.lot_whole.specs.declared.start.Start.{Start}
use Rattle.lot_whole.specs.declared.views.LotPassView.{LotPassView}
use Rattle.lot_whole.specs.declared.views.LotRootView.{LotRootView}
use Rattle.lot_whole.specs.Family.{LotSize}
use Rattle.lot_whole.specs.Lot.{lot_meaning, one_outcome, no_letter_in_line}

abbrev pub size_of : {V : Type 0} → Start V → LotSize
size_of start = record { threads = start.threads; locks = start.locks; conds = start.conds; permits = start.permits.value.items }

module _ {V Part : Type 0} (rule : CallersRule V Part) where
  abbrev pub meaning : Start V → Meaning (Option V) (LotPassView V) LotRootView
  meaning start = lot_meaning rule (size_of start) start.values.value.items

  pub one_outcome_of : (start : Start V) → HasOneOutcome (meaning start)
  one_outcome_of start = one_outcome rule (size_of start) start.values.value.items

  pub no_letter_of : (start : Start V) → LinesHaveNoLetter (meaning start)
  no_letter_of start = no_letter_in_line rule (size_of start) start.values.value.items
