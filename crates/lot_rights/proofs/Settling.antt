-- The laws of the history, proved.
use Rattle.std.proofs.Common.{ℕ, ◌+◌, List, [], ◌∷◌, None, sym, subst, ◌∙◌, arith}
use Rattle.atomic_table.specs.Table.{State}
use Rattle.lot_rights.specs.declared.views.Access.{Access}
use Rattle.lot_rights.specs.declared.views.Access.TheVariants.{Makes, Collects}
use Rattle.lot_rights.specs.declared.views.Entry.{Entry}
use Rattle.lot_rights.specs.declared.views.Right.{Right}
use Rattle.lot_rights.specs.History.{Telling, Run, with_event, events_in, ModelRun}
use Rattle.lot_rights.specs.Rule.{number, made_with, Meaning, Leads, LeadsOn, IsHistory, Ruled}
use Rattle.lot_rights.specs.Settled.{HasOneOutcome, RightsSettle, OneEntryIsOneAccess, NoEntryIsNone, RuledSeatsShow, RuledHasOneRun}
use Rattle.lot_rights.specs.Settled.{OneHistory}
use Rattle.lot_rights.proofs.Showing.{join_shows, split_shows, same_shows, more_shows}
use Rattle.lot_rights.proofs.Uniques.{OneOutcome, one_history, run_one, one_more, none_more}

module _ {S P R : Type 0} (k : Meaning S P R) where
  -- where a run of accesses begins at what a tells and ends at what b tells, its events lead from the part of a to that
  -- of b
  pub run_of_events : (a : Telling k.Part) (n : ℕ) (log : List Entry) (b : Telling k.Part) → Run (LeadsOn k) a n log b
      → ModelRun k.Step a.part (events_in log) b.part
  run_of_events a n [] b run = λ i. (run i).part
  run_of_events a n (x ∷ log) b run = step x.access run.1.0 run.1.1.0.0 (run_of_events run.1.0 (n + 1) log b run.1.1.1)
    where
      step : (y : Access) (c : Telling k.Part) → Leads k a y c → ModelRun k.Step c.part (events_in log) b.part
          → ModelRun k.Step a.part (with_event y (events_in log)) b.part
      step (Makes e saw) c h run = (c.part, (h.0, run))
      step (Collects t None) c h run = subst (λ (z : Telling k.Part). ModelRun k.Step z.part (events_in log) b.part) h.1 run
      step _ c h run = subst (λ (z : Telling k.Part). ModelRun k.Step z.part (events_in log) b.part) h.1 run

  pub has_one_run : RuledHasOneRun k
  has_one_run s here = record {
    once = λ i is. omega (arith, here.seats.once i, here.present i is);
    model = run_of_events k.start 0 here.log (k.told_by here.world) here.recorded.run;
  }

  pub one_history_led : (s : State S (List (Right P R))) (here : Ruled k s) → OneHistory k s here.world
  one_history_led s here = let run = has_one_run s here in record {
    rights = here.seats;
    in_place = run.once;
    log = here.log;
    history = here.recorded;
    model = run.model;
  }

  module _ (one : HasOneOutcome k) where
    leads_to_one : OneOutcome (Leads k)
    leads_to_one a b c (Makes e saw) x y = λ i. record { part = one a.part b.part c.part e saw x.0 y.0 i; letters = (x.1 ∙ sym y.1) i }
    leads_to_one a b c (Collects t None) x y = x.1 ∙ sym y.1
    leads_to_one a b c _ x y = x.1 ∙ sym y.1

    one_outcome : OneOutcome (LeadsOn k)
    one_outcome a b c access x y = leads_to_one a b c access x.0 y.0

    pub rights_settle : RightsSettle k
    rights_settle views log log' a b r r' =
        let same = one_history number made_with (LeadsOn k) k.start log log' views a b r r' in
        (same, run_one (LeadsOn k) one_outcome k.start 0 log a b r.run (subst (λ w. IsHistory k w views b) (sym same) r').run)

    pub one_entry : OneEntryIsOneAccess k
    one_entry s s' before after x more =
        let one = one_more number made_with (LeadsOn k) k.start one_outcome before.log after.log s.views s'.views
        (k.told_by before.world) (k.told_by after.world) before.recorded after.recorded x more in
        (one.0, one.1, one.2.0)

    pub no_entry : NoEntryIsNone k
    no_entry s s' before after same = none_more number made_with (LeadsOn k) k.start one_outcome before.log after.log s.views s'.views
        (k.told_by before.world) (k.told_by after.world) before.recorded after.recorded same

  pub seats_show : RuledSeatsShow k
  seats_show s here = let listed = here.recorded.listed in record {
    joined = λ id. join_shows number made_with here.log s.views listed id;
    split = λ id. split_shows number made_with here.log s.views listed id;
    same = λ id. same_shows number made_with here.log s.views listed id;
    more = λ id. more_shows number made_with here.log s.views listed id;
  }
