-- What a lot's table promises: at every moment there is one sound state of the whole model that words and rights stand
-- for, and the history without its notices is one run of the model, from the opening to it.
use Rattle.std.specs.Prelude.{◌≡◌, ℕ, ◌<◌, true, List, map, slice_index, Option}
use Rattle.std.specs.List.{Contains}
use Rattle.atomic_table.specs.Table.{State}
use Rattle.lot_core.specs.Model.{StateView}
use Rattle.lot_core.specs.Steps.{Run, after_all}
use Rattle.lot_core.specs.Sound.{IsSound}
use Rattle.lot_core.specs.WellFormed.{IsWellFormed}
use Rattle.lot_order.specs.Waiting.{IsOrderly}
use Rattle.lot_events.specs.declared.events.Event.{Event}
use Rattle.lot_events.specs.declared.events.Seen.{Seen}
use Rattle.lot_rights.specs.declared.views.Right.{Right}
use Rattle.lot_rights.specs.History.{events_in, ModelRun}
use Rattle.lot_rights.specs.Layout.{word_at}
use Rattle.lot_rights.specs.Rule.{Ruled}
use Rattle.lot_words.specs.CallersRule.{CallersRule}
use Rattle.lot_words.specs.Values.{IsLawful}
use Rattle.lot_words.specs.Headline.{LettersFit as LockLettersFit, IsSound as AreLocksSound}
use Rattle.lot_conds.specs.Headline.{LettersFit as CondLettersFit, IsBalanced}
use Rattle.lot_sems.specs.World.{LettersFit as SemLettersFit}
use Rattle.lot_whole.specs.declared.views.LotPassView.{LotPassView}
use Rattle.lot_whole.specs.declared.views.LotRootView.{LotRootView}
use Rattle.lot_whole.specs.Family.{Which, lock, cond, sem, LotSize, IsKeyIn, meaning_of, part_in, away}
use Rattle.lot_whole.specs.Whole.{WholeStep, word_in, line_in, stand_of, opening_of}
use Rattle.lot_whole.specs.Lot.{own_of, lot_meaning}

-- a thread is in one line at most, of all keys of all kinds
abbrev pub OneLineOfAll : StateView → Type 0
OneLineOfAll s = (j k : Which) (c d t : ℕ) → Contains (line_in s j c) t → Contains (line_in s k d) t → (j ≡ k) × (c ≡ d)

-- the events alone
abbrev pub event_of : Event × Seen → Event
event_of x = x.0

-- these events, of which this was seen, are one run of the model from the opening to the state, which is sound and names
-- only what there is
pub record IsOneRun (z : LotSize) (events : List (Event × Seen)) (state : StateView) : Type 0 where
  pub sound : IsSound state
  pub formed : IsWellFormed state
  pub seen : ModelRun WholeStep (opening_of z) events state
  pub run : Run (opening_of z) (map event_of events)
  pub end : state ≡ after_all (opening_of z) (map event_of events)

module _ {V Part : Type 0} (rule : CallersRule V Part) (z : LotSize) (xs : List V) where
  -- Of a table that keeps the rule: the state of the whole model that it stands for
  pub record OneState (s : State (Option V) (List (Right (LotPassView V) LotRootView)))
      (here : Ruled (lot_meaning rule z xs) s) : Type 0 where
    pub state : StateView
    -- the words of all keys stand for it
    pub words : (j : Which) (c : ℕ) → IsKeyIn z j c → slice_index s.words (word_at c) ≡ word_in z state c
    -- and so do the rights: its part of each kind is what that kind's world tells, and each thread stands as its pass
    -- says
    pub parts : (j : Which) → part_in rule z xs j state ≡ ((meaning_of rule z xs j).told_by (here.world.each j)).part
    pub stands : (t : ℕ) → t < z.threads → stand_of (state.point t) ≡ (here.world.pass t).stand
    -- the history without its notices has led to it
    pub history : IsOneRun z (events_in here.log) state
    -- it is in order, so where the keys rise by some level no circle of threads waits, and each chain of waiting ends
    pub orderly : IsOrderly rule.above state
    -- one line each, over all kinds
    pub one_line : OneLineOfAll state
    -- a thread waits in one kind at most, also while its letter is owed or lies
    pub one_letter : (t : ℕ) → t < z.threads → (j k : Which) → away V j (own_of V (here.world.pass t) j) ≡ true
        → away V k (own_of V (here.world.pass t) k) ≡ true → j ≡ k

  -- with it, of the worlds that tell its parts, what each kind promises of its own: letters fit in all three, locks
  -- have one owner at most and someone tries to get a free one with sleepers, values are lawful, and the ledger is
  -- balanced. (That no sleeper of a condition is forgotten is said of the whole state: `someone_sweeps` of its
  -- soundness.)
  pub record Promises (s : State (Option V) (List (Right (LotPassView V) LotRootView)))
      (here : Ruled (lot_meaning rule z xs) s) : Type 0 where
    pub whole : OneState s here
    pub lock_letters : LockLettersFit (here.world.each lock)
    pub cond_letters : CondLettersFit (here.world.each cond)
    pub sem_letters : SemLettersFit z.threads (here.world.each sem)
    pub locks : AreLocksSound (here.world.each lock) z.threads
    pub lawful : IsLawful rule z.threads z.locks (here.world.each lock).pass s.homes
    pub balanced : IsBalanced z.threads (here.world.each cond)
