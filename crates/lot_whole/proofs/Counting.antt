-- What a root has of its key, the state has; so it can be counted with it.
use Rattle.std.proofs.Common.{◌≡◌, ℕ, ◌+◌, List, length, get_or, Option, refl, sym, ap, ◌∙◌, arith}
use mathlib.Core.Option as maybe
use Rattle.lot_core.specs.Parts.{LockPart, CondPart, SemaphorePart}
use Rattle.lot_rights.specs.declared.views.Entry.{Entry}
use Rattle.lot_rights.specs.History.{handed_in, tokens_of, taken_in}
use Rattle.lot_rights.specs.Layout.{word_at}
use Rattle.lot_rights.specs.World.{number_of}
use Rattle.lot_rights.specs.Shown.{PassShown, RootShown}
use Rattle.lot_rights.specs.Steps.{Notes, AllowsBoth}
use Rattle.lot_rights.proofs.Owing.{owed_here}
use Rattle.lot_rights.proofs.Staying.{both_stay}
use Rattle.lot_words.specs.CallersRule.{CallersRule}
use Rattle.lot_words.specs.declared.views.LockRootView.{LockRootView}
use Rattle.lot_conds.specs.declared.views.CondRootView.{CondRootView}
use Rattle.lot_whole.specs.declared.views.LotPassView.{LotPassView}
use Rattle.lot_whole.specs.declared.views.LotRootView.{LotRootView}
use Rattle.lot_whole.specs.declared.views.LotRootView.TheVariants.{Lock, Cond, Sem}
use Rattle.lot_whole.specs.Family.{lock as lock_kind, cond as cond_kind, sem as sem_kind, LotSize, sizes_in}
use Rattle.lot_whole.specs.Whole.{line_at}
use Rattle.lot_whole.specs.Lot.{line_of_root, owed_by, sum_of, owed_in, LotWorld, LotFits, LotRootIs, lot_meaning}
use Rattle.lot_whole.specs.Calls.{counting}
use Rattle.lot_whole.specs.Order.{IsLogOf, queued_in}
use Rattle.lot_whole.proofs.Family.{line_is}
use Rattle.lot_whole.proofs.Owing.{owed_by_kind}
use Rattle.lot_whole.proofs.Queueing.{history_balances}

-- q' is the root q, with which the pass p has counted
abbrev pub CountsWith : {V : Type 0} → PassShown (LotPassView V) → RootShown LotRootView → PassShown (LotPassView V) → RootShown LotRootView
    → Type 0
CountsWith p q p' q' = Notes p p.own (counting p.thread q) p' × (q' ≡ q)

module _ {V Part : Type 0} (rule : CallersRule V Part) (z : LotSize) (xs : List V) where
  -- a root has the line that the state has
  pub line_known : (w : LotWorld rule z xs) (ws : List ℕ) (hs : List (maybe.Option (Option V))) (c : ℕ) (own : LotRootView)
      → LotFits rule z xs w ws hs → LotRootIs rule z xs w c own → line_of_root own ≡ line_at z w.whole c
  line_known w ws hs c (Lock q) fits is =
      sym (line_is z lock_kind w.whole c is.0 ∙ (ap (λ (a : LockPart). a.locks.line c) (fits.agrees lock_kind)
      ∙ ap (λ (r : LockRootView). r.line) is.1.1))
  line_known w ws hs c (Cond q) fits is =
      sym (line_is z cond_kind w.whole c is.0 ∙ (ap (λ (a : CondPart). a.conds.line c) (fits.agrees cond_kind)
      ∙ ap (λ (r : CondRootView). r.line) is.1.1))
  line_known w ws hs c (Sem q) fits is =
      sym (line_is z sem_kind w.whole c is.0 ∙ (ap (λ (a : SemaphorePart). a.sems.line c) (fits.agrees sem_kind) ∙ is.1.1))

  -- and owes what the world says
  pub owed_known : (w : LotWorld rule z xs) (c : ℕ) (own : LotRootView) → LotRootIs rule z xs w c own
      → sum_of (owed_in rule z xs w) c ≡ owed_by own
  owed_known w c (Lock q) is = owed_by_kind rule z xs w c lock_kind is.0
      ∙ (owed_here (sizes_in z lock_kind) (λ (r : LockRootView). number_of r.owes) (w.each lock_kind).root c is.0
      ∙ ap (λ (r : LockRootView). number_of r.owes) is.1.1)
  owed_known w c (Cond q) is = owed_by_kind rule z xs w c cond_kind is.0
      ∙ (owed_here (sizes_in z cond_kind) (λ (r : CondRootView). length r.owes) (w.each cond_kind).root c is.0
      ∙ ap (λ (r : CondRootView). length r.owes) is.1.1)
  owed_known w c (Sem q) is = owed_by_kind rule z xs w c sem_kind is.0
      ∙ (owed_here (sizes_in z sem_kind) number_of (w.each sem_kind).owes c is.0 ∙ ap number_of is.1.2)

  -- as many were queued at a root's key as were told that they were taken from its line, are owed that, or are there
  -- still
  pub queued_known : (w : LotWorld rule z xs) (ws : List ℕ) (hs : List (maybe.Option (Option V))) (c : ℕ) (own : LotRootView)
      → LotFits rule z xs w ws hs → LotRootIs rule z xs w c own
      → (log : List Entry) → IsLogOf z log ((lot_meaning rule z xs).told_by w)
      → taken_in c log ≡ length (tokens_of c log) + sum_of (owed_in rule z xs w) c
      → queued_in c log ≡ length (tokens_of c log) + owed_by own + length (line_of_root own)
  queued_known w ws hs c own fits is log run taken =
      let balance = history_balances z c log ((lot_meaning rule z xs).told_by w) run in
      let line = ap length (line_known w ws hs c own fits is) in
      let owed = owed_known w c own is in
      omega (arith, balance, line, owed, taken)

  pub counts : (p : PassShown (LotPassView V)) (q : RootShown LotRootView) → owed_by q.own ≡ 0
      → AllowsBoth (lot_meaning rule z xs) (word_at q.key) (λ n. n) p q (λ n. CountsWith p q)
  counts p q clear w ws hs ok fit root small =
      let none = owed_known w q.key q.own root ∙ clear in
      both_stay (lot_meaning rule z xs) (word_at q.key) (get_or ws (word_at q.key) 0) w ws hs ok refl p fit (counting p.thread q)
      (refl, (ap length (line_known w ws hs q.key q.own ok root), refl)) (λ c. refl) q
      (λ log same all. (sym (ap length same), sym (ap handed_in same), omega (arith, all, none))) (CountsWith p q) root
      (λ k. ((k, refl), refl))
