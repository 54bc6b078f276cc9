-- A letter that the root of a key posts, of whatever kind the key is.
use Rattle.std.proofs.Common.{ℕ, ◌+◌, List, refl, sym, subst, inr}
use Rattle.lot_rights.specs.declared.views.Access.TheVariants.{Posts}
use Rattle.lot_rights.specs.declared.views.Entry.{Entry}
use Rattle.atomic_table.specs.Seated.{TableId}
use Rattle.lot_rights.specs.Shown.{RootShown}
use Rattle.lot_rights.specs.Layout.{letter_at}
use Rattle.lot_rights.specs.Steps.{RootNotes, AllowsRoot}
use Rattle.lot_words.specs.CallersRule.{CallersRule}
use Rattle.lot_words.proofs.Names.{post_names as lock_post_names}
use Rattle.lot_conds.proofs.Names.{post_names as cond_post_names}
use Rattle.lot_sems.proofs.Names.{post_names as sem_post_names}
use Rattle.lot_whole.specs.declared.views.LotRootView.{LotRootView}
use Rattle.lot_whole.specs.declared.views.LotRootView.TheVariants.{Lock, Cond, Sem}
use Rattle.lot_whole.specs.Family.{LotSize}
use Rattle.lot_whole.specs.Lot.{lot_meaning, names}
use Rattle.lot_whole.specs.Calls.{OwesLetter, paid}
use Rattle.lot_whole.proofs.Letters.{posts_lock, posts_cond, posts_sem}

-- who is owed a letter is named
pub owed_is_named : (q : LotRootView) (t token : ℕ) → OwesLetter q t token → names q t
owed_is_named (Lock q) t token owes = inr (token, owes)
owed_is_named (Cond q) t token owes = inr owes.0
owed_is_named (Sem q) t token owes = inr owes.0

-- whom it names then, it named before
pub named_before : (q : LotRootView) (t u : ℕ) → names (paid q t) u → names q u
named_before (Lock q) t u h = lock_post_names q _ u refl h
named_before (Cond q) t u h = cond_post_names q _ t u refl h
named_before (Sem q) t u h = sem_post_names q _ u refl h

module _ {V Part : Type 0} (rule : CallersRule V Part) (z : LotSize) (xs : List V) where
  abbrev Pays : RootShown LotRootView → ℕ → ℕ → Type 0
  Pays q t token = AllowsRoot (lot_meaning rule z xs) (letter_at t) (λ _. token + 1) q
      (λ _. RootNotes q (paid q.own t) (Posts q.key t token))

  posts_of : (table : TableId) (key : ℕ) (made : List Entry) (own : LotRootView) (t token : ℕ) → OwesLetter own t token
      → Pays (record { table = table; key = key; made = made; own = own }) t token
  posts_of table key made (Lock q) t token owes =
      posts_lock rule z xs (record { table = table; key = key; made = made; own = q }) t token owes
  posts_of table key made (Cond q) t token owes =
      subst (λ k. Pays (record { table = table; key = key; made = made; own = Cond q }) t k) (sym owes.1)
      (posts_cond rule z xs (record { table = table; key = key; made = made; own = q }) t owes.0)
  posts_of table key made (Sem q) t token owes =
      subst (λ k. Pays (record { table = table; key = key; made = made; own = Sem q }) t k) (sym owes.1)
      (posts_sem rule z xs (record { table = table; key = key; made = made; own = q }) t owes.0)

  pub posts : (q : RootShown LotRootView) (t token : ℕ) → OwesLetter q.own t token
      → AllowsRoot (lot_meaning rule z xs) (letter_at t) (λ _. token + 1) q (λ _. RootNotes q (paid q.own t) (Posts q.key t token))
  posts q t token owes = posts_of q.table q.key q.made q.own t token owes
