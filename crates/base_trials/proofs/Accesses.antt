-- A call for which two rights come to one seat is one access, by the laws of the history.
use Rattle.std.proofs.Common.{ℕ, ◌+◌, ◌*◌, List, [], ◌∷◌, ◌++◌, refl, sym, ap, subst, ◌∙◌, inl}
use Rattle.atomic_table.specs.Table.{State}
use Rattle.lot_rights.specs.declared.views.Entry.{Entry}
use Rattle.lot_rights.specs.declared.views.PassRight.{PassRight}
use Rattle.lot_rights.specs.declared.views.RootRight.{RootRight}
use Rattle.lot_rights.specs.declared.views.Right.{Right}
use Rattle.lot_rights.specs.declared.views.Right.TheVariants.{Pass, Root}
use Rattle.lot_rights.specs.History.{doer, SameShown, OneMoreShown}
use Rattle.lot_rights.specs.Rule.{number, made_with, Meaning, Ruled}
use Rattle.lot_rights.specs.Settled.{OneEntryIsOneAccess, RuledSeatsShow}
use Rattle.base_trials.specs.Accesses.{CallOfTwo, IsOneAccess}

module _ {R : Type 0} (number : R → ℕ) (made : R → List Entry) where
  -- one entry more, between what shows the same
  more_between : (vs ws us ts : List (List R)) (x : Entry) → SameShown number made vs ws → OneMoreShown number made ws x us →
      SameShown number made us ts → OneMoreShown number made vs x ts
  more_between vs ws us ts x before more after = record {
    more = after (doer x.access) ∙ (more.more ∙ ap (λ xs. xs ++ x ∷ []) (before (doer x.access)));
    same = λ i ne. after i ∙ (more.same i ne ∙ before i);
  }

module _ {S P R : Type 0} (k : Meaning S P R) (one : OneEntryIsOneAccess k) (seats : RuledSeatsShow k) where
  pub call_of_two : (s joined made parted : State S (List (Right P R))) (before : Ruled k s) → Ruled k joined → Ruled k made
      → (after : Ruled k parted) →
      (id other : ℕ) (p p' : PassRight P) (q q' : RootRight R) (x : Entry) → CallOfTwo s joined made parted id other p p' q q' x
      → IsOneAccess k s parted before after x
  call_of_two s joined made parted before here there after id other p p' q q' x c =
      let n : Right P R → ℕ = number in
      let m : Right P R → List Entry = made_with in
      let first : SameShown n m s.views joined.views = subst (SameShown n m s.views) (sym c.joins)
      ((seats s before).joined id other (Pass p ∷ []) (Root q ∷ []) c.pass c.apart c.root) in
      let then : OneMoreShown n m joined.views x made.views = subst (OneMoreShown n m joined.views x) (sym c.makes)
      ((seats joined here).more id (Pass p) (Pass p') (Root q ∷ []) (Root q' ∷ []) x c.at_one ((λ i. 2 * c.key i + 1), c.same, tt)
      (λ i. 2 * c.thread i) c.maker c.entry) in
      let last : SameShown n m made.views parted.views = subst (SameShown n m made.views) (sym c.parts)
      ((seats made there).split id (Pass p' ∷ Root q' ∷ []) (Pass p' ∷ []) (Root q' ∷ []) c.both (inl refl)) in
      one s parted before after x (more_between n m s.views joined.views made.views parted.views x first then last)
