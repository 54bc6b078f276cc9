-- What two passes tell: what a kind tells of two, the lot tells.
use Rattle.std.proofs.Common.{ℕ, ◌+◌, ◌<◌, ◌≤◌, List, get_or, arith, subst}
use Rattle.lot_rights.specs.Shown.{PassShown}
use Rattle.lot_rights.specs.Steps.{TellsOfTwo}
use Rattle.lot_words.specs.CallersRule.{CallersRule}
use Rattle.lot_words.specs.World.{Holds}
use Rattle.lot_words.specs.Values.{SeenOk}
use Rattle.lot_words.proofs.Moving as locks
use Rattle.lot_sems.proofs.Headlines.{two_of}
use Rattle.lot_whole.specs.declared.views.LotPassView.{LotPassView}
use Rattle.lot_whole.specs.Family.{Which, lock, sem, LotSize, lock_size, homes_in, meaning_of}
use Rattle.lot_whole.specs.Lot.{lot_meaning}
use Rattle.lot_whole.specs.Lifts.{part_pass}
use Rattle.lot_whole.specs.Closing.{permits_of}
use Rattle.lot_whole.specs.Both.{KnowBoth}
use Rattle.lot_whole.proofs.Tells.{pass_ok}

-- no lock is held by both, they have together no more permits than there are, and of each lock they know of one value
abbrev pub AreApart : {V Part : Type 0} → CallersRule V Part → LotSize → PassShown (LotPassView V) → PassShown (LotPassView V) → Type 0
AreApart rule z p q = ((l : ℕ) → Holds p.own.locks l → ¬ Holds q.own.locks l)
    × ((k : ℕ) → get_or p.own.sems.out k 0 + get_or q.own.sems.out k 0 ≤ permits_of z k)
    × ((l : ℕ) → l < z.locks → KnowBoth rule l p.thread q.thread p.own.locks q.own.locks)

module _ {V Part : Type 0} (rule : CallersRule V Part) (z : LotSize) (xs : List V) where
  tells_of_two : (j : Which) (p q : PassShown (LotPassView V)) (fact : Type 0)
      → TellsOfTwo (meaning_of rule z xs j) (part_pass j p) (part_pass j q) fact → TellsOfTwo (lot_meaning rule z xs) p q fact
  tells_of_two j p q fact kind w ws hs ok fit fits ne = kind (w.each j) (w.words j) (homes_in j hs) (ok.parts j)
      ((pass_ok rule z xs w ws hs ok p.thread p.own fit).each j) ((pass_ok rule z xs w ws hs ok q.thread q.own fits).each j) ne

  sems_apart : (p q : PassShown (LotPassView V)) → TellsOfTwo (meaning_of rule z xs sem) (part_pass sem p) (part_pass sem q)
      ((k : ℕ) → get_or p.own.sems.out k 0 + get_or q.own.sems.out k 0 ≤ permits_of z k)
  sems_apart p q w ws hs ok first second ne k = omega (
    arith,
    ok.sound.permits_conserved k,
    first.out k,
    second.out k,
    two_of z.threads (w.part.sems.out k) p.thread q.thread ne first.near second.near,
  )

  know_both : (p q : PassShown (LotPassView V)) → TellsOfTwo (meaning_of rule z xs lock) (part_pass lock p) (part_pass lock q)
      ((l : ℕ) → l < z.locks → KnowBoth rule l p.thread q.thread p.own.locks q.own.locks)
  know_both p q w ws hs ok first second ne l near =
      let each = ok.lawful.each l near in
      record {
        value = ok.lawful.value l;
        kept = each.kept;
        first = subst (λ o. SeenOk rule l p.thread o (ok.lawful.value l)) first.1 (each.seen p.thread first.0);
        second = subst (λ o. SeenOk rule l q.thread o (ok.lawful.value l)) second.1 (each.seen q.thread second.0);
      }

  pub apart : (p q : PassShown (LotPassView V)) → TellsOfTwo (lot_meaning rule z xs) p q (AreApart rule z p q)
  apart p q w ws hs ok fit fits ne = (
    tells_of_two lock p q ((l : ℕ) → Holds p.own.locks l → ¬ Holds q.own.locks l)
        (locks.apart rule (lock_size z) xs (part_pass lock p) (part_pass lock q)) w ws hs ok fit fits ne,
    tells_of_two sem p q ((k : ℕ) → get_or p.own.sems.out k 0 + get_or q.own.sems.out k 0 ≤ permits_of z k)
        (sems_apart p q) w ws hs ok fit fits ne,
    tells_of_two lock p q ((l : ℕ) → l < z.locks → KnowBoth rule l p.thread q.thread p.own.locks q.own.locks)
        (know_both p q) w ws hs ok fit fits ne,
  )
