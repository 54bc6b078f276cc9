-- Values that leave their slots and come back: what the locks allow, the lot allows.
use Rattle.std.proofs.Common.{◌≡◌, ◌≢◌, ℕ, ◌<◌, true, List, set, refl, sym, ap, subst, ◌∙◌, inl, Option, arith}
use mathlib.Core.Option as maybe
use mathlib.Core.Option.{some, none}
use lib.ListN.{get_elem?}
use mathlib.Core.Path.{fun_ext}
use Rattle.lot_core.specs.Model.{put}
use Rattle.lot_core.proofs.Put.{put_same, put_other}
use Rattle.lot_rights.specs.Shown.{PassShown}
use Rattle.lot_rights.specs.Slots.{SlotTurn, AllowsOut, AllowsBack}
use Rattle.lot_rights.proofs.Puts.{put_elim}
use Rattle.lot_words.specs.CallersRule.{CallersRule}
use Rattle.lot_words.specs.declared.views.LockPassView.{LockPassView}
use Rattle.lot_words.specs.declared.views.Place.{Place}
use Rattle.lot_words.specs.declared.views.Place.TheVariants.{Moving}
use Rattle.lot_words.specs.World.{Holds}
use Rattle.lot_words.specs.Values.{in_slot, place_of, IsAtHome, HasSeen, MayLie}
use Rattle.lot_words.specs.Calls.{placing}
use Rattle.lot_words.proofs.Moving as moving
use Rattle.lot_whole.specs.declared.views.LotPassView.{LotPassView}
use Rattle.lot_whole.specs.declared.views.LotRootView.{LotRootView}
use Rattle.lot_whole.specs.declared.views.LotRootView.TheVariants.{Lock, Cond, Sem}
use Rattle.lot_whole.specs.Family.{Which, lock, cond, sem, LotSize, lock_size, PassIn, away, homes_in, meaning_of, part_in, dput}
use Rattle.lot_whole.specs.Lot.{own_of, sum_of, LotWorld, letters_in, PassOk, LotFits, LotRootIs, lot_meaning}
use Rattle.lot_whole.specs.Lifts.{part_pass}
use Rattle.lot_whole.specs.Calls.{placed_in}
use Rattle.lot_whole.proofs.Family.{dput_elim, dput_two, three_same}
use Rattle.lot_whole.proofs.Queued.{none_queued}
use Rattle.lot_whole.proofs.Steps.{own_from, apart_after}

-- the slots are no other kind's
homes_else : {V : Type 0} (k : Which) (hs hs' : List (maybe.Option (Option V))) → k ≢ lock → homes_in k hs ≡ homes_in k hs'
homes_else lock hs hs' ne = absurd (ne refl)
homes_else cond hs hs' ne = refl
homes_else sem hs hs' ne = refl

module _ {V Part : Type 0} (rule : CallersRule V Part) (z : LotSize) (xs : List V) where
  -- a turn of the locks' slots, as one of the lot's
  module _ (t : ℕ) (p : LotPassView V) (own : LockPassView V) (w : LotWorld rule z xs) (ws : List ℕ)
      (hs hs' : List (maybe.Option (Option V))) (ok : LotFits rule z xs w ws hs) (fit : (t < z.threads) × (w.pass t ≡ p))
      (same : own.asleep ≡ p.locks.asleep) (turn : SlotTurn (meaning_of rule z xs lock) t own (w.each lock) (w.words lock) hs') where
    abbrev each : (k : Which) → (meaning_of rule z xs k).World
    each = dput {X = λ k. (meaning_of rule z xs k).World} lock turn.world w.each

    abbrev new : LotPassView V
    new = record p { locks = own }

    abbrev next : LotWorld rule z xs
    next = record { each = each; words = w.words; pass = put w.pass t new; whole = w.whole }

    letters : (u : ℕ) → sum_of (letters_in rule z xs next) u ≡ sum_of (letters_in rule z xs w) u
    letters u = three_same (letters_in rule z xs next) (letters_in rule z xs w) u (dput_elim {X = λ k. (meaning_of rule z xs k).World}
        (λ k y. ((meaning_of rule z xs k).told_by y).letters u ≡ letters_in rule z xs w k u) lock turn.world w.each
        (λ i. (turn.same i).letters u) (λ k ne. refl))

    was : PassOk rule z xs w t p
    was = subst (PassOk rule z xs w t) fit.1 (ok.passes t fit.0)

    mine : PassOk rule z xs next t new
    mine = record {
      each = λ k. subst (λ o. (meaning_of rule z xs k).PassFits (each k) t o)
          (sym (own_from V (dput {X = PassIn V} lock own (own_of V p)) p.stand k))
          (dput_two {X = λ k. (meaning_of rule z xs k).World} {Y = PassIn V}
          (λ k y o. (meaning_of rule z xs k).PassFits y t o) lock turn.world w.each own (own_of V p) turn.pass (λ k ne. was.each k) k);
      apart = apart_new;
      stand = was.stand;
    }
      where
        apart_new : (k m : Which) → away V k (own_of V new k) ≡ true → away V m (own_of V new m) ≡ true → k ≡ m
        apart_new k m up there = apart_after V lock p was.apart own (λ e. inl (sym same ∙ e)) k m
            (subst (λ o. away V k o ≡ true) (own_from V (dput {X = PassIn V} lock own (own_of V p)) p.stand k) up)
            (subst (λ o. away V m o ≡ true) (own_from V (dput {X = PassIn V} lock own (own_of V p)) p.stand m) there)

    other : (u : ℕ) → u < z.threads → u ≢ t → PassOk rule z xs next u (w.pass u)
    other u near ne = let h = ok.passes u near in record {
      each = dput_elim {X = λ k. (meaning_of rule z xs k).World}
          (λ k y. (meaning_of rule z xs k).PassFits y u (own_of V (w.pass u) k)) lock turn.world w.each
          (turn.passes u (own_of V (w.pass u) lock) ne (h.each lock)) (λ k _. h.each k);
      apart = h.apart;
      stand = h.stand;
    }

    parts : (k : Which) → (meaning_of rule z xs k).Fits (each k) (w.words k) (homes_in k hs')
    parts = dput_elim {X = λ k. (meaning_of rule z xs k).World}
        (λ k y. (meaning_of rule z xs k).Fits y (w.words k) (homes_in k hs')) lock turn.world w.each turn.fits
        (λ k ne. subst ((meaning_of rule z xs k).Fits (w.each k) (w.words k)) (homes_else k hs hs' ne) (ok.parts k))

    passes : (u : ℕ) → u < z.threads → PassOk rule z xs next u (next.pass u)
    passes u near = put_elim (λ y. PassOk rule z xs next u y) w.pass t new u
        (λ e. subst (λ n. PassOk rule z xs next n new) (sym e) mine) (λ ne. other u near ne)

    agrees : (k : Which) → part_in rule z xs k w.whole ≡ ((meaning_of rule z xs k).told_by (each k)).part
    agrees = dput_elim {X = λ k. (meaning_of rule z xs k).World}
        (λ k y. part_in rule z xs k w.whole ≡ ((meaning_of rule z xs k).told_by y).part) lock turn.world w.each
        (ok.agrees lock ∙ sym (λ i. (turn.same i).part)) (λ k ne. ok.agrees k)

    by_kind : (d : ℕ) (y : LotRootView) → LotRootIs rule z xs w d y → LotRootIs rule z xs next d y
    by_kind d (Lock r) h = (h.0, turn.roots d r h.1)
    by_kind d (Cond r) h = h
    by_kind d (Sem r) h = h

    slot_turn : SlotTurn (lot_meaning rule z xs) t new w ws hs'
    slot_turn = record {
      world = next;
      fits = record {
        parts = parts;
        wide = ok.wide;
        keys = ok.keys;
        letters = λ u near. ok.letters u near ∙ sym (letters u);
        passes = passes;
        agrees = agrees;
        none_in_line = none_queued rule z xs next hs' parts passes agrees;
        counts = ok.counts;
        reached = ok.reached;
        ordered = ok.ordered;
      };
      pass = (fit.0, put_same w.pass t new);
      passes = λ u y ne h. (h.0, put_other w.pass t new u ne ∙ h.1);
      roots = by_kind;
      same = λ i. record { part = w.whole; letters = (fun_ext letters) i };
      owed = λ c. let lock_owes = turn.owed c in omega arith;
    }

  pub lifts_out : (p : PassShown (LotPassView V)) (l : ℕ) (mid : LockPassView V → Option V → Type 0)
      (told : LotPassView V → Option V → Type 0)
      → ((own : LockPassView V) (x : Option V) → mid own x → (own.asleep ≡ p.own.locks.asleep) × told (record p.own { locks = own }) x)
      → AllowsOut (meaning_of rule z xs lock) l (part_pass lock p) mid → AllowsOut (lot_meaning rule z xs) l p told
  lifts_out p l mid told carries allows w ws hs ok fit =
      let was : PassOk rule z xs w p.thread p.own = subst (PassOk rule z xs w p.thread) fit.1 (ok.passes p.thread fit.0) in
      let turn = allows (w.each lock) (w.words lock) hs (ok.parts lock) (was.each lock) in
      let c = carries turn.own turn.value turn.told in
      record {
        value = turn.value;
        own = record p.own { locks = turn.own };
        there = turn.there;
        turn = slot_turn p.thread p.own turn.own w ws hs (set hs l none) ok fit c.0 turn.turn;
        told = c.1;
      }

  pub lifts_back : (l t : ℕ) (own : LotPassView V) (y : Option V) (back : LockPassView V → Type 0) (told : LotPassView V → Type 0)
      → ((q : LockPassView V) → back q → (q.asleep ≡ own.locks.asleep) × told (record own { locks = q }))
      → AllowsBack (meaning_of rule z xs lock) l t own.locks y back → AllowsBack (lot_meaning rule z xs) l t own y told
  lifts_back l t own y back told carries allows w ws hs ok fit =
      let was : PassOk rule z xs w t own = subst (PassOk rule z xs w t) fit.1 (ok.passes t fit.0) in
      let turn = allows (w.each lock) (w.words lock) hs (ok.parts lock) (was.each lock) in
      let c = carries turn.own turn.told in
      record {
        own = record own { locks = turn.own };
        turn = slot_turn t own turn.own w ws hs (set hs l (some y)) ok fit c.0 turn.turn;
        told = c.1;
      }

-- ---- the exchange of a value
-- what it tells while the value is out
abbrev pub Leaves : {V : Type 0} → PassShown (LotPassView V) → ℕ → LotPassView V → Option V → Type 0
Leaves {V} p l own y = (own ≡ placed_in p.own l Moving) × ((pl : Place V) → get_elem? p.own.locks.places l ≡ some pl → y ≡ in_slot pl)

module _ {V Part : Type 0} (rule : CallersRule V Part) (z : LotSize) (xs : List V) (p : PassShown (LotPassView V)) (l : ℕ)
    (here : l < z.locks) (holds : Holds p.own.locks l) where
  pub leaves : (pl : Place V) → get_elem? p.own.locks.places l ≡ some pl → IsAtHome pl → AllowsOut (lot_meaning rule z xs) l p (Leaves p l)
  leaves pl there home = lifts_out rule z xs p l (moving.Leaves (part_pass lock p) l) (Leaves p l)
      (λ own x h. (ap (λ (o : LockPassView V). o.asleep) h.0, (ap (λ o. let q : LotPassView V = record p.own { locks = o } in q) h.0, h.1)))
      (moving.leaves rule (lock_size z) xs (part_pass lock p) l here holds pl there home)

  pub comes_back : (y : Option V) → ((x : V) → HasSeen p.own.locks l x → MayLie rule l p.thread x (place_of y))
      → (own : LotPassView V) (x : Option V) → Leaves p l own x
      → AllowsBack (lot_meaning rule z xs) l p.thread own y (λ q. q ≡ placed_in own l (place_of y))
  comes_back y may own x out = lifts_back rule z xs l p.thread own y (λ q. q ≡ placing own.locks l (place_of y))
      (λ q. q ≡ placed_in own l (place_of y))
      (λ q e. (ap (λ (o : LockPassView V). o.asleep) e, ap (λ o. let r : LotPassView V = record own { locks = o } in r) e))
      (moving.comes_back rule (lock_size z) xs (part_pass lock p) l here holds y may own.locks x
      (ap (λ (o : LotPassView V). o.locks) out.0, out.1))
