-- What the calls on a semaphore's word make of how a pass stands.
use Rattle.std.proofs.Common.{◌≡◌, ◌≢◌, ℕ, Bool, true, false, MatchBool, List, [], ◌∷◌, map, refl, sym, ap}
use Rattle.std.proofs.Common.{subst, ◌∙◌, inl, inr}
use Rattle.std.proofs.lemmas.List.{append_assoc}
use Rattle.lot_events.specs.declared.events.Event.TheVariants.{SemTake, SemMark, SemFree}
use Rattle.lot_events.specs.declared.events.Seen.TheVariants.{Bool as Saw, Done}
use Rattle.lot_rights.specs.declared.views.Access.{Access}
use Rattle.lot_rights.specs.declared.views.Access.TheVariants.{Makes, Finds}
use Rattle.lot_rights.specs.declared.views.Entry.{Entry}
use Rattle.lot_rights.specs.Shown.{PassShown}
use Rattle.lot_rights.specs.Steps.{Notes}
use Rattle.lot_sems.specs.declared.taking.Taken.{Taken}
use Rattle.lot_sems.specs.declared.taking.Taken.TheVariants.{Got, Empty, Busy}
use Rattle.lot_sems.specs.Calls.{one_permit_more, one_permit_less, seeking as sem_seeking, IsAnyLeft}
use Rattle.lot_whole.specs.declared.views.LotPassView.{LotPassView}
use Rattle.lot_whole.specs.Family.{sem}
use Rattle.lot_whole.specs.Lifts.{lot_own}
use Rattle.lot_whole.specs.Calls as whole
use Rattle.lot_scheme.specs.Standing.{LotStanding, standing, adding}
use Rattle.lot_scheme.specs.SemCalls.{TriesPermit, TakesPermit, MarksPermit, FreesPermit}
use Rattle.lot_scheme.proofs.Noted.{noted}

module _ {V : Type 0} where
  -- a call of the words tells this of two passes, and so of how they stand
  pub told_of : (Told : LotStanding V → LotStanding V → Type 0) (before after : PassShown (LotPassView V)) {p q : LotStanding V}
      → p ≡ standing before → q ≡ standing after → Told (standing before) (standing after) → Told p q
  told_of Told before after {q = q} is_p is_q told =
      subst (λ s. Told s q) (sym is_p) (subst (λ s. Told (standing before) s) (sym is_q) told)

  module _ (p r q : PassShown (LotPassView V)) where
    -- a look, which leaves what is known, and then one entry more
    looked_then : (own : LotPassView V → LotPassView V) (a b : Access) → Notes p p.own a r → Notes r (own r.own) b q
        → standing q ≡ adding (record (standing p) { own = own p.own }) (a ∷ b ∷ [])
    looked_then own a b look note =
        noted r (own r.own) b q note
        ∙ (ap (λ (s : LotStanding V). adding (record s { own = own s.own }) (b ∷ [])) (noted p p.own a r look)
        ∙ ap (λ (did : List Access). record { thread = p.thread; own = own p.own; did = did })
        (append_assoc (map (λ (e : Entry). e.access) p.made) (a ∷ []) (b ∷ [])))

    -- the thread of the pass that a look left
    same_thread : (a : Access) → Notes p p.own a r → r.thread ≡ p.thread
    same_thread a look = ap (λ (s : LotStanding V). s.thread) (noted p p.own a r look)

  module _ (p : PassShown (LotPassView V)) (k : ℕ) where
    -- ---- tries
    busy : (q : PassShown (LotPassView V)) → whole.Misses p k IsAnyLeft q → TriesPermit (standing p) k Busy (standing q)
    busy q (seen, found, left, other, (r, look, note)) = (
      Finds p.thread k seen ∷ Finds p.thread k found ∷ [],
      (seen, found, left, other, refl),
      looked_then p r q (λ own. own) (Finds p.thread k seen) (Finds p.thread k found) look
          (subst (λ t. Notes r r.own (Finds t k found) q) (same_thread p r q (Finds p.thread k seen) look) note),
    )

    took : (q : PassShown (LotPassView V)) → whole.TriesPermit p k Got q → TriesPermit (standing p) k Got (standing q)
    took q (word, left, (r, look, note)) = (
      Finds p.thread k word ∷ Makes (SemTake p.thread k) (Saw true) ∷ [],
      (word, left, refl),
      looked_then p r q (λ own. lot_own sem own (one_permit_more own.sems k) (Makes (SemTake p.thread k) (Saw true)))
          (Finds p.thread k word)
          (Makes (SemTake p.thread k) (Saw true)) look (at_look r look note),
    )
      where
        at_look : (r : PassShown (LotPassView V)) → whole.FindsOf p k word r
            → whole.NotesIn sem r (one_permit_more p.own.sems k) (Makes (SemTake p.thread k) (Saw true)) q
            → Notes r (lot_own sem r.own (one_permit_more r.own.sems k) (Makes (SemTake p.thread k) (Saw true)))
            (Makes (SemTake p.thread k) (Saw true)) q
        at_look r look note =
            subst (λ (o : LotPassView V). Notes r (lot_own sem r.own (one_permit_more o.sems k) (Makes (SemTake p.thread k) (Saw true)))
            (Makes (SemTake p.thread k) (Saw true)) q)
            (sym (ap (λ (s : LotStanding V). s.own) (noted p p.own (Finds p.thread k word) r look))) note

    pub tries : (became : Taken) (q : PassShown (LotPassView V)) → whole.TriesPermit p k became q
        → TriesPermit (standing p) k became (standing q)
    tries Got q did = took q did
    tries Empty q (word, few, note) = (word, few, noted p p.own (Finds p.thread k word) q note)
    tries Busy q miss = busy q miss

    pub takes : (became : Taken) (q : PassShown (LotPassView V)) → whole.TakesPermit p k became q
        → TakesPermit (standing p) k became (standing q)
    takes Got q did = took q did
    takes Empty q note = noted p (lot_own sem p.own (sem_seeking p.own.sems k) (Makes (SemTake p.thread k) (Saw false)))
        (Makes (SemTake p.thread k) (Saw false)) q note
    takes Busy q miss = busy q miss

    -- ---- lining up
    pub marks : (does : Bool) (q : PassShown (LotPassView V))
        → MatchBool does (whole.NotesIn sem p p.own.sems (Makes (SemMark p.thread k) Done) q) ((word : ℕ) × (word ≢ 0)
        × whole.FindsOf p k word q)
        → MarksPermit (standing p) k does (standing q)
    marks true q note = noted p p.own (Makes (SemMark p.thread k) Done) q note
    marks false q (word, other, note) = (word, other, noted p p.own (Finds p.thread k word) q note)

    -- ---- releases
    pub frees : (does : Bool) (q : PassShown (LotPassView V)) → whole.FreesPermit p k does q → FreesPermit (standing p) k does (standing q)
    frees true q (word, clear, (r, look, note)) = (
      Finds p.thread k word ∷ Makes (SemFree p.thread k) (Saw true) ∷ [],
      (word, clear, refl),
      looked_then p r q (λ own. lot_own sem own (one_permit_less own.sems k) (Makes (SemFree p.thread k) (Saw true)))
          (Finds p.thread k word)
          (Makes (SemFree p.thread k) (Saw true)) look
          (subst (λ (o : LotPassView V). Notes r (lot_own sem r.own (one_permit_less o.sems k) (Makes (SemFree p.thread k) (Saw true)))
          (Makes (SemFree p.thread k) (Saw true)) q)
          (sym (ap (λ (s : LotStanding V). s.own) (noted p p.own (Finds p.thread k word) r look))) note),
    )
    frees false q (inl (word, marked, note)) = (
      Finds p.thread k word ∷ [],
      inl (word, marked, refl),
      noted p p.own (Finds p.thread k word) q note,
    )
    frees false q (inr (seen, found, clear, other, (r, look, note))) = (
      Finds p.thread k seen ∷ Finds p.thread k found ∷ [],
      inr (seen, found, clear, other, refl),
      looked_then p r q (λ own. own) (Finds p.thread k seen) (Finds p.thread k found) look
          (subst (λ t. Notes r r.own (Finds t k found) q) (same_thread p r q (Finds p.thread k seen) look) note),
    )
