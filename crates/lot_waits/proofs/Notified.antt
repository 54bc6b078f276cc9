-- How a pass stands after a whole notification, from how it stands after each of its calls.
use Rattle.std.proofs.Common.{◌≡◌, ℕ, ◌<◌, Bool, true, false, List, [], ◌∷◌, ◌++◌, Option, Some, None, is_some, inr, refl}
use Rattle.std.proofs.Common.{sym, ap, subst, ◌∙◌}
use Rattle.std.proofs.lemmas.List.{append_assoc}
use Rattle.lot_events.specs.declared.events.Event.TheVariants.{Look, Call, Lower, Sweep}
use Rattle.lot_events.specs.declared.events.Seen.TheVariants.{Bool as Saw, Done, Count}
use Rattle.lot_rights.specs.declared.views.Access.{Access}
use Rattle.lot_rights.specs.declared.views.Access.TheVariants.{Makes}
use Rattle.lot_conds.specs.Calls.{called_more as cond_called_more}
use Rattle.lot_whole.specs.declared.views.LotPassView.{LotPassView}
use Rattle.lot_whole.specs.declared.views.Stand.{Stand}
use Rattle.lot_whole.specs.declared.views.Stand.TheVariants.{Idle}
use Rattle.lot_whole.specs.Family.{cond}
use Rattle.lot_whole.specs.Standing.{IsIdle, MaySweep}
use Rattle.lot_scheme.specs.Standing.{LotStanding, adding, called_more as stand_called_more, setting_out, swept}
use Rattle.lot_scheme.specs.Traces.{trace_of_all}
use Rattle.lot_waits.specs.Notifying.{Calls, Sweeps, Notifies, NotifiesAll, FindsNobody}

three : (a : List Access) (x y z : Access) → ((a ++ x ∷ []) ++ y ∷ []) ++ z ∷ [] ≡ a ++ (x ∷ y ∷ z ∷ [])
three a x y z = simp append_assoc

module _ {V : Type 0} where
  -- the flag was seen so
  abbrev pub looked : LotStanding V → ℕ → Bool → LotStanding V
  looked p c saw = adding p (Makes (Look p.thread c) (Saw saw) ∷ [])

  -- ---- nobody
  pub finds_nobody : (p q : LotStanding V) (c : ℕ) (saw : Bool) → saw ≡ false → q ≡ looked p c saw → FindsNobody p c 0 q
  finds_nobody p q c saw clear is = (refl, subst (λ b. q ≡ looked p c b) clear is)

  -- ---- some
  pub notified : (p m q : LotStanding V) (c n taken : ℕ) (saw : Bool) → saw ≡ true → m ≡ looked p c saw
      → ((more : Bool) × (more ≡ true → 0 < taken) × Calls m c n taken more q) → Notifies p c n taken q
  notified p m q c n taken saw set is calls =
      let at : m ≡ looked p c true = subst (λ b. m ≡ looked p c b) set is in
      let (more, says, called) = calls in
      let went : Calls (looked p c true) c n taken more q = subst (λ (r : LotStanding V). Calls r c n taken more q) at called in
      let look : Access = Makes (Look p.thread c) (Saw true) in
      let call : Access = Makes (Call p.thread c n more) (Count taken) in
      inr (
        look ∷ call ∷ [],
        (more, says, refl),
        went ∙ ap (λ did. record (stand_called_more p c taken) { did = did }) (append_assoc p.did (look ∷ []) (call ∷ [])),
      )

  -- ---- all
  -- who sweeps what it has lowered knows what one knows that calls them all
  swept_own : (p : LotStanding V) (c taken : ℕ) → IsIdle p.own → (swept (setting_out p c) c taken).own ≡ (stand_called_more p c taken).own
  swept_own p c taken idle =
      ap (λ (s : Option ℕ). record p.own { conds = record (cond_called_more p.own.conds c taken) { sweeps = s }; stand = Idle })
      (sym idle.0.sweeps)
      ∙ ap (λ (s : Stand). record p.own { conds = cond_called_more p.own.conds c taken; stand = s }) (sym idle.1)

  pub may_sweep : (p m r : LotStanding V) (c : ℕ) (saw : Bool) → IsIdle p.own → m ≡ looked p c saw
      → r ≡ adding (setting_out m c) (Makes (Lower m.thread c) Done ∷ [])
      → MaySweep r.own c
  may_sweep p m r c saw idle is lowered =
      let at : r ≡ adding (setting_out (looked p c saw) c) (Makes (Lower p.thread c) Done ∷ []) =
      subst (λ (z : LotStanding V). r ≡ adding (setting_out z c) (Makes (Lower z.thread c) Done ∷ [])) is lowered in
      subst (λ (z : LotStanding V). MaySweep z.own c) (sym at) (none_out p.own (idle.0.up cond), refl)
    where
      none_out : (own : LotPassView V) → is_some own.conds.out ≡ false → own.conds.out ≡ None
      none_out own up = none own.conds.out up
        where
          none : (o : Option ℕ) → is_some o ≡ false → o ≡ None
          none None e = refl
          none (Some x) e = absurd cc

  pub notified_all : (p m r q : LotStanding V) (c taken : ℕ) (saw : Bool) → IsIdle p.own → saw ≡ true → m ≡ looked p c saw
      → r ≡ adding (setting_out m c) (Makes (Lower m.thread c) Done ∷ []) → Sweeps r c taken q → NotifiesAll p c taken q
  notified_all p m r q c taken saw idle set is lowered sweeps =
      let seen : m ≡ looked p c true = subst (λ b. m ≡ looked p c b) set is in
      let low : LotStanding V = adding (setting_out (looked p c true) c) (Makes (Lower p.thread c) Done ∷ []) in
      let at : r ≡ low = subst (λ (z : LotStanding V). r ≡ adding (setting_out z c) (Makes (Lower z.thread c) Done ∷ [])) seen lowered in
      let went : Sweeps low c taken q = subst (λ (z : LotStanding V). Sweeps z c taken q) at sweeps in
      inr (went
      ∙ ap (λ did. record (swept (setting_out p c) c taken) { did = did })
      (three p.did (Makes (Look p.thread c) (Saw true)) (Makes (Lower p.thread c) Done) (Makes (Sweep p.thread c) (Count taken)))
      ∙ ap (λ (own : LotPassView V). record { thread = p.thread; own = own; did = p.did ++ trace_of_all p.thread c taken })
      (swept_own p c taken idle))
