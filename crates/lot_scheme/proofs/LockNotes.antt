-- How a lot's pass stands after a call of a lock, and its root.
use Rattle.std.proofs.Common.{◌≡◌, ◌≢◌, ℕ, Bool, true, false, MatchBool, List, [], ◌∷◌, ◌++◌, drop, Option, Some, None, refl, sym, ap}
use Rattle.std.proofs.Common.{subst, ◌∙◌}
use Rattle.lot_bucket.specs.Queue.{first_of}
use Rattle.lot_core.specs.Steps.{SaysMore, first}
use Rattle.lot_events.specs.declared.events.Event.TheVariants.{Try, Take, Mark, Park, Free, Pass as Passes}
use Rattle.lot_events.specs.declared.events.Seen.TheVariants.{Bool as Saw, Done, Sleeper}
use Rattle.lot_rights.specs.declared.views.Access.{Access}
use Rattle.lot_rights.specs.declared.views.Access.TheVariants.{Makes, Finds}
use Rattle.lot_rights.specs.Shown.{RootShown, PassShown}
use Rattle.lot_park.specs.Parking.{Queues, debt}
use Rattle.lot_words.specs.declared.views.LockRootView.{LockRootView}
use Rattle.lot_words.specs.CallersRule.{CallersRule}
use Rattle.lot_words.specs.Values.{IsIn}
use Rattle.lot_words.specs.Calls.{owning as lock_owning, wanting as lock_wanting, sleeping, letting_go}
use Rattle.lot_words.specs.Calls.{finding_parked as lock_finding_parked, parked_pass, parked_root, passed_root, token_of}
use Rattle.lot_whole.specs.declared.views.LotPassView.{LotPassView}
use Rattle.lot_whole.specs.declared.views.LotRootView.{LotRootView}
use Rattle.lot_whole.specs.declared.views.LotRootView.TheVariants.{Lock, Cond, Sem}
use Rattle.lot_whole.specs.declared.views.Stand.{Stand}
use Rattle.lot_whole.specs.declared.views.Stand.TheVariants.{Idle}
use Rattle.lot_whole.specs.Family.{lock}
use Rattle.lot_whole.specs.Lifts.{lot_own}
use Rattle.lot_whole.specs.Standing.{IsLockRoot, as_lock}
use Rattle.lot_whole.specs.Calls.{NotesIn, FindsOf, RootIs, GetsBy}
use Rattle.lot_whole.specs.Lot.{line_of_root}
use Rattle.lot_scheme.specs.Roots.{debts_of, owes_in, root_view, OwesFirst}
use Rattle.lot_scheme.specs.Standing.{LotStanding, standing, adding, wanting, dozing, owning, finding_parked}
use Rattle.lot_scheme.specs.LockCalls.{GetsLock, FreesLock}
use Rattle.lot_scheme.proofs.Noted.{noted}
use Rattle.lot_scheme.proofs.Owed.{is_lock}

-- what the buckets see of a lock's root after a parking
parked_seen : (own now : LotRootView) (t : ℕ) (does : Bool) → IsLockRoot own → now ≡ Lock (parked_root (as_lock own) t does)
    → (owes_in now ≡ owes_in own) × MatchBool does (line_of_root now ≡ line_of_root own ++ t ∷ []) (now ≡ own)
parked_seen (Lock q) now t true kind e = (ap owes_in e, ap line_of_root e)
parked_seen (Lock q) now t false kind e = (ap owes_in e, e)
parked_seen (Cond q) now t does kind e = absurd kind
parked_seen (Sem q) now t does kind e = absurd kind

-- and after a lock was passed on: the first of its line was taken
nothing_owed : (owes : Option (ℕ × ℕ)) → debts_of owes ≡ [] → owes ≡ None
nothing_owed None e = refl
nothing_owed (Some d) e = cc

passed_on : (q : LockRootView) (fair : Bool) (line : List ℕ) → q.line ≡ line → debts_of q.owes ≡ []
    → ((passed_root q fair line).line ≡ drop 1 line) × (debts_of (passed_root q fair line).owes ≡ debt (first_of line) (token_of fair))
passed_on q fair [] is clear = (is, clear)
passed_on q fair (u ∷ us) is clear = (refl, refl)

passed_seen : (own now : LotRootView) (fair : Bool) → IsLockRoot own → owes_in own ≡ []
    → now ≡ Lock (passed_root (as_lock own) fair (as_lock own).line)
    → (line_of_root now ≡ drop 1 (line_of_root own)) × (owes_in now ≡ debt (first_of (line_of_root own)) (token_of fair))
passed_seen (Lock q) now fair kind clear e =
    let told = passed_on q fair q.line refl clear in (ap line_of_root e ∙ told.0, ap owes_in e ∙ told.1)
passed_seen (Cond q) now fair kind clear e = absurd kind
passed_seen (Sem q) now fair kind clear e = absurd kind

first_same : (line : List ℕ) → first_of line ≡ first line
first_same [] = refl
first_same (u ∷ us) = refl

-- what the table asks of the root, as the buckets see it
pub first_told : (own : LotRootView) (told : Option ℕ) → IsLockRoot own → first_of (line_of_root own) ≡ told → owes_in own ≡ []
    → (first (as_lock own).line ≡ told) × ((as_lock own).owes ≡ None)
first_told (Lock q) told kind is clear = (sym (first_same q.line) ∙ is, nothing_owed q.owes clear)
first_told (Cond q) told kind is clear = absurd kind
first_told (Sem q) told kind is clear = absurd kind

pub more_told : (own : LotRootView) (more : Bool) → IsLockRoot own → SaysMore (line_of_root own) more → SaysMore (as_lock own).line more
more_told (Lock q) more kind says = says
more_told (Cond q) more kind says = absurd kind
more_told (Sem q) more kind says = absurd kind

-- roots that were taken out of their names, and named again
pub takes_first : (r before after s : RootShown LotRootView) (told : Option ℕ) (fair : Bool) → before ≡ r → s ≡ after
    → IsLockRoot before.own
    → owes_in r.own ≡ [] → first_of (line_of_root r.own) ≡ told
    → RootIs lock before (passed_root (as_lock before.own) fair (as_lock before.own).line) after
    → OwesFirst root_view r told (token_of fair) s
takes_first r before after s told fair is_r is_s kind clear first_is is =
    let seen = passed_seen before.own after.own fair kind
    (ap (λ (z : RootShown LotRootView). owes_in z.own) is_r ∙ clear) (ap (λ (z : RootShown LotRootView). z.own) is)
    in
    subst (λ (z : RootShown LotRootView). OwesFirst root_view z told (token_of fair) s) is_r
    (subst (λ (z : RootShown LotRootView). OwesFirst root_view before told (token_of fair) z) (sym is_s)
    (record {
      named = ap (λ (z : RootShown LotRootView). z.key) is;
      lined = seen.0;
      owing = seen.1
          ∙ ap (λ (u : Option ℕ). debt u (token_of fair))
          (ap (λ (z : RootShown LotRootView). first_of (line_of_root z.own)) is_r ∙ first_is);
    }))

module _ {V : Type 0} where
  -- ---- the line
  pub queues : (r before after s : RootShown LotRootView) (p q : LotStanding V) (does : Bool) → before ≡ r → s ≡ after
      → IsLockRoot before.own
      → RootIs lock before (parked_root (as_lock before.own) p.thread does) after → q.thread ≡ p.thread
      → Queues root_view (λ (z : LotStanding V). z.thread) p r does q s
  queues r before after s p q does is_r is_s kind is same =
      subst (λ (z : RootShown LotRootView). Queues root_view (λ (y : LotStanding V). y.thread) p z does q s) is_r
      (subst (λ (z : RootShown LotRootView). Queues root_view (λ (y : LotStanding V). y.thread) p before does q z) (sym is_s) (record {
        caller = same;
        named = ap (λ (z : RootShown LotRootView). z.key) is;
        owing = told.0;
        lined = lined does told.1 is;
      }))
    where
      told : (owes_in after.own ≡ owes_in before.own)
          × MatchBool does (line_of_root after.own ≡ line_of_root before.own ++ p.thread ∷ []) (after.own ≡ before.own)
      told = parked_seen before.own after.own p.thread does kind (ap (λ (z : RootShown LotRootView). z.own) is)

      lined : (b : Bool)
          → MatchBool b (line_of_root after.own ≡ line_of_root before.own ++ p.thread ∷ []) (after.own ≡ before.own)
          → RootIs lock before (parked_root (as_lock before.own) p.thread b) after
          → MatchBool b ((root_view after).line ≡ (root_view before).line ++ p.thread ∷ []) (after ≡ before)
      lined true e is_root = e
      lined false e is_root =
          is_root ∙ ap (λ (o : LotRootView). record before { own = o }) (sym (ap (λ (z : RootShown LotRootView). z.own) is_root) ∙ e)

  pub marked : (p : PassShown (LotPassView V)) (key : ℕ) (does : Bool) (q : PassShown (LotPassView V))
      → MatchBool does (NotesIn lock p p.own.locks (Makes (Mark p.thread key) Done) q) ((word : ℕ) × (word ≢ 1) × FindsOf p key word q)
      → MatchBool does (standing q ≡ adding (standing p) (Makes (Mark p.thread key) Done ∷ []))
      ((word : ℕ) × (word ≢ 1) × (standing q ≡ adding (standing p) (Finds p.thread key word ∷ [])))
  marked p key true q note = noted p p.own (Makes (Mark p.thread key) Done) q note
  marked p key false q (word, other, note) = (word, other, noted p p.own (Finds p.thread key word) q note)

  pub parked : (p : PassShown (LotPassView V)) (key : ℕ) (does : Bool) (q : PassShown (LotPassView V))
      → NotesIn lock p (parked_pass p.own.locks does) (Makes (Park p.thread key) (Saw does)) q
      → MatchBool does (standing q ≡ adding (dozing (standing p)) (Makes (Park p.thread key) (Saw true) ∷ []))
      (standing q ≡ adding (standing p) (Makes (Park p.thread key) (Saw false) ∷ []))
  parked p key true q note = noted p (record p.own { locks = sleeping p.own.locks }) (Makes (Park p.thread key) (Saw true)) q note
  parked p key false q note = noted p p.own (Makes (Park p.thread key) (Saw false)) q note

  -- ---- releases
  -- by the one exchange
  pub freed : (p : PassShown (LotPassView V)) (key : ℕ) (does : Bool) (q : PassShown (LotPassView V)) → ((y : V) × IsIn p.own.locks key y)
      → MatchBool does
      ((y : V) → IsIn p.own.locks key y → NotesIn lock p (letting_go p.own.locks key y) (Makes (Free p.thread key) (Saw true)) q)
      (NotesIn lock p (lock_finding_parked p.own.locks key) (Makes (Free p.thread key) (Saw false)) q)
      → MatchBool does (FreesLock (standing p) key (Makes (Free p.thread key) (Saw true)) (standing q))
      (standing q ≡ adding (finding_parked (standing p) key) (Makes (Free p.thread key) (Saw false) ∷ []))
  freed p key true q (y, lies) notes =
      let a : Access = Makes (Free p.thread key) (Saw true) in
      (y, lies, noted p (lot_own lock p.own (letting_go p.own.locks key y) a) a q (notes y lies))
  freed p key false q lies note =
      noted p (record p.own { locks = lock_finding_parked p.own.locks key }) (Makes (Free p.thread key) (Saw false)) q note

  -- while the bucket is locked
  pub passed : (p : PassShown (LotPassView V)) (key : ℕ) (first : Option ℕ) (fair more : Bool) (q : PassShown (LotPassView V))
      → ((y : V) × IsIn p.own.locks key y)
      → ((y : V) → IsIn p.own.locks key y
      → NotesIn lock p (letting_go p.own.locks key y) (Makes (Passes p.thread key fair more) (Sleeper first)) q)
      → FreesLock (standing p) key (Makes (Passes p.thread key fair more) (Sleeper first)) (standing q)
  passed p key first fair more q (y, lies) notes =
      let a : Access = Makes (Passes p.thread key fair more) (Sleeper first) in
      (y, lies, noted p (lot_own lock p.own (letting_go p.own.locks key y) a) a q (notes y lies))

module _ {V Part : Type 0} (rule : CallersRule V Part) where
  -- ---- tries
  -- by an access after which the thread stands at no condition
  gets : (p : PassShown (LotPassView V)) (key : ℕ) (x : V) (a : Access) (s : Stand) (q : PassShown (LotPassView V)) → s ≡ Idle
      → standing q ≡ adding (record (standing p) { own = record p.own { locks = lock_owning p.own.locks key x; stand = s } }) (a ∷ [])
      → standing q ≡ adding (owning (standing p) key x) (a ∷ [])
  gets p key x a s q idle is =
      subst (λ (z : Stand). standing q
      ≡ adding (record (standing p) { own = record p.own { locks = lock_owning p.own.locks key x; stand = z } }) (a ∷ []))
      idle is

  pub took_free : (p : PassShown (LotPassView V)) (key : ℕ) (q : PassShown (LotPassView V))
      → GetsBy rule p key (Makes (Take p.thread key) (Saw true)) q
      → GetsLock rule (standing p) key (Makes (Take p.thread key) (Saw true)) (standing q)
  took_free p key q (x, found, note) = (
    x,
    found,
    noted p (record p.own { locks = lock_owning p.own.locks key x; stand = Idle })
        (Makes (Take p.thread key) (Saw true)) q note,
  )

  pub found_it : (p : PassShown (LotPassView V)) (key word : ℕ) (q : PassShown (LotPassView V)) → FindsOf p key word q
      → standing q ≡ adding (standing p) (Finds p.thread key word ∷ [])
  found_it p key word q note = noted p p.own (Finds p.thread key word) q note

  pub took : (p : PassShown (LotPassView V)) (key : ℕ) (does : Bool) (q : PassShown (LotPassView V))
      → MatchBool does (GetsBy rule p key (Makes (Take p.thread key) (Saw true)) q)
      (NotesIn lock p (lock_wanting p.own.locks key) (Makes (Take p.thread key) (Saw false)) q)
      → MatchBool does (GetsLock rule (standing p) key (Makes (Take p.thread key) (Saw true)) (standing q))
      (standing q ≡ adding (wanting (standing p) key) (Makes (Take p.thread key) (Saw false) ∷ []))
  took p key true q (x, found, note) = (
    x,
    found,
    noted p (record p.own { locks = lock_owning p.own.locks key x; stand = Idle })
        (Makes (Take p.thread key) (Saw true)) q note,
  )
  took p key false q note =
      noted p (record p.own { locks = lock_wanting p.own.locks key; stand = Idle }) (Makes (Take p.thread key) (Saw false)) q note

  pub tried : (p : PassShown (LotPassView V)) (key : ℕ) (does : Bool) (q : PassShown (LotPassView V)) → p.own.stand ≡ Idle
      → MatchBool does (GetsBy rule p key (Makes (Try p.thread key) (Saw true)) q)
      (NotesIn lock p p.own.locks (Makes (Try p.thread key) (Saw false)) q)
      → MatchBool does (GetsLock rule (standing p) key (Makes (Try p.thread key) (Saw true)) (standing q))
      (standing q ≡ adding (standing p) (Makes (Try p.thread key) (Saw false) ∷ []))
  tried p key true q idle (x, found, note) =
      let a : Access = Makes (Try p.thread key) (Saw true) in
      (x, found, gets p key x a p.own.stand q idle (noted p (record p.own { locks = lock_owning p.own.locks key x }) a q note))
  tried p key false q idle note = noted p p.own (Makes (Try p.thread key) (Saw false)) q note

-- of a parking
pub ruleset parked_laws = (parked, is_lock, queues)

-- of a lock that is passed on
pub ruleset passed_laws = (passed, is_lock, first_told, more_told, takes_first)
