-- Passes that come back to close their lot, and what they tell of its run.
use Rattle.std.proofs.Common.{◌≡◌, ℕ, ◌+◌, ◌*◌, ◌<◌, zero, suc, false, List, [], ◌∷◌, ◌++◌, length, map, slice_get, Option, Some, None}
use Rattle.std.proofs.Common.{refl, sym, ap, subst, ◌∙◌, ⊎_elim, arith}
use mathlib.Core.Option.{some}
use lib.ListN.{get_elem?}
use Rattle.std.specs.Prelude.{is_some}
use Rattle.std.specs.List.{All, Any}
use Rattle.std.proofs.lemmas.List.Elements.{All-weaker, All-map, All-head, All-tail}
use Rattle.atomic_table.specs.Seated.{TableId}
use Rattle.lot_rights.specs.declared.views.Entry.{Entry}
use Rattle.lot_rights.specs.History.{entries_of, handed_in, tokens_of}
use Rattle.lot_rights.specs.Shown.{PassShown, RootShown}
use Rattle.lot_rights.proofs.Totals.{any_cases}
use Rattle.lot_rights.proofs.Turns.{some_at}
use Rattle.lot_table.specs.Roots.{Appends}
use Rattle.lot_words.specs.CallersRule.{CallersRule}
use Rattle.lot_words.specs.Values.{FoundOk}
use Rattle.lot_whole.specs.declared.views.LotPassView.{LotPassView}
use Rattle.lot_whole.specs.declared.views.LotRootView.{LotRootView}
use Rattle.lot_whole.specs.Family.{cond}
use Rattle.lot_whole.specs.Order.{accesses_of, queued_in}
use Rattle.lot_whole.specs.Lot.{line_of_root, owed_by}
use Rattle.lot_whole.specs.Standing.{IsIdle}
use Rattle.lot_scheme.specs.Roots.{root_view, owes_in}
use Rattle.lot_scheme.specs.Counts.{queued_now}
use Rattle.lot_scheme.specs.Standing.{LotStanding, standing}
use Rattle.lot_scheme.proofs.Counts.{clear_owes}
use Rattle.lot_waits.specs.Counts.{counts_shown}
use Rattle.lot_sync.specs.Lot.{LotNames, PassView, Owns, OwnsNone, HasSeen, counts_of}
use Rattle.lot_sync.specs.Passes.{pass_view_of, pass_view_shown, IsAtRest, IsFree}
use Rattle.lot_sync.specs.Values.{GoesOnTo}
use Rattle.lot_sync.specs.Closing.{AreCounts, AreCountedWith}
use Rattle.lot_sync.proofs.Rests.{held_owned}

nobody_out : (out : Option ℕ) → is_some out ≡ false → out ≡ None
nobody_out None e = refl
nobody_out (Some c) e = absurd (cc)

owed_none : (own : LotRootView) → owes_in own ≡ [] → queued_now own ≡ length (line_of_root own)
owed_none own none = let zero_owed = ap length none in omega (arith, zero_owed)

module _ {V : Type 0} where
  -- a pass at rest that owns nothing has done all that it was to do
  pub free_of : (grows : V → V → Type 0) (names : LotNames V) (table : TableId) (p : PassView V) (r : LotStanding V) (q : PassShown
      (LotPassView V)) → p ≡ pass_view_of r → r ≡ standing q
      → q.table ≡ table → IsAtRest grows names r → OwnsNone p → IsFree table q
  free_of grows names table p r q same is own rest none = record {
    is_of = own;
    done = (
      (λ l holds. none.no_lock l (subst (λ (x : PassView V). Owns x l) (sym (same
          ∙ ap pass_view_of is)) (held_owned q.own.locks.holds l holds))),
      nobody_out q.own.conds.out (subst (λ (x : LotStanding V). is_some x.own.conds.out ≡ false) is (rest.idle.0.up cond)),
    );
    idle = subst (λ (x : LotStanding V). IsIdle x.own) is rest.idle;
  }

  -- what the passes counted, as they show it and as they are seen
  pub counted : (rights : List (PassShown (LotPassView V))) → map counts_of (map pass_view_shown rights) ≡ map counts_shown rights
  counted [] = refl
  counted (p ∷ ps) = ap (λ cs. counts_shown p ∷ cs) (counted ps)

-- each value goes on from what the passes had seen of it
pub goes_on : {V Part : Type 0} (rule : CallersRule V Part) (values : List V) (rights : List (PassShown (LotPassView V)))
    → All (λ (p : PassShown (LotPassView V)). (l : ℕ) (y : V) → slice_get values l ≡ Some y
    → FoundOk rule l p.thread p.own.locks y) rights
    → All (GoesOnTo rule values) (map pass_view_shown rights)
goes_on {V} rule values rights found = All-map (GoesOnTo rule values) pass_view_shown rights
    (All-weaker (λ (p : PassShown (LotPassView V)). (l : ℕ) (y : V) → slice_get values l ≡ Some y
    → FoundOk rule l p.thread p.own.locks y)
    (λ (p : PassShown (LotPassView V)). GoesOnTo rule values (pass_view_shown p))
    (λ p is. record {
      kept = λ key v at. (is key v at).kept;
      grown = λ key u v at seen. (is key v at).grown u seen;
      mine = λ key u v at seen. (is key v at).mine u seen;
    }) rights found)

-- what one of the passes has seen of a value, as passes are seen
pub some_seen : {V : Type 0} (key : ℕ) (v : V) (rights : List (PassShown (LotPassView V)))
    → Any (λ (p : PassShown (LotPassView V)). get_elem? p.own.locks.seen key ≡ some v) rights
    → Any (λ (p : PassView V). HasSeen p key v) (map pass_view_shown rights)
some_seen key v [] (k, p, near, is, holds) = absurd (omega (arith, near))
some_seen {V} key v (p ∷ ps) one =
    ⊎_elim {C = Any (λ (q : PassView V). HasSeen q key v) (map pass_view_shown (p ∷ ps))}
    (λ here. (zero, pass_view_shown p, omega arith, refl, here))
    (λ later. let (k, q, near, is, holds) = some_seen key v ps later in (suc k, q, omega (arith, near), is, holds))
    (any_cases (λ (q : PassShown (LotPassView V)). get_elem? q.own.locks.seen key ≡ some v) p ps one)

-- the root of each key has come back
pub each_root : (k keys : ℕ) (before after : List (RootShown LotRootView)) → Appends root_view keys before after → before ≡ [] → k < keys
    → Any (λ (q : RootShown LotRootView). q.key ≡ k) after
each_root k keys before after back none near =
    let are : after ≡ back.roots = back.appended ∙ ap (λ (rs : List (RootShown LotRootView)). rs ++ back.roots) none in
    subst (Any (λ (q : RootShown LotRootView). q.key ≡ k)) (sym are)
    (some_at (λ (q : RootShown LotRootView). q.key ≡ k) back.roots k (subst (λ n. k < n) (sym back.each) near)
    (λ q at. back.named k q at))

all_got : {A : Type 0} (P : A → Type 0) (xs : List A) (i : ℕ) (x : A) → All P xs → slice_get xs i ≡ Some x → P x
all_got P [] i x all at = absurd (cc)
all_got P (y ∷ ys) zero x all at = let same : y ≡ x = cc in subst P same (All-head P y ys all)
all_got P (y ∷ ys) (suc i) x all at = all_got P ys i x (All-tail P y ys all) at

-- what was counted with each root that has come back
pub counts_are : {C : Type 0} (counts : C → ℕ → ℕ → ℕ → Type 0) (log : List Entry) (keys : ℕ) (before after : List (RootShown LotRootView))
    (cs : List C) → Appends root_view keys before after → before ≡ []
    → All (λ (q : RootShown LotRootView). q.made ≡ entries_of (2 * q.key + 1) log) after
    → All (λ (q : RootShown LotRootView). queued_in q.key log
    ≡ length (tokens_of q.key log) + owed_by q.own + length (line_of_root q.own)) after
    → length after ≡ length cs → AreCountedWith counts after cs → AreCounts counts log after cs
counts_are counts log keys before after cs back none made queued each counted =
    let are : after ≡ back.roots = back.appended ∙ ap (λ (rs : List (RootShown LotRootView)). rs ++ back.roots) none in
    let key_at = λ (i : ℕ) (r : RootShown LotRootView) (at : slice_get after i ≡ Some r). back.named i r
    (subst (λ (rs : List (RootShown LotRootView)). slice_get rs i ≡ Some r) are at) in
    record {
      each = each;
      keys = key_at;
      tell = λ i c r here at.
          let own : r.made ≡ tokens_of i log =
          all_got (λ (q : RootShown LotRootView). q.made ≡ entries_of (2 * q.key + 1) log) after i r made at
          ∙ ap (λ k. tokens_of k log) (key_at i r at) in
          let owes = back.paid i r (subst (λ (rs : List (RootShown LotRootView)). slice_get rs i ≡ Some r) are at) in
          let ever = all_got (λ (q : RootShown LotRootView). queued_in q.key log
          ≡ length (tokens_of q.key log) + owed_by q.own + length (line_of_root q.own)) after i r queued at in
          let all : length r.made + queued_now r.own ≡ queued_in r.key log =
          omega (
            arith,
            ever,
            clear_owes r.own owes,
            owed_none r.own owes,
            ap length own,
            ap (λ k. length (tokens_of k log))
                (key_at i r at),
          ) in
          subst (λ m. counts c (queued_in i log) (length m) (handed_in m)) own
          (subst (λ n. counts c n (length r.made) (handed_in r.made)) (all ∙ ap (λ k. queued_in k log) (key_at i r at))
          (counted i c r here at));
    }

-- what was made with each pass that came back is its thread's part of the history
pub each_own : {V : Type 0} (log : List Entry) (rights : List (PassShown (LotPassView V)))
    → All (λ (p : PassShown (LotPassView V)). p.made ≡ entries_of (2 * p.thread) log) rights
    → All (λ (p : PassView V). p.made ≡ accesses_of (2 * p.thread) log) (map pass_view_shown rights)
each_own {V} log rights made = All-map (λ (p : PassView V). p.made ≡ accesses_of (2 * p.thread) log) pass_view_shown rights
    (All-weaker (λ (p : PassShown (LotPassView V)). p.made ≡ entries_of (2 * p.thread) log)
    (λ (p : PassShown (LotPassView V)). (pass_view_shown p).made ≡ accesses_of (2 * p.thread) log)
    (λ p is. ap (map (λ (e : Entry). e.access)) is) rights made)
