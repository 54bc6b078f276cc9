-- Steps of passes and roots keep the rule, where the kind's turns lead from world to world.
use Rattle.std.proofs.Common.{◌≡◌, ◌≢◌, ℕ, ◌+◌, ◌*◌, ◌≤◌, ◌==◌, cond, List, [], ◌∷◌, ◌++◌, length, set, slice_index, refl, sym, ap, subst}
use Rattle.std.proofs.Common.{◌∙◌, eq-eqb, arith}
use Rattle.std.proofs.lemmas.List.{set-get_or}
use mathlib.Core.Option.{Option, some}
use lib.ListN.{get_elem?}
use Rattle.atomic_table.specs.Table.{State, Me, Allows, keeps}
use Rattle.atomic_table.proofs.Lists.{set_again}
use Rattle.lot_rights.specs.declared.views.Access.{Access}
use Rattle.lot_rights.specs.declared.views.Entry.{Entry}
use Rattle.lot_rights.specs.declared.views.PassRight.{PassRight}
use Rattle.lot_rights.specs.declared.views.RootRight.{RootRight}
use Rattle.lot_rights.specs.declared.views.Right.{Right}
use Rattle.lot_rights.specs.declared.views.Right.TheVariants.{Pass, Root}
use Rattle.lot_rights.specs.Seating.{times, Each}
use Rattle.lot_rights.specs.History.{doer, tokens_of, CountsRight, SameMade}
use Rattle.lot_rights.specs.Rule.{number, made_with, Meaning, RightFits, Leads, LeadsOn, Ruled}
use Rattle.lot_rights.specs.Settled.{LinesHaveNoLetter}
use Rattle.lot_rights.specs.Shown.{PassShown, RootShown, right_of_pass, right_of_root, pass_at_table, root_at_table}
use Rattle.lot_rights.specs.Steps.{pass_after, root_after, IsOwed, AllowsPass, AllowsBoth, AllowsRoot, TellsOfTwo, ToldPass, ToldBoth}
use Rattle.lot_rights.specs.Steps.{ToldRoot}
use Rattle.lot_rights.specs.Steps.{ToldTwo, TellsOfRoot, ToldFact}
use Rattle.lot_rights.proofs.Seats.{tick, reseats, times_one, times_set, times_head}
use Rattle.lot_rights.proofs.Histories.{alike_times, taken_more, told_more, records_more}

module _ {S P R : Type 0} (k : Meaning S P R) where
  -- a right of another number than the pass p, or than p and q
  pub not_mine : (p x : PassRight P) (v : List (Right P R))
      → times {R = Right P R} number (2 * x.thread) (Pass p ∷ v) ≡ 0 → x.thread ≢ p.thread
  not_mine p x v none e =
      let one : 1 ≤ times {R = Right P R} number (2 * x.thread) (Pass p ∷ v) =
      subst (λ t. 1 ≤ times {R = Right P R} number (2 * t) (Pass p ∷ v)) (sym e) (times_head number (Pass p) v) in omega arith

  pub not_its : (q y : RootRight R) (v : List (Right P R)) → times {R = Right P R} number (2 * y.key + 1) (Root q ∷ v) ≡ 0 → y.key ≢ q.key
  not_its q y v none e =
      let one : 1 ≤ times {R = Right P R} number (2 * y.key + 1) (Root q ∷ v) =
      subst (λ c. 1 ≤ times {R = Right P R} number (2 * c + 1) (Root q ∷ v)) (sym e)
      (times_head number (Root q) v) in omega arith

module _ {S P R : Type 0} (k : Meaning S P R) (apart : LinesHaveNoLetter k) where
  -- the first right at the seat makes one entry, and the others beside it show the same entries
  pub makes : (s : State S (List (Right P R))) (ru : Ruled k s) (id : ℕ) (r r' : Right P R) (v v' : List (Right P R)) (world : k.World)
      (words : List ℕ) (homes : List (Option S)) (access : Access)
      → get_elem? s.views id ≡ some (r ∷ v) → k.Fits world words homes → number r' ≡ number r
      → made_with r' ≡ made_with r ++ (record { at = length ru.log; access = access }) ∷ []
      → SameMade number made_with v v'
      → ((q : Right P R) → times {R = Right P R} number (number q) (r ∷ v) ≡ 0 → RightFits k ru.world q → RightFits k world q)
      → Each {R = Right P R} number (RightFits k world) (r' ∷ v')
      → doer access ≡ number r → Leads k (k.told_by ru.world) access (k.told_by world)
      → IsOwed k ru.world access world → CountsRight ru.log access
      → Ruled k (record { words = words; homes = homes; views = set s.views id (r' ∷ v') })
  makes s ru id r r' v v' world words homes access at fits same more alike keeps_others here by leads owed counts =
      let entry : Entry = record { at = length ru.log; access = access } in
      let times_are : (i : ℕ) → times {R = Right P R} number i (r' ∷ v') ≡ times {R = Right P R} number i (r ∷ v) =
      (λ i. λ j. cond (same j == i) 1 0 + alike_times number made_with v v' alike i j) in
      record {
        world = world;
        fits = fits;
        seats =
            reseats number (RightFits k ru.world) (RightFits k world) s.views id (r ∷ v)
            (r' ∷ v') ru.seats at (λ i. omega (arith, times_are i)) keeps_others here;
        present = λ i is. omega (arith, ru.present i is, times_set number i s.views id (r ∷ v) (r' ∷ v') at, times_are i);
        log = ru.log ++ entry ∷ [];
        recorded =
            records_more number made_with (LeadsOn k) k.start ru.log s.views (k.told_by ru.world) ru.recorded id entry (k.told_by world)
            r r' v v' at refl (leads, apart world words homes fits) counts by same more alike;
        owed = λ c. omega (arith, taken_more c ru.log entry, told_more c ru.log entry, ru.owed c, owed c);
      }

  module _ (slots id : ℕ) (me : Me S (List (Right P R))) where
    pub steps_pass : (p : PassShown P) (i : ℕ) (f : ℕ → ℕ) (then : ℕ → PassShown P → Type 0) → me ≡ (Pass (right_of_pass p) ∷ [], [])
        → AllowsPass k i f p then → Allows (Ruled k) slots id me i f (ToldPass p.table (right_of_pass p) then)
    steps_pass p i f then one allows s ru deep at small =
        let r : PassRight P = right_of_pass p in
        let at' : get_elem? s.views id ≡ some (Pass r ∷ []) = at ∙ ap (λ (m : Me S (List (Right P R))). some m.0) one in
        let turn = allows ru.world s.words s.homes ru.fits (ru.seats.named id (Pass r ∷ []) at').0 small in
        let p' : PassRight P = right_of_pass (pass_after p turn.own (length ru.log) turn.access) in (
          Pass p' ∷ [],
          keeps,
          tt,
          makes s ru id (Pass r) (Pass p') [] [] turn.world
              (set s.words i (f (slice_index s.words i))) s.homes turn.access at' turn.fits refl refl tt
              (others r turn.world turn.passes turn.roots) (turn.pass, tt) turn.made.0 turn.made.1 turn.owed
              (turn.counted ru.log),
          (p', refl, (λ j. (Pass p' ∷ [], (one j).1)), turn.told (length ru.log)),
        )
      where
        others : (p : PassRight P) (w : k.World) → ((u : ℕ) (x : P) → u ≢ p.thread → k.PassFits ru.world u x → k.PassFits w u x)
            → ((d : ℕ) (y : R) → k.RootFits ru.world d y → k.RootFits w d y)
            → (r : Right P R) → times {R = Right P R} number (number r) (Pass p ∷ []) ≡ 0 → RightFits k ru.world r → RightFits k w r
        others p w passes roots (Pass x) none h = passes x.thread x.own (not_mine k p x [] none) h
        others p w passes roots (Root y) none h = roots y.key y.own h

    pub steps_both : (p : PassShown P) (q : RootShown R) → q.table ≡ p.table → (i : ℕ) (f : ℕ → ℕ)
        (then : ℕ → PassShown P → RootShown R → Type 0)
        → me ≡ (Pass (right_of_pass p) ∷ Root (right_of_root q) ∷ [], []) → AllowsBoth k i f p q then
        → Allows (Ruled k) slots id me i f (ToldBoth p.table (right_of_pass p) (right_of_root q) then)
    steps_both p q table i f then both allows s ru deep at small =
        let at' : get_elem? s.views id ≡ some (Pass (right_of_pass p) ∷ Root (right_of_root q) ∷ []) =
        at ∙ ap (λ (m : Me S (List (Right P R))). some m.0) both in
        let fits = ru.seats.named id (Pass (right_of_pass p) ∷ Root (right_of_root q) ∷ []) at' in
        let turn = allows ru.world s.words s.homes ru.fits fits.0 fits.1.0 small in
        let shown : q.made ≡ tokens_of q.key ru.log =
        (ru.recorded.listed.told.named id (Pass (right_of_pass p) ∷ Root (right_of_root q) ∷ []) at').1.0 in
        let p' : PassRight P = right_of_pass (pass_after p turn.own (length ru.log) turn.access) in
        let q' : RootRight R = right_of_root (record q { own = turn.its }) in (
          Pass p' ∷ Root q' ∷ [],
          keeps,
          tt,
          makes s ru id (Pass (right_of_pass p)) (Pass p') (Root (right_of_root q) ∷ []) (Root q' ∷ []) turn.world
              (set s.words i (f (slice_index s.words i))) s.homes turn.access at' turn.fits refl refl (refl, refl, tt)
              (others turn.world turn.passes turn.roots) (turn.pass, (turn.root, tt)) turn.made.0 turn.made.1 turn.owed
              (turn.counted ru.log (sym shown) (ru.owed q.key ∙ ap (λ es. length es + k.owed_in ru.world q.key) (sym shown))),
          (
            p',
            q',
            refl,
            refl,
            (λ j. (Pass p' ∷ Root q' ∷ [], (both j).1)),
            subst (λ t. then (slice_index s.words i) (pass_at_table p.table p') (root_at_table t q')) table (turn.told (length ru.log)),
          ),
        )
      where
        others : (w : k.World) → ((u : ℕ) (x : P) → u ≢ p.thread → k.PassFits ru.world u x → k.PassFits w u x)
            → ((d : ℕ) (y : R) → d ≢ q.key → k.RootFits ru.world d y → k.RootFits w d y)
            → (r : Right P R) → times {R = Right P R} number (number r) (Pass (right_of_pass p) ∷ Root (right_of_root q) ∷ []) ≡ 0
            → RightFits k ru.world r → RightFits k w r
        others w passes roots (Pass x) none h =
            passes x.thread x.own (not_mine k (right_of_pass p) x (Root (right_of_root q) ∷ []) none) h
        others w passes roots (Root y) none h = roots y.key y.own (not_its k (right_of_root q) y [] (omega (arith, none))) h

    pub steps_root : (q : RootShown R) (i : ℕ) (f : ℕ → ℕ) (then : ℕ → RootShown R → Type 0) → me ≡ (Root (right_of_root q) ∷ [], [])
        → AllowsRoot k i f q then → Allows (Ruled k) slots id me i f (ToldRoot q.table (right_of_root q) then)
    steps_root q i f then one allows s ru deep at small =
        let r : RootRight R = right_of_root q in
        let at' : get_elem? s.views id ≡ some (Root r ∷ []) = at ∙ ap (λ (m : Me S (List (Right P R))). some m.0) one in
        let turn = allows ru.world s.words s.homes ru.fits (ru.seats.named id (Root r ∷ []) at').0 small in
        let q' : RootRight R = right_of_root (root_after q turn.its (length ru.log) turn.access) in (
          Root q' ∷ [],
          keeps,
          tt,
          makes s ru id (Root r) (Root q') [] [] turn.world
              (set s.words i (f (slice_index s.words i))) s.homes turn.access at' turn.fits refl refl tt
              (others turn.world turn.passes turn.roots) (turn.root, tt) turn.made.0 turn.made.1 turn.owed
              (turn.counted ru.log),
          (q', refl, (λ j. (Root q' ∷ [], (one j).1)), turn.told (length ru.log)),
        )
      where
        others : (w : k.World) → ((u : ℕ) (x : P) → k.PassFits ru.world u x → k.PassFits w u x)
            → ((d : ℕ) (y : R) → d ≢ q.key → k.RootFits ru.world d y → k.RootFits w d y)
            → (r : Right P R) → times {R = Right P R} number (number r) (Root (right_of_root q) ∷ []) ≡ 0
            → RightFits k ru.world r → RightFits k w r
        others w passes roots (Pass x) none h = passes x.thread x.own h
        others w passes roots (Root y) none h = roots y.key y.own (not_its k (right_of_root q) y [] none) h

    -- a load at which nothing changes
    same_words : (s : State S (List (Right P R))) → Ruled k s → (i : ℕ) → get_elem? s.views id ≡ some me.0
        → Ruled k (record { words = set s.words i (slice_index s.words i); homes = s.homes; views = set s.views id me.0 })
    same_words s ru i at =
        let words : s.words ≡ set s.words i (slice_index s.words i) = sym (set-get_or s.words i 0) in
        let views : s.views ≡ set s.views id me.0 = sym (set_again s.views id me.0 at) in
        subst (Ruled k) (λ j. record { words = words j; homes = s.homes; views = views j }) ru

    pub steps_two : (p q : PassShown P) (i : ℕ) (fact : Type 0) → me ≡ (Pass (right_of_pass p) ∷ Pass (right_of_pass q) ∷ [], [])
        → TellsOfTwo k p q fact
        → Allows (Ruled k) slots id me i (λ n. n) (λ _. ToldTwo (right_of_pass p) (right_of_pass q) fact me)
    steps_two p q i fact two tells s ru deep at small =
        let at' : get_elem? s.views id ≡ some (Pass (right_of_pass p) ∷ Pass (right_of_pass q) ∷ []) =
        at ∙ ap (λ (m : Me S (List (Right P R))). some m.0) two in
        let fits = ru.seats.named id (Pass (right_of_pass p) ∷ Pass (right_of_pass q) ∷ []) at' in
        let apart : p.thread ≢ q.thread = (λ e.
        let first : tick (2 * p.thread == 2 * p.thread) ≡ 1 = ap tick (eq-eqb (2 * p.thread) (2 * p.thread) refl) in
        let second : tick (2 * q.thread == 2 * p.thread) ≡ 1 = ap tick (eq-eqb (2 * q.thread) (2 * p.thread) (ap (λ t. 2 * t) (sym e))) in
        omega (
          arith,
          first,
          second,
          times_one number (2 * p.thread) s.views id (Pass (right_of_pass p) ∷ Pass (right_of_pass q) ∷ []) at',
          ru.seats.once (2 * p.thread),
        )) in
        (me.0, keeps, tt, same_words s ru i at, (refl, apart, tells ru.world s.words s.homes ru.fits fits.0 fits.1.0 apart))

    pub steps_fact : (q : RootShown R) (i : ℕ) (fact : Type 0) → me ≡ (Root (right_of_root q) ∷ [], [])
        → TellsOfRoot k q fact → Allows (Ruled k) slots id me i (λ n. n) (λ _. ToldFact fact me)
    steps_fact q i fact one tells s ru deep at small =
        let at' : get_elem? s.views id ≡ some (Root (right_of_root q) ∷ []) = at ∙ ap (λ (m : Me S (List (Right P R))). some m.0) one in (
          me.0,
          keeps,
          tt,
          same_words s ru i at,
          (
            refl,
            tells
                (record {
                  state = s;
                  here = ru;
                  root = (ru.seats.named id (Root (right_of_root q) ∷ []) at').0;
                  entries = (ru.recorded.listed.told.named id (Root (right_of_root q) ∷ []) at').0;
                }),
          ),
        )
