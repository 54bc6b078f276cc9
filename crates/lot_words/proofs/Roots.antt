-- The turns of the calls that take a lock's root: queueing on the lock, passing it on, and posting the letter that is
-- owed.
use Rattle.std.proofs.Common.{◌≡◌, ◌≢◌, ℕ, zero, suc, ◌+◌, ◌*◌, ◌<◌, ◌⊎◌, ◌&&◌, ◌==◌, Bool, true, false, List, [], ◌∷◌, ◌++◌, get_or, set}
use Rattle.std.proofs.Common.{refl, sym, ap, subst, ◌∙◌, inl, inr, arith, Option, Some, None, is_some}
use mathlib.Core.Option as maybe
use Rattle.lot_core.specs.Model.{put}
use Rattle.lot_core.specs.Steps.{SaysMore, first}
use Rattle.lot_core.specs.Parts.{LockStep}
use Rattle.lot_events.specs.declared.events.Event.TheVariants.{Park, Pass}
use Rattle.lot_events.specs.declared.events.Seen.TheVariants.{Bool as Saw, Sleeper}
use Rattle.lot_core.proofs.Put.{put_same, put_other}
use Rattle.lot_rights.specs.declared.views.Access.{Access}
use Rattle.lot_rights.specs.declared.views.Access.TheVariants.{Makes, Posts}
use Rattle.lot_rights.specs.Shown.{PassShown, RootShown}
use Rattle.lot_rights.specs.Layout.{word_at, letter_at}
use Rattle.lot_rights.specs.World.{Spot, queued, owed, lying, letter_of, letters_of, number_of, owed_at, RootIs}
use Rattle.lot_rights.specs.Steps.{Notes, RootNotes, pass_after, IsMade, IsOwed, CountsNothing, BothTurn, AllowsBoth, AllowsRoot}
use Rattle.lot_rights.proofs.Owing.{no_more, owed_more, owed_less, owed_same}
use Rattle.lot_rights.proofs.Staying.{both_stay}
use Rattle.lot_rights.proofs.Worlds.{same_letters, one_letter, letter_written}
use Rattle.lot_words.specs.declared.views.LockPassView.{LockPassView}
use Rattle.lot_words.specs.declared.views.LockRootView.{LockRootView}
use Rattle.lot_words.specs.declared.views.Size.{Size}
use Rattle.lot_words.specs.CallersRule.{CallersRule}
use Rattle.lot_words.specs.World.{LockWord, LockWorld, bits_of, word_of, Holds, HoldsParked}
use Rattle.lot_words.specs.Values.{IsIn, IsLawful}
use Rattle.lot_words.specs.Rule.{sizes_of, wants_of, part_of, Fits, meaning}
use Rattle.lot_words.specs.Calls.{sleeping, letting_go, parked_pass, parked_root, token_of, passed_root, paid_root, word_left}
use Rattle.lot_words.proofs.Machine.{found_held}
use Rattle.lot_words.proofs.Holding.{is_awake, parks_kept, frees_kept}
use Rattle.lot_words.proofs.Letters.{first_waits, passes_kept, debtor_waits, debtor_fits, posts_kept}
use Rattle.lot_words.proofs.Rows.{same_post, row_park, row_park_not, row_pass_none, row_pass_plain, row_pass_fair}
use Rattle.lot_words.proofs.Turns.{Parks, words_after, words_stay, left_lawful, same_in}
use Rattle.lot_words.proofs.Valuing.{same_values}

-- ---- what each step tells
abbrev pub Passes : {V : Type 0} → PassShown (LockPassView V) → RootShown LockRootView → List ℕ → Bool → Bool → PassShown (LockPassView V)
    → RootShown LockRootView → Type 0
Passes {V} p q line fair more p' q' =
    ((y : V) → IsIn p.own q.key y → Notes p (letting_go p.own q.key y) (Makes (Pass p.thread q.key fair more) (Sleeper (first line))) p')
    × (q' ≡ record q { own = passed_root q.own fair line })

abbrev pub Pays : RootShown LockRootView → ℕ → ℕ → RootShown LockRootView → Type 0
Pays q u k q' = RootNotes q (paid_root q.own) (Posts q.key u k) q'

more_left : (u : ℕ) (us : List ℕ) (more : Bool) → SaysMore (u ∷ us) more → us ≢ [] → more ≡ true
more_left u [] more says some = absurd (some refl)
more_left u (v ∷ us) more says some = says (omega arith)

left_word : (more : Bool) (u : ℕ) → word_left (Some u) more ≡ bits_of false more
left_word true u = refl
left_word false u = refl

-- what a thread wants is the same, whether its letter is owed or lies
lies_wants : (l k : ℕ) (a : Option ℕ) → wants_of (lying l k) a ≡ wants_of (owed l k) a
lies_wants l zero a = refl
lies_wants l (suc k) a = refl

module _ {V Part : Type 0} (rule : CallersRule V Part) (size : Size) (xs : List V) where
  module _ (p : PassShown (LockPassView V)) (q : RootShown LockRootView) (w : LockWorld V) (ws : List ℕ)
      (hs : List (maybe.Option (Option V))) (ok : Fits rule size w ws hs)
      (fit : (p.thread < size.threads) × (w.pass p.thread ≡ p.own)) (root : RootIs (sizes_of size) w q.key q.own) where
    abbrev t : ℕ
    t = p.thread

    abbrev l : ℕ
    l = q.key

    here : l < size.locks
    here = omega (arith, root.0.1)

    aim_of : (w.pass t).aim ≡ p.own.aim
    aim_of = ap (λ (z : LockPassView V). z.aim) fit.1

    found : get_or ws (word_at l) 0 ≡ word_of (w.word l)
    found = ok.words.words l root.0

    -- the world changes in the pass, notices, words and the root
    turn_both : (x : ℕ) (then : PassShown (LockPassView V) → RootShown LockRootView → Type 0) (f : LockPassView V → LockPassView V)
        (g : LockRootView → LockRootView) (spots : ℕ → Spot)
        (word : ℕ → LockWord)
        → Fits rule size (record { pass = put w.pass t (f (w.pass t)); spot = spots; word = word; root = put w.root l (g (w.root l)) })
        (set ws (word_at l) x) hs → (a : Access)
        → IsMade (meaning rule size xs) (2 * t) w a
        (record { pass = put w.pass t (f (w.pass t)); spot = spots; word = word; root = put w.root l (g (w.root l)) })
        → IsOwed (meaning rule size xs) w a
        (record { pass = put w.pass t (f (w.pass t)); spot = spots; word = word; root = put w.root l (g (w.root l)) })
        → CountsNothing a
        → ((n : ℕ) → then (pass_after p (f p.own) n a) (record q { own = g q.own }))
        → BothTurn (meaning rule size xs) (word_at l) x p q then w ws hs
    turn_both x then f g spots word fits a made due none told = record {
      own = f p.own;
      its = g q.own;
      access = a;
      world = record { pass = put w.pass t (f (w.pass t)); spot = spots; word = word; root = put w.root l (g (w.root l)) };
      fits = fits;
      pass = (fit.0, put_same w.pass t (f (w.pass t)) ∙ ap f fit.1);
      root = (root.0, put_same w.root l (g (w.root l)) ∙ ap g root.1);
      passes = λ u y ne h. (h.0, put_other w.pass t (f (w.pass t)) u ne ∙ h.1);
      roots = λ d y ne h. (h.0, put_other w.root l (g (w.root l)) d ne ∙ h.1);
      made = made;
      owed = due;
      counted = λ log same all. none log;
      told = told;
    }

    -- ---- parking
    -- the word says that the lock is not both held and parked
    park_misses : p.own.asleep ≡ false → p.own.aim ≡ Some l → (x : ℕ) → x ≡ get_or ws (word_at l) 0
        → (is_some (w.word l).owner && (w.word l).parked) ≡ false → (x == 3) ≡ false
        → BothTurn (meaning rule size xs) (word_at l) x p q (Parks p q x) w ws hs
    park_misses up aim x is not_both three =
        let up' : (w.pass t).asleep ≡ false = ap (λ (z : LockPassView V). z.asleep) fit.1 ∙ up in
        both_stay (meaning rule size xs) (word_at l) x w ws hs ok is p fit (Makes (Park t l) (Saw false))
        (refl, (row_park_not w size.threads size.locks ok.kept t fit.0 up' l here (aim_of ∙ aim) not_both, refl)) (λ c. refl) q
        (λ log same all. tt)
        (Parks p q x) root
        (λ k. subst (λ z. Notes p (parked_pass p.own z) (Makes (Park t l) (Saw z)) (pass_after p p.own k (Makes (Park t l) (Saw false)))
        × (record q { own = q.own } ≡ record q { own = parked_root q.own t z })) (sym three) ((k, refl), refl))

    park_turn : p.own.asleep ≡ false → p.own.aim ≡ Some l → (h b : Bool) → is_some (w.word l).owner ≡ h → (w.word l).parked ≡ b
        → BothTurn (meaning rule size xs) (word_at l) (bits_of h b) p q (Parks p q (bits_of h b)) w ws hs
    park_turn up aim true true h b =
        let up' : (w.pass t).asleep ≡ false = ap (λ (z : LockPassView V). z.asleep) fit.1 ∙ up in
        let held : (w.word l).owner ≢ None = (λ e. let f : true ≡ false = sym h ∙ ap is_some e in cc) in
        let awake_now = is_awake size.threads size.locks w ok.kept t fit.0 up' in
        let spots : ℕ → Spot = put w.spot t (queued l) in
        let letters : letters_of spots ≡ letters_of w.spot = same_letters w.spot t (queued l) (ap letter_of (sym awake_now)) in
        turn_both 3 (Parks p q 3) sleeping (λ z. record z { line = z.line ++ t ∷ [] }) spots w.word
        (record {
          words =
              words_stay size w (put w.pass t (sleeping (w.pass t))) spots
              (put w.root l (record (w.root l) { line = (w.root l).line ++ t ∷ [] })) ws ok.words letters (word_at l) 3
              (sym (found ∙ (λ i. bits_of (h i) (b i))));
          kept = parks_kept size.threads size.locks w ok.kept t fit.0 up' l here held b (aim_of ∙ aim);
          lawful =
              same_values rule size.threads size.locks w.pass hs ok.lawful t (sleeping (w.pass t))
              (λ k. record { down = λ h. h; up = λ h. h; places = refl; seen = refl }) (refl, refl);
        })
        (Makes (Park t l) (Saw true)) (refl, (row_park w size.threads size.locks ok.kept t fit.0 up' l here held (aim_of ∙ aim) b, letters))
        (owed_same (sizes_of size) (λ r. number_of r.owes) w.root l (record (w.root l) { line = (w.root l).line ++ t ∷ [] }) refl)
        (λ log. tt)
        (λ k. ((k, refl), refl))
    park_turn up aim false false h b = park_misses up aim 0 (sym (found ∙ (λ i. bits_of (h i) (b i)))) (λ i. h i && b i) refl
    park_turn up aim false true h b = park_misses up aim 2 (sym (found ∙ (λ i. bits_of (h i) (b i)))) (λ i. h i && b i) refl
    park_turn up aim true false h b = park_misses up aim 1 (sym (found ∙ (λ i. bits_of (h i) (b i)))) (λ i. h i && b i) refl

    -- ---- passing on
    module _ (up : p.own.asleep ≡ false) (aim : p.own.aim ≡ None) (holds : HoldsParked p.own l) (y : V)
        (lies : IsIn p.own l y) (paid : q.own.owes ≡ None) where
      up' : (w.pass t).asleep ≡ false
      up' = ap (λ (z : LockPassView V). z.asleep) fit.1 ∙ up

      found_it : HoldsParked (w.pass t) l
      found_it = subst (λ z. HoldsParked z l) (sym fit.1) holds

      has : Holds (w.pass t) l
      has = found_held _ found_it

      parked : (w.word l).parked ≡ true
      parked = (ok.kept.threads t).found l found_it

      own_is : (w.word l).owner ≡ Some t
      own_is = (ok.kept.threads t).holds l has

      lawful' : IsLawful rule size.threads size.locks (put w.pass t (letting_go (w.pass t) l y)) hs
      lawful' = left_lawful rule size xs p l here up w ws hs ok fit (found_held _ holds) aim y lies

      owes_none : (w.root l).owes ≡ None
      owes_none = ap (λ (z : LockRootView). z.owes) root.1 ∙ paid

      says_now : (line : List ℕ) → q.own.line ≡ line → (w.root l).line ≡ line
      says_now line is = ap (λ (z : LockRootView). z.line) root.1 ∙ is

      left_told : (line : List ℕ) (fair more : Bool) → q.own.line ≡ line → (k : ℕ)
          → Passes p q line fair more (pass_after p (letting_go p.own l y) k (Makes (Pass t l fair more) (Sleeper (first line))))
          (record q { own = passed_root q.own fair line })
      left_told line fair more is k = (
        (λ z lies'. (
          k,
          ap (λ v. pass_after p (letting_go p.own l v) k (Makes (Pass t l fair more) (Sleeper (first line))))
              (same_in p.own l y z lies lies'),
        )),
        refl,
      )

      -- the first of the line is owed a token, which says whether it is the owner: the word stands for z then
      first_turn : (fair more : Bool) (u : ℕ) (us : List ℕ) → q.own.line ≡ u ∷ us → (z : LockWord)
          → ((token_of fair ≡ 0) × (z.owner ≡ None)) ⊎ ((token_of fair ≡ 1) × (z.owner ≡ Some u)) → (us ≢ [] → z.parked ≡ true)
          → LockStep size.threads size.locks (part_of w) (Pass t l fair more) (Sleeper (Some u)) (part_of (record {
            pass = put w.pass t (letting_go (w.pass t) l y);
            spot = put w.spot u (owed l (token_of fair));
            word = put w.word l z;
            root = put w.root l (record (w.root l) { line = us; owes = Some (u, token_of fair) });
          }))
          → (x : ℕ) → x ≡ word_of z
          → BothTurn (meaning rule size xs) (word_at l) x p q (Passes p q (u ∷ us) fair more) w ws hs
      first_turn fair more u us line z token others row x is =
          let k : ℕ = token_of fair in
          let line' = says_now (u ∷ us) line in
          let spots : ℕ → Spot = put w.spot u (owed l k) in
          let waits = first_waits size.threads size.locks w ok.kept t l fit.0 here up' has u us line' owes_none in
          let letters : letters_of spots ≡ letters_of w.spot = same_letters w.spot u (owed l k) (ap letter_of (sym waits)) in
          turn_both x (Passes p q (u ∷ us) fair more) (λ z. letting_go z l y)
          (λ r. record r { line = us; owes = Some (u, k) }) spots (put w.word l z)
          (record {
            words =
                words_after size w (put w.pass t (letting_go (w.pass t) l y)) spots
                (put w.root l (record (w.root l) { line = us; owes = Some (u, k) })) ws ok.words letters l here z x is;
            kept =
                passes_kept size.threads size.locks w ok.kept t l fit.0 here up' has u us line' owes_none y k z.owner z.parked token others;
            lawful = lawful';
          })
          (Makes (Pass t l fair more) (Sleeper (Some u))) (refl, (row, letters))
          (owed_more (sizes_of size) (λ r. number_of r.owes) w.root l (record (w.root l) { line = us; owes = Some (u, k) }) 1 root.0
          (ap (λ o. 1 + number_of o) owes_none)) (λ log. tt) (left_told (u ∷ us) fair more line)

      -- the lock is let go, by a store
      store_turn : (more : Bool) (line : List ℕ) → q.own.line ≡ line → SaysMore line more → (x : ℕ) → x ≡ word_left (first line) more
          → BothTurn (meaning rule size xs) (word_at l) x p q (Passes p q line false more) w ws hs
      store_turn more [] line says x is =
          let z : LockWord = record { owner = None; parked = false } in record {
            own = letting_go p.own l y;
            its = q.own;
            access = Makes (Pass t l false more) (Sleeper None);
            world = record w { pass = put w.pass t (letting_go (w.pass t) l y); word = put w.word l z };
            fits = record {
              words = words_after size w (put w.pass t (letting_go (w.pass t) l y)) w.spot w.root ws ok.words refl l here z x is;
              kept = frees_kept size.threads size.locks w ok.kept t fit.0 up' l here has y false (says_now [] line);
              lawful = lawful';
            };
            pass = (fit.0, put_same w.pass t (letting_go (w.pass t) l y) ∙ ap (λ z. letting_go z l y) fit.1);
            root = root;
            passes = λ u z ne h. (h.0, put_other w.pass t (letting_go (w.pass t) l y) u ne ∙ h.1);
            roots = λ d z ne h. h;
            made = (
              refl,
              (
                row_pass_none w size.threads size.locks ok.kept t fit.0 up' l here has (aim_of ∙ aim) y more parked (says_now [] line),
                refl,
              ),
            );
            owed = λ c. ap (λ n. n + owed_at (sizes_of size) (λ r. number_of r.owes) w.root c) (no_more (c == l));
            counted = λ log same all. tt;
            told = left_told [] false more line;
          }
      store_turn more (u ∷ us) line says x is =
          let line' = says_now (u ∷ us) line in
          first_turn false more u us line (record { owner = None; parked = more }) (inl (refl, refl)) (more_left u us more says)
          (row_pass_plain w size.threads size.locks ok.kept t fit.0 up' l here has (aim_of ∙ aim) y u us line' parked owes_none more
          (subst (λ z. SaysMore z more) (sym line') says)) x (is ∙ left_word more u)

      -- the lock is handed to the first, by a load
      load_turn : (more : Bool) (u : ℕ) (us : List ℕ) → q.own.line ≡ u ∷ us
          → BothTurn (meaning rule size xs) (word_at l) (get_or ws (word_at l) 0) p q
          (Passes p q (u ∷ us) true more) w ws hs
      load_turn more u us line =
          first_turn true more u us line (record { owner = Some u; parked = (w.word l).parked }) (inr (refl, refl)) (λ _. parked)
          (row_pass_fair w size.threads size.locks ok.kept t fit.0 up' l here has (aim_of ∙ aim) y u us (says_now (u ∷ us) line) parked
          owes_none more) (get_or ws (word_at l) 0) (found ∙ ap (λ o. bits_of (is_some o) (w.word l).parked) own_is)

  pub parks : (p : PassShown (LockPassView V)) (q : RootShown LockRootView) → p.own.asleep ≡ false → p.own.aim ≡ Some q.key
      → AllowsBoth (meaning rule size xs) (word_at q.key) (λ n. n) p q (Parks p q)
  parks p q up aim w ws hs ok fit root small =
      let n : bits_of (is_some (w.word q.key).owner) (w.word q.key).parked ≡ get_or ws (word_at q.key) 0 =
      sym (ok.words.words q.key root.0) in
      subst (λ n. BothTurn (meaning rule size xs) (word_at q.key) n p q (Parks p q n) w ws hs) n
      (park_turn p q w ws hs ok fit root up aim (is_some (w.word q.key).owner) (w.word q.key).parked refl refl)

  module _ (p : PassShown (LockPassView V)) (q : RootShown LockRootView) (up : p.own.asleep ≡ false) (aim : p.own.aim ≡ None)
      (holds : HoldsParked p.own q.key) (y : V)
      (lies : IsIn p.own q.key y) (paid : q.own.owes ≡ None) (more : Bool) where
    pub stores : SaysMore q.own.line more → (x : ℕ) → x ≡ word_left (first q.own.line) more
        → AllowsBoth (meaning rule size xs) (word_at q.key) (λ _. x) p q (λ _. Passes p q q.own.line false more)
    stores says x is w ws hs ok fit root small = store_turn p q w ws hs ok fit root up aim holds y lies paid more q.own.line refl says x is

    pub loads : (first q.own.line ≡ None → ⊥)
        → AllowsBoth (meaning rule size xs) (word_at q.key) (λ n. n) p q (λ _. Passes p q q.own.line true more)
    loads some w ws hs ok fit root small = by_first q.own.line refl some
      where
        by_first : (line : List ℕ) → q.own.line ≡ line → (first line ≡ None → ⊥)
            → BothTurn (meaning rule size xs) (word_at q.key) (get_or ws (word_at q.key) 0) p q
            (Passes p q line true more) w ws hs
        by_first [] is some = absurd (some refl)
        by_first (u ∷ us) is some = load_turn p q w ws hs ok fit root up aim holds y lies paid more u us is

  -- ---- posting
  pub posts : (q : RootShown LockRootView) (u k : ℕ) → q.own.owes ≡ Some (u, k)
      → AllowsRoot (meaning rule size xs) (letter_at u) (λ _. k + 1) q (λ _. Pays q u k)
  posts q u k debt w ws hs ok root small =
      let l : ℕ = q.key in
      let debt' : (w.root l).owes ≡ Some (u, k) = ap (λ (z : LockRootView). z.owes) root.1 ∙ debt in
      let waits = debtor_waits size.threads size.locks w ok.kept u k l debt' in
      let q1 : LockRootView = paid_root (w.root l) in
      let spots : ℕ → Spot = put w.spot u (lying l k) in
      let w' : LockWorld V = record w { spot = spots; root = put w.root l q1 } in
      record {
        its = paid_root q.own;
        access = Posts l u k;
        world = w';
        fits = record {
          words =
              letter_written word_of (sizes_of size) w w' ws ok.words u (k + 1)
              (debtor_fits size.threads size.locks w ok.kept u k l debt').0.0 (sym (ap letter_of (put_same w.spot u (lying l k))))
              (λ v ne. ap letter_of (put_other w.spot u (lying l k) v ne)) (λ d. refl);
          kept = posts_kept size.threads size.locks w ok.kept u k l debt';
          lawful = ok.lawful;
        };
        root = (root.0, put_same w.root l q1 ∙ ap paid_root root.1);
        passes = λ v y h. h;
        roots = λ d y ne h. (h.0, put_other w.root l q1 d ne ∙ h.1);
        made = (
          refl,
          (
            ap letter_of waits,
            λ i.
                record {
                  part = same_post w u (lying l k) l q1
                      (lies_wants l k (w.pass u).aim ∙ ap (λ z. wants_of z (w.pass u).aim) (sym waits)) refl i;
                  letters = one_letter w.spot u (lying l k) i;
                },
          ),
        );
        owed = owed_less (sizes_of size) (λ r. number_of r.owes) w.root l q1 root.0 (sym (ap number_of debt'));
        counted = λ log. tt;
        told = λ n. (n, refl);
      }
