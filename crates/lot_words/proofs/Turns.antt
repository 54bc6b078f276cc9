-- The turns of each call: whatever world the words stand for, its step leads to one that they stand for then.
use Rattle.std.proofs.Common.{◌≡◌, ◌≢◌, ℕ, ◌*◌, ◌<◌, ◌==◌, Bool, true, false, List, [], length, get_or, set, bit_and}
use Rattle.std.proofs.Common.{bit_or, refl, sym, ap, subst, ◌∙◌, ⊎_elim, arith}
use Rattle.std.proofs.Common.{MatchBool, Option, None, Some, is_some}
use mathlib.Core.Option as maybe
use mathlib.Core.Option.{some-injective}
use prog.Atomic.{either}
use Rattle.lot_core.specs.Model.{put}
use Rattle.lot_events.specs.declared.events.Event.TheVariants.{Try, Take, Mark, Park, Free}
use Rattle.lot_events.specs.declared.events.Seen.TheVariants.{Bool as Saw, Done}
use Rattle.lot_core.proofs.Put.{by_line, put_same, put_other}
use Rattle.lot_rights.specs.declared.views.Access.{Access}
use Rattle.lot_rights.specs.declared.views.Access.TheVariants.{Makes, Finds}
use Rattle.lot_rights.specs.Shown.{PassShown, RootShown}
use Rattle.lot_rights.specs.Layout.{word_at}
use Rattle.lot_rights.specs.World.{Spot, letters_of, WordsFit}
use Rattle.lot_rights.specs.Steps.{Notes, pass_after, IsMade, IsOwed, CountsNothing, PassTurn, AllowsPass}
use Rattle.lot_rights.proofs.Puts.{by_test}
use Rattle.lot_rights.proofs.Staying.{same_words, pass_stays}
use Rattle.lot_rights.proofs.Worlds.{word_written}
use Rattle.lot_words.specs.declared.views.Hold.TheVariants.{FoundParked}
use Rattle.lot_words.specs.declared.views.LockPassView.{LockPassView}
use Rattle.lot_words.specs.declared.views.LockRootView.{LockRootView}
use Rattle.lot_words.specs.declared.views.Place.TheVariants.{InSlot}
use Rattle.lot_words.specs.declared.views.Size.{Size}
use Rattle.lot_words.specs.CallersRule.{CallersRule}
use Rattle.lot_words.specs.World.{LockWord, LockWorld, bits_of, word_of, IsHeld, Holds}
use Rattle.lot_words.specs.Values.{IsIn, FoundOk, IsLawful}
use Rattle.lot_words.specs.Rule.{sizes_of, Fits, meaning}
use Rattle.lot_words.specs.Calls.{Aims, owning, wanting, letting_go, finding_parked, parked_pass, parked_root, GetsBy}
use Rattle.lot_words.proofs.Machine.{no_aim, set_elim}
use Rattle.lot_words.proofs.Holding.{lock_near, gets_kept, wants_kept, marks_kept, frees_kept, finds_kept}
use Rattle.lot_words.proofs.Owners.{owned, unowned, owner_cases}
use Rattle.lot_words.proofs.Rows.{row_take_free, row_take_held, row_try_free, row_try_held, row_mark, row_free, row_free_parked}
use Rattle.lot_words.proofs.Valuing.{SameOf, same_values, finds_value, gets_value, leaves_value}

-- ---- words
or_one : (b : Bool) → bit_or (bits_of false b) 1 ≡ bits_of true b
or_one false = refl
or_one true = refl

or_held : (b : Bool) → bit_or (bits_of true b) 1 ≡ bits_of true b
or_held false = refl
or_held true = refl

even_unheld : (b : Bool) → (bit_and (bits_of false b) 1 == 0) ≡ true
even_unheld false = refl
even_unheld true = refl

odd_held : (b : Bool) → (bit_and (bits_of true b) 1 == 0) ≡ false
odd_held false = refl
odd_held true = refl

pub match_true : (b : Bool) (A B : Type 0) → b ≡ true → A → MatchBool b A B
match_true b A B e a = subst (λ c. MatchBool c A B) (sym e) a

pub match_false : (b : Bool) (A B : Type 0) → b ≡ false → B → MatchBool b A B
match_false b A B e x = subst (λ c. MatchBool c A B) (sym e) x

pub where_not : (A B : Type 0) (n m : ℕ) → n ≢ m → MatchBool (n == m) A B → B
where_not A B n m other = by_test (λ b. MatchBool b A B → B) n m (λ is. absurd (other is)) (λ _ told. told)

-- the value that lies in a slot is one
pub same_in : {V : Type 0} (p : LockPassView V) (l : ℕ) (x y : V) → IsIn p l x → IsIn p l y → x ≡ y
same_in p l x y a b = let e : InSlot x ≡ InSlot y = some-injective (InSlot x) (InSlot y) (sym a ∙ b) in cc

module _ {V Part : Type 0} (rule : CallersRule V Part) where
  -- ---- what each step tells
  abbrev pub Takes : PassShown (LockPassView V) → ℕ → ℕ → PassShown (LockPassView V) → Type 0
  Takes p l n q =
      MatchBool (bit_and n 1 == 0) (GetsBy rule p l (Makes (Take p.thread l) (Saw true)) q)
      (Notes p (wanting p.own l) (Makes (Take p.thread l) (Saw false)) q)

  abbrev pub Tries : PassShown (LockPassView V) → ℕ → ℕ → PassShown (LockPassView V) → Type 0
  Tries p l n q =
      MatchBool (bit_and n 1 == 0) (GetsBy rule p l (Makes (Try p.thread l) (Saw true)) q)
      (Notes p p.own (Makes (Try p.thread l) (Saw false)) q)

  abbrev pub TakesFree : PassShown (LockPassView V) → ℕ → ℕ → PassShown (LockPassView V) → Type 0
  TakesFree p l n q =
      MatchBool (n == 0) (GetsBy rule p l (Makes (Take p.thread l) (Saw true)) q) (Notes p p.own (Finds p.thread l n) q)

  pub got_free : (p : PassShown (LockPassView V)) (l n : ℕ) (q : PassShown (LockPassView V)) → n ≡ 0 → TakesFree p l n q
      → GetsBy rule p l (Makes (Take p.thread l) (Saw true)) q
  got_free p l n q free told = subst (λ m. TakesFree p l m q) free told

  pub missed_free : (p : PassShown (LockPassView V)) (l n : ℕ) (q : PassShown (LockPassView V)) → n ≢ 0 → TakesFree p l n q
      → Notes p p.own (Finds p.thread l n) q
  missed_free p l n q other told =
      where_not (GetsBy rule p l (Makes (Take p.thread l) (Saw true)) q) (Notes p p.own (Finds p.thread l n) q) n 0 other told

abbrev pub Marks : {V : Type 0} → PassShown (LockPassView V) → ℕ → ℕ → PassShown (LockPassView V) → Type 0
Marks p l n q =
    MatchBool (n == 1) (Notes p p.own (Makes (Mark p.thread l) Done) q) ((x : ℕ) × (x ≢ 1) × Notes p p.own (Finds p.thread l x) q)

abbrev pub Frees : {V : Type 0} → PassShown (LockPassView V) → ℕ → ℕ → PassShown (LockPassView V) → Type 0
Frees {V} p l n q = MatchBool (n == 1) ((y : V) → IsIn p.own l y → Notes p (letting_go p.own l y) (Makes (Free p.thread l) (Saw true)) q)
    (Notes p (finding_parked p.own l) (Makes (Free p.thread l) (Saw false)) q)

abbrev pub Parks : {V : Type 0} → PassShown (LockPassView V) → RootShown LockRootView → ℕ → PassShown (LockPassView V)
    → RootShown LockRootView → Type 0
Parks p q n p' q' =
    Notes p (parked_pass p.own (n == 3)) (Makes (Park p.thread q.key) (Saw (n == 3))) p'
    × (q' ≡ record q { own = parked_root q.own p.thread (n == 3) })

-- ---- words and letters after a step
module _ {V : Type 0} (size : Size) (w : LockWorld V) (pass : ℕ → LockPassView V) (spots : ℕ → Spot) (root : ℕ → LockRootView) (ws : List ℕ)
    (ok : WordsFit word_of (sizes_of size) w ws)
    (same : letters_of spots ≡ letters_of w.spot) where
  pub words_after : (l : ℕ) → l < size.locks → (y : LockWord) (x : ℕ) → x ≡ word_of y → WordsFit word_of (sizes_of size)
      (record { pass = pass; spot = spots; word = put w.word l y; root = root }) (set ws (word_at l) x)
  words_after l here y x is =
      word_written word_of (sizes_of size) w (record { pass = pass; spot = spots; word = put w.word l y; root = root }) ws ok l x
      (omega arith, omega arith)
      (is ∙ sym (ap word_of (put_same w.word l y))) (λ d ne. ap word_of (put_other w.word l y d ne)) same

  pub words_stay : (i x : ℕ) → x ≡ get_or ws i 0
      → WordsFit word_of (sizes_of size) (record { pass = pass; spot = spots; word = w.word; root = root }) (set ws i x)
  words_stay i x is =
      subst (WordsFit word_of (sizes_of size) (record { pass = pass; spot = spots; word = w.word; root = root })) (same_words ws i x is)
      (record { wide = ok.wide; words = ok.words; letters = λ t near. ok.letters t near ∙ sym (ap (λ f. f t) same) })

module _ {V Part : Type 0} (rule : CallersRule V Part) (size : Size) (xs : List V) where
  -- ---- a pass's turn, where the world changes in the pass and in words
  module _ (i x : ℕ) (p : PassShown (LockPassView V)) (then : PassShown (LockPassView V) → Type 0) (w : LockWorld V) (ws : List ℕ)
      (hs : List (maybe.Option (Option V)))
      (fit : (p.thread < size.threads) × (w.pass p.thread ≡ p.own)) where
    pub turn_at : (f : LockPassView V → LockPassView V) (word : ℕ → LockWord)
        → Fits rule size (record w { pass = put w.pass p.thread (f (w.pass p.thread)); word = word })
        (set ws i x) hs → (a : Access)
        → IsMade (meaning rule size xs) (2 * p.thread) w a (record w { pass = put w.pass p.thread (f (w.pass p.thread)); word = word })
        → IsOwed (meaning rule size xs) w a (record w { pass = put w.pass p.thread (f (w.pass p.thread)); word = word })
        → CountsNothing a
        → ((n : ℕ) → then (pass_after p (f p.own) n a))
        → PassTurn (meaning rule size xs) i x p then w ws hs
    turn_at f word fits a made due none told = record {
      own = f p.own;
      access = a;
      world = record w { pass = put w.pass p.thread (f (w.pass p.thread)); word = word };
      fits = fits;
      pass = (fit.0, put_same w.pass p.thread (f (w.pass p.thread)) ∙ ap f fit.1);
      passes = λ u y ne h. (h.0, put_other w.pass p.thread (f (w.pass p.thread)) u ne ∙ h.1);
      roots = λ d y h. h;
      made = made;
      owed = due;
      counted = none;
      told = told;
    }

  -- ---- the turns of a pass that is awake
  module _ (p : PassShown (LockPassView V)) (l : ℕ) (here : l < size.locks) (up : p.own.asleep ≡ false) (w : LockWorld V) (ws : List ℕ)
      (hs : List (maybe.Option (Option V)))
      (ok : Fits rule size w ws hs) (fit : (p.thread < size.threads) × (w.pass p.thread ≡ p.own)) where
    abbrev t : ℕ
    t = p.thread

    up' : (w.pass t).asleep ≡ false
    up' = ap (λ (z : LockPassView V). z.asleep) fit.1 ∙ up

    aim' : (w.pass t).aim ≡ p.own.aim
    aim' = ap (λ (z : LockPassView V). z.aim) fit.1

    aims' : Aims p.own l → Aims (w.pass t) l
    aims' aims k e = aims k (sym aim' ∙ e)

    found : get_or ws (word_at l) 0 ≡ word_of (w.word l)
    found = ok.words.words l (omega arith, omega arith)

    is_found : (h b : Bool) → is_some (w.word l).owner ≡ h → (w.word l).parked ≡ b → bits_of h b ≡ get_or ws (word_at l) 0
    is_found h b e f = sym (found ∙ (λ i. bits_of (e i) (f i)))

    long : l < length (w.pass t).holds
    long = lock_near size.threads size.locks w ok.kept t fit.0 up' l here

    -- the word is x, which the pass finds
    finds : (x : ℕ) → x ≡ get_or ws (word_at l) 0 → (then : PassShown (LockPassView V) → Type 0)
        → ((k : ℕ) → then (pass_after p p.own k (Finds t l x))) → PassTurn (meaning rule size xs) (word_at l) x p then w ws hs
    finds x is then told =
        pass_stays (meaning rule size xs) (word_at l) x w ws hs ok is p fit (Finds t l x) (refl, (is ∙ found, refl)) (λ c. refl) (λ log. tt)
        then told

    -- ---- take and try
    abbrev value : V
    value = ok.lawful.value l

    module _ (unheld : (w.word l).owner ≡ None) where
      nobody : (u : ℕ) → ¬ Holds (w.pass u) l
      nobody u h = (let f : None ≡ Some u = sym unheld ∙ (ok.kept.threads u).holds l h in cc)

      free_word : get_or ws (word_at l) 0 ≡ bits_of false (w.word l).parked
      free_word = found ∙ ap (λ o. bits_of (is_some o) (w.word l).parked) unheld

      found_ok : FoundOk rule l t p.own value
      found_ok =
          subst (λ z. FoundOk rule l t z value) fit.1
          (finds_value rule size.threads size.locks w.pass hs ok.lawful t fit.0 l here long (nobody t))

      -- the pass gets the lock, with the value that it finds
      got_turn : (aims : Aims p.own l) (a : Access) (then : PassShown (LockPassView V) → Type 0) (x : ℕ)
          → x ≡ bit_or (get_or ws (word_at l) 0) 1
          → IsMade (meaning rule size xs) (2 * t) w a (record w {
            pass = put w.pass t (owning (w.pass t) l value);
            word = put w.word l (record { owner = Some t; parked = (w.word l).parked });
          })
          → IsOwed (meaning rule size xs) w a w → CountsNothing a
          → ((n : ℕ) → then (pass_after p (owning p.own l value) n a)) → PassTurn (meaning rule size xs) (word_at l) x p then w ws hs
      got_turn aims a then x is made due none told =
          let y : LockWord = record { owner = Some t; parked = (w.word l).parked } in
          turn_at (word_at l) x p then w ws hs fit (λ z. owning z l value) (put w.word l y)
          (record {
            words =
                words_after size w (put w.pass t (owning (w.pass t) l value)) w.spot w.root ws ok.words refl l here y x
                (is ∙ (ap (λ z. bit_or z 1) free_word ∙ or_one (w.word l).parked));
            kept = gets_kept size.threads size.locks w ok.kept t fit.0 up' l here unheld (aims' aims) value;
            lawful = gets_value rule size.threads size.locks w.pass hs ok.lawful t fit.0 l here nobody long (w.pass t).asleep;
          })
          a made due none told

    module _ (held : (w.word l).owner ≢ None) where
      held_word : get_or ws (word_at l) 0 ≡ bits_of true (w.word l).parked
      held_word = found ∙ ap (λ b. bits_of b (w.word l).parked) (owned (w.word l).owner held)

      same_word : (x : ℕ) → x ≡ bit_or (get_or ws (word_at l) 0) 1 → x ≡ get_or ws (word_at l) 0
      same_word x is = is ∙ (ap (λ z. bit_or z 1) held_word ∙ (or_held (w.word l).parked ∙ sym held_word))

    take_turn : Aims p.own l → PassTurn (meaning rule size xs) (word_at l) (bit_or (get_or ws (word_at l) 0) 1) p
        (Takes rule p l (get_or ws (word_at l) 0)) w ws hs
    take_turn aims =
        let n : ℕ = get_or ws (word_at l) 0 in
        let x : ℕ = bit_or n 1 in
        ⊎_elim {C = PassTurn (meaning rule size xs) (word_at l) x p (Takes rule p l n) w ws hs}
        (λ unheld. got_turn unheld aims (Makes (Take t l) (Saw true)) (Takes rule p l n) x refl
        (refl, (row_take_free w size.threads size.locks ok.kept t fit.0 up' l here unheld value (aims' aims), refl)) (λ c. refl) (λ log. tt)
        (λ k. match_true (bit_and n 1 == 0) _ _ (ap (λ z. bit_and z 1 == 0) (free_word unheld) ∙ even_unheld (w.word l).parked)
        (value, found_ok unheld, (k, refl))))
        (λ held. turn_at (word_at l) x p (Takes rule p l n) w ws hs fit (λ z. wanting z l) w.word
        (record {
          words =
              words_stay size w (put w.pass t (wanting (w.pass t) l)) w.spot w.root ws ok.words refl (word_at l) x (same_word held x refl);
          kept = wants_kept size.threads size.locks w ok.kept t fit.0 up' l here held (aims' aims);
          lawful =
              same_values rule size.threads size.locks w.pass hs ok.lawful t (wanting (w.pass t) l)
              (λ k. record { down = λ h. h; up = λ h. h; places = refl; seen = refl }) (refl, refl);
        })
        (Makes (Take t l) (Saw false))
        (refl, (row_take_held w size.threads size.locks ok.kept t fit.0 up' l here held (aims' aims), refl)) (λ c. refl) (λ log. tt)
        (λ k. match_false (bit_and n 1 == 0) _ _ (ap (λ z. bit_and z 1 == 0) (held_word held) ∙ odd_held (w.word l).parked) (k, refl)))
        (owner_cases (w.word l).owner)

    try_turn : p.own.aim ≡ None → PassTurn (meaning rule size xs) (word_at l) (bit_or (get_or ws (word_at l) 0) 1) p
        (Tries rule p l (get_or ws (word_at l) 0)) w ws hs
    try_turn aim =
        let n : ℕ = get_or ws (word_at l) 0 in
        let x : ℕ = bit_or n 1 in
        let aims : Aims p.own l = (λ k e. absurd (no_aim k (sym aim ∙ e))) in
        ⊎_elim {C = PassTurn (meaning rule size xs) (word_at l) x p (Tries rule p l n) w ws hs}
        (λ unheld. got_turn unheld aims (Makes (Try t l) (Saw true)) (Tries rule p l n) x refl
        (refl, (row_try_free w size.threads size.locks ok.kept t fit.0 up' l here unheld value (aim' ∙ aim), refl)) (λ c. refl) (λ log. tt)
        (λ k. match_true (bit_and n 1 == 0) _ _ (ap (λ z. bit_and z 1 == 0) (free_word unheld) ∙ even_unheld (w.word l).parked)
        (value, found_ok unheld, (k, refl))))
        (λ held. pass_stays (meaning rule size xs) (word_at l) x w ws hs ok (same_word held x refl) p fit (Makes (Try t l) (Saw false))
        (refl, (row_try_held w size.threads size.locks ok.kept t fit.0 up' l here held (aim' ∙ aim), refl)) (λ c. refl) (λ log. tt)
        (Tries rule p l n)
        (λ k. match_false (bit_and n 1 == 0) _ _ (ap (λ z. bit_and z 1 == 0) (held_word held) ∙ odd_held (w.word l).parked) (k, refl)))
        (owner_cases (w.word l).owner)

    -- where the word is 0
    take_free_turn : Aims p.own l → (h b : Bool) → is_some (w.word l).owner ≡ h → (w.word l).parked ≡ b
        → PassTurn (meaning rule size xs) (word_at l) (either (bits_of h b == 0) 1 (bits_of h b)) p
        (TakesFree rule p l (bits_of h b)) w ws hs
    take_free_turn aims false false h b =
        let unheld : (w.word l).owner ≡ None = unowned (w.word l).owner h in
        let is_zero : get_or ws (word_at l) 0 ≡ 0 = sym (is_found false false h b) in
        got_turn unheld aims (Makes (Take t l) (Saw true)) (TakesFree rule p l 0) 1 (sym (ap (λ z. bit_or z 1) is_zero))
        (refl, (row_take_free w size.threads size.locks ok.kept t fit.0 up' l here unheld value (aims' aims), refl)) (λ c. refl) (λ log. tt)
        (λ k. (value, found_ok unheld, (k, refl)))
    take_free_turn aims true false h b =
        finds 1 (is_found true false h b) (TakesFree rule p l 1) (λ k. (k, refl))
    take_free_turn aims false true h b =
        finds 2 (is_found false true h b) (TakesFree rule p l 2) (λ k. (k, refl))
    take_free_turn aims true true h b =
        finds 3 (is_found true true h b) (TakesFree rule p l 3) (λ k. (k, refl))

    -- ---- marking
    mark_turn : p.own.aim ≡ Some l → (h b : Bool) → is_some (w.word l).owner ≡ h → (w.word l).parked ≡ b
        → PassTurn (meaning rule size xs) (word_at l) (either (bits_of h b == 1) 3 (bits_of h b)) p (Marks p l (bits_of h b)) w ws hs
    mark_turn aim true false h b =
        let aims : Aims p.own l = (λ k e. let f : Some l ≡ Some k = sym aim ∙ e in cc) in
        let held : (w.word l).owner ≢ None = (λ e. let f : true ≡ false = sym h ∙ ap is_some e in cc) in
        let y : LockWord = record { owner = (w.word l).owner; parked = true } in
        record {
          own = p.own;
          access = Makes (Mark t l) Done;
          world = record w { word = put w.word l y };
          fits = record {
            words = words_after size w w.pass w.spot w.root ws ok.words refl l here y 3 (ap (λ z. bits_of z true) (sym h));
            kept = marks_kept size.threads size.locks w ok.kept t fit.0 up' l here;
            lawful = ok.lawful;
          };
          pass = fit;
          passes = λ u z ne g. g;
          roots = λ d z g. g;
          made = (refl, (row_mark w size.threads size.locks ok.kept t fit.0 up' l here held (aims' aims), refl));
          owed = λ c. refl;
          counted = λ log. tt;
          told = λ k. (k, refl);
        }
    mark_turn aim false false h b = finds 0 (is_found false false h b) (Marks p l 0) (λ k. (0, (λ e. omega arith), (k, refl)))
    mark_turn aim false true h b = finds 2 (is_found false true h b) (Marks p l 2) (λ k. (2, (λ e. omega arith), (k, refl)))
    mark_turn aim true true h b = finds 3 (is_found true true h b) (Marks p l 3) (λ k. (3, (λ e. omega arith), (k, refl)))

    -- ---- letting go
    module _ (holds : Holds p.own l) (aim : p.own.aim ≡ None) where
      has : Holds (w.pass t) l
      has = subst (λ z. Holds z l) (sym fit.1) holds

      own_is : (w.word l).owner ≡ Some t
      own_is = (ok.kept.threads t).holds l has

      only : (u : ℕ) → Holds (w.pass u) l → u ≡ t
      only u h = (let f : Some u ≡ Some t = sym ((ok.kept.threads u).holds l h) ∙ own_is in cc)

      -- the pass holds what it held, where it finds its lock parked
      still_holds : (k : ℕ) → SameOf k (w.pass t) (finding_parked (w.pass t) l)
      still_holds k = record {
        down =
            set_elim (w.pass t).holds l k FoundParked (λ h. IsHeld h → Holds (w.pass t) k) long
            (λ e _. subst (Holds (w.pass t)) (sym e) has) (λ _ h. h);
        up = λ h. set_elim (w.pass t).holds l k FoundParked IsHeld long (λ _. tt) (λ _. h);
        places = refl;
        seen = refl;
      }

      module _ (y : V) (lies : IsIn p.own l y) where
        lies_of : IsIn (w.pass t) l y
        lies_of = subst (λ z. IsIn z l y) (sym fit.1) lies

        -- the value stays in the slot of the lock that the pass lets go
        pub left_lawful : IsLawful rule size.threads size.locks (put w.pass t (letting_go (w.pass t) l y)) hs
        left_lawful = leaves_value rule size.threads size.locks w.pass hs ok.lawful t fit.0 l here has only long y lies_of

        free_turn : (b : Bool) → (w.word l).parked ≡ b
            → PassTurn (meaning rule size xs) (word_at l) (either (bits_of true b == 1) 0 (bits_of true b)) p
            (Frees p l (bits_of true b)) w ws hs
        free_turn false b =
            let x : LockWord = record { owner = None; parked = (w.word l).parked } in
            let nobody : (w.root l).line ≡ [] =
            by_line (λ xs. ((xs ≢ []) → (w.word l).parked ≡ true) → xs ≡ []) (w.root l).line (λ _ _. refl)
            (λ u us _ parks. absurd (let f : true ≡ false = sym (parks (λ e. cc)) ∙ b in cc)) (ok.kept.locks l).parks in
            turn_at (word_at l) 0 p (Frees p l 1) w ws hs fit (λ z. letting_go z l y) (put w.word l x)
            (record {
              words =
                  words_after size w (put w.pass t (letting_go (w.pass t) l y)) w.spot w.root ws ok.words refl l here x 0
                  (ap (bits_of false) (sym b));
              kept = frees_kept size.threads size.locks w ok.kept t fit.0 up' l here has y (w.word l).parked nobody;
              lawful = left_lawful;
            })
            (Makes (Free t l) (Saw true))
            (refl, (row_free w size.threads size.locks ok.kept t fit.0 up' l here has (aim' ∙ aim) y b, refl)) (λ c. refl) (λ log. tt)
            (λ k z lies'.
            (k, ap (λ v. pass_after p (letting_go p.own l v) k (Makes (Free t l) (Saw true))) (same_in p.own l y z lies lies')))
        free_turn true b =
            turn_at (word_at l) 3 p (Frees p l 3) w ws hs fit (λ z. finding_parked z l) w.word
            (record {
              words =
                  words_stay size w (put w.pass t (finding_parked (w.pass t) l)) w.spot w.root ws ok.words refl (word_at l) 3
                  (is_found true true (ap is_some own_is) b);
              kept = finds_kept size.threads size.locks w ok.kept t fit.0 up' l here has b;
              lawful =
                  same_values rule size.threads size.locks w.pass hs ok.lawful t (finding_parked (w.pass t) l) still_holds (refl, refl);
            })
            (Makes (Free t l) (Saw false))
            (refl, (row_free_parked w size.threads size.locks ok.kept t fit.0 up' l here has (aim' ∙ aim) b, refl)) (λ c. refl) (λ log. tt)
            (λ k. (k, refl))

  -- ---- each call is allowed
  pub takes : (p : PassShown (LockPassView V)) (l : ℕ) → l < size.locks → p.own.asleep ≡ false → Aims p.own l
      → AllowsPass (meaning rule size xs) (word_at l) (λ n. bit_or n 1) p (Takes rule p l)
  takes p l here up aims w ws hs ok fit small = take_turn p l here up w ws hs ok fit aims

  pub tries : (p : PassShown (LockPassView V)) (l : ℕ) → l < size.locks → p.own.asleep ≡ false → p.own.aim ≡ None
      → AllowsPass (meaning rule size xs) (word_at l) (λ n. bit_or n 1) p (Tries rule p l)
  tries p l here up aim w ws hs ok fit small = try_turn p l here up w ws hs ok fit aim

  pub takes_free : (p : PassShown (LockPassView V)) (l : ℕ) → l < size.locks → p.own.asleep ≡ false → Aims p.own l
      → AllowsPass (meaning rule size xs) (word_at l) (λ n. either (n == 0) 1 n) p (TakesFree rule p l)
  takes_free p l here up aims w ws hs ok fit small =
      subst (λ n. PassTurn (meaning rule size xs) (word_at l) (either (n == 0) 1 n) p (TakesFree rule p l n) w ws hs)
      (is_found p l here up w ws hs ok fit (is_some (w.word l).owner) (w.word l).parked refl refl)
      (take_free_turn p l here up w ws hs ok fit aims (is_some (w.word l).owner) (w.word l).parked refl refl)

  pub marks : (p : PassShown (LockPassView V)) (l : ℕ) → l < size.locks → p.own.asleep ≡ false → p.own.aim ≡ Some l
      → AllowsPass (meaning rule size xs) (word_at l) (λ n. either (n == 1) 3 n) p (Marks p l)
  marks p l here up aim w ws hs ok fit small =
      subst (λ n. PassTurn (meaning rule size xs) (word_at l) (either (n == 1) 3 n) p (Marks p l n) w ws hs)
      (is_found p l here up w ws hs ok fit (is_some (w.word l).owner) (w.word l).parked refl refl)
      (mark_turn p l here up w ws hs ok fit aim (is_some (w.word l).owner) (w.word l).parked refl refl)

  pub frees : (p : PassShown (LockPassView V)) (l : ℕ) → l < size.locks → p.own.asleep ≡ false → p.own.aim ≡ None → Holds p.own l
      → (y : V) → IsIn p.own l y
      → AllowsPass (meaning rule size xs) (word_at l) (λ n. either (n == 1) 0 n) p (Frees p l)
  frees p l here up aim holds y lies w ws hs ok fit small =
      let own = own_is p l here up w ws hs ok fit holds aim in
      subst (λ n. PassTurn (meaning rule size xs) (word_at l) (either (n == 1) 0 n) p (Frees p l n) w ws hs)
      (is_found p l here up w ws hs ok fit true (w.word l).parked (ap is_some own) refl)
      (free_turn p l here up w ws hs ok fit holds aim y lies (w.word l).parked refl)
