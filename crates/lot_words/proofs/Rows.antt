-- What each kind of event is to the lock part of the model: a step of lot_core's.
use Rattle.std.proofs.Common.{◌≡◌, ◌≢◌, ℕ, ◌<◌, ◌&&◌, ◌⊎◌, not, Bool, true, false, cond, List, [], ◌∷◌, ◌++◌, length, refl}
use Rattle.std.proofs.Common.{sym, ap, ◌∙◌, inl, inr, ⊎_elim, arith}
use Rattle.std.proofs.Common.{Option, Some, None, is_some}
use Rattle.std.specs.List.{Contains}
use mathlib.Core.Path.{fun_ext}
use Rattle.lot_core.specs.Model.{put}
use Rattle.lot_core.specs.Steps.{SaysMore, first, passed_line}
use Rattle.lot_core.specs.Parts.{LockPart, LockStep, MayTry, served}
use Rattle.lot_events.specs.declared.events.Event.TheVariants.{Try, Take, Mark, Park, Free, Pass}
use Rattle.lot_events.specs.declared.events.Seen.TheVariants.{Bool as Saw, Done, Sleeper}
use Rattle.lot_core.specs.State.{owns}
use Rattle.lot_core.proofs.Put.{put_same, put_other, put_again, told_put, told_same}
use Rattle.lot_core.proofs.Passes.{owns_left, owns_handed}
use Rattle.lot_rights.specs.World.{Spot, awake, queued, owed}
use Rattle.lot_rights.proofs.Puts.{put_elim, is_put}
use Rattle.lot_words.specs.declared.views.LockPassView.{LockPassView}
use Rattle.lot_words.specs.declared.views.LockRootView.{LockRootView}
use Rattle.lot_words.specs.World.{LockWord, LockWorld, Holds, Kept}
use Rattle.lot_words.specs.Rule.{wants_of, part_of}
use Rattle.lot_words.specs.Calls.{Aims, owning, wanting, sleeping, letting_go, finding_parked}
use Rattle.lot_words.proofs.Holding.{is_awake, in_no_line}
use Rattle.lot_words.proofs.Owners.{owner_has, owned, owns_got}
use Rattle.lot_words.proofs.Letters.{first_waits}

aim_cases : (a : Option ℕ) (l : ℕ) → ((k : ℕ) → a ≡ Some k → k ≡ l) → (a ≡ None) ⊎ (a ≡ Some l)
aim_cases None l aims = inl refl
aim_cases (Some k) l aims = inr (ap Some (aims k refl))

module _ {V : Type 0} (w : LockWorld V) where
  abbrev wants : ℕ → Option ℕ
  wants = (part_of w).wants

  -- the word of l becomes x
  held_now : (l : ℕ) (x : LockWord) → (λ k. is_some (put w.word l x k).owner) ≡ put (part_of w).locks.held l (is_some x.owner)
  held_now l x = told_put (λ (z : LockWord). is_some z.owner) w.word l x

  parked_now : (l : ℕ) (x : LockWord) → (λ k. (put w.word l x k).parked) ≡ put (part_of w).locks.parked l x.parked
  parked_now l x = told_put (λ (z : LockWord). z.parked) w.word l x

  parked_same : (l : ℕ) (x : LockWord) → x.parked ≡ (w.word l).parked → (λ k. (put w.word l x k).parked) ≡ (part_of w).locks.parked
  parked_same l x e = told_same (λ (z : LockWord). z.parked) w.word l x e

  has_now : (l : ℕ) (x : LockWord) (has : ℕ → Bool) → owns x.owner ≡ has
      → (λ k. owns (put w.word l x k).owner) ≡ put (part_of w).locks.has l has
  has_now l x has e = told_put {Y = ℕ → Bool} (λ (z : LockWord). owns z.owner) w.word l x ∙ ap (put (part_of w).locks.has l) e

  line_now : (l : ℕ) (q : LockRootView) → (λ k. (put w.root l q k).line) ≡ put (part_of w).locks.line l q.line
  line_now l q = told_put (λ (z : LockRootView). z.line) w.root l q

  -- t's pass has another aim, or its notice moves: it wants a then
  wants_put : (t : ℕ) (p : LockPassView V) (spots : ℕ → Spot) (a : Option ℕ) → wants_of (spots t) p.aim ≡ a
      → ((v : ℕ) → v ≢ t → spots v ≡ w.spot v)
      → (λ v. wants_of (spots v) (put w.pass t p v).aim) ≡ put wants t a
  wants_put t p spots a here else =
      is_put (λ v. wants_of (spots v) (put w.pass t p v).aim) wants t a
      (ap (λ (z : LockPassView V). wants_of (spots t) z.aim) (put_same w.pass t p) ∙ here)
      (λ v ne. (λ i. wants_of (else v ne i) (put_other w.pass t p v ne i).aim))

  -- it wants what it wanted
  wants_same : (t : ℕ) (p : LockPassView V) (spots : ℕ → Spot) → p.aim ≡ (w.pass t).aim
      → ((v : ℕ) → wants_of (spots v) (w.pass v).aim ≡ wants v)
      → (λ v. wants_of (spots v) (put w.pass t p v).aim) ≡ wants
  wants_same t p spots aim same = fun_ext (λ v. put_elim (λ z. wants_of (spots v) z.aim ≡ wants v) w.pass t p v
      (λ vt. ap (wants_of (spots v)) (aim ∙ ap (λ z. (w.pass z).aim) (sym vt)) ∙ same v) (λ _. same v))

  -- the notice of u moves, and u wants what it wanted
  spot_same : (u : ℕ) (sp : Spot) → wants_of sp (w.pass u).aim ≡ wants_of (w.spot u) (w.pass u).aim → (v : ℕ)
      → wants_of (put w.spot u sp v) (w.pass v).aim ≡ wants v
  spot_same u sp e v = put_elim (λ z. wants_of z (w.pass v).aim ≡ wants v) w.spot u sp v (λ vu. ap (λ z. wants_of sp (w.pass z).aim) vu
      ∙ (e ∙ ap (λ z. wants_of (w.spot z) (w.pass z).aim) (sym vu))) (λ _. refl)

  -- ---- the part stays
  -- a pass that aims as before
  pub same_pass : (t : ℕ) (p : LockPassView V) → p.aim ≡ (w.pass t).aim → part_of (record w { pass = put w.pass t p }) ≡ part_of w
  same_pass t p aim = λ i. record { locks = (part_of w).locks; wants = wants_same t p w.spot aim (λ v. refl) i }

  -- a letter that is posted
  pub same_post : (u : ℕ) (sp : Spot) (l : ℕ) (q : LockRootView) → wants_of sp (w.pass u).aim ≡ wants_of (w.spot u) (w.pass u).aim
      → q.line ≡ (w.root l).line
      → part_of (record w { spot = put w.spot u sp; root = put w.root l q }) ≡ part_of w
  same_post u sp l q want line =
      λ i. record {
        locks = record (part_of w).locks { line = told_same (λ (z : LockRootView). z.line) w.root l q line i };
        wants = fun_ext (spot_same u sp want) i;
      }

  -- a letter that is collected
  pub same_collect : (t : ℕ) (p : LockPassView V) → wants_of awake p.aim ≡ wants t
      → part_of (record w { pass = put w.pass t p; spot = put w.spot t awake }) ≡ part_of w
  same_collect t p want = λ i. record {
    locks = (part_of w).locks;
    wants =
        (wants_put t p (put w.spot t awake) (wants t) (ap (λ z. wants_of z p.aim) (put_same w.spot t awake) ∙ want)
        (λ v ne. put_other w.spot t awake v ne) ∙ put_again wants t) i;
  }

  module _ (n m : ℕ) (ok : Kept n m w) (t : ℕ) (near : t < n) (up : (w.pass t).asleep ≡ false) where
    wants_now : wants t ≡ (w.pass t).aim
    wants_now = ap (λ z. wants_of z (w.pass t).aim) (is_awake n m w ok t near up)

    module _ (l : ℕ) (here : l < m) where
      not_in_line : ¬ Contains (w.root l).line t
      not_in_line = in_no_line n m w ok t near up l

      may_try : Aims (w.pass t) l → MayTry (part_of w) t l
      may_try aims =
          ⊎_elim {C = MayTry (part_of w) t l} (λ e. inl (wants_now ∙ e)) (λ e. inr (wants_now ∙ e, not_in_line))
          (aim_cases (w.pass t).aim l aims)

      -- the part after a try: where it found the lock held (as c says) nothing is taken, and else t has it
      abbrev after_try : (Bool → ℕ → Option ℕ) → Bool → LockPart
      after_try wanted c = record {
        locks = cond c (part_of w).locks (record (part_of w).locks
            { held = put (part_of w).locks.held l true; has = put (part_of w).locks.has l (put ((part_of w).locks.has l) t true) });
        wants = wanted c;
      }

      -- t wants the lock from then on, where it didn't get it
      abbrev seeking : Bool → ℕ → Option ℕ
      seeking c = put wants t (cond c (Some l) None)

      -- ---- take and try
      module _ (unheld : (w.word l).owner ≡ None) (x : V) where
        abbrev got : LockWorld V
        got =
            record w {
              pass = put w.pass t (owning (w.pass t) l x);
              word = put w.word l (record { owner = Some t; parked = (w.word l).parked });
            }

        got_part : (want : ℕ → Option ℕ) → put wants t None ≡ want
            → part_of got ≡ record {
              locks =
                  record (part_of w).locks {
                    held = put (part_of w).locks.held l true;
                    has = put (part_of w).locks.has l (put ((part_of w).locks.has l) t true);
                  };
              wants = want;
            }
        got_part want is = let y : LockWord = record { owner = Some t; parked = (w.word l).parked } in λ i. record {
          locks = record {
            held = held_now l y i;
            parked = parked_same l y refl i;
            line = (part_of w).locks.line;
            has = has_now l y (put ((part_of w).locks.has l) t true) (owns_got (w.word l).owner t unheld) i;
          };
          wants =
              (wants_put t (owning (w.pass t) l x) w.spot None (ap (λ z. wants_of z None) (is_awake n m w ok t near up)) (λ v ne. refl)
              ∙ is) i;
        }

        free_now : false ≡ is_some (w.word l).owner
        free_now = ap is_some (sym unheld)

        pub row_take_free : Aims (w.pass t) l → LockStep n m (part_of w) (Take t l) (Saw true) (part_of got)
        row_take_free aims =
            ((near, here, may_try aims), ap (λ c. Saw (not c)) free_now, got_part (put wants t None) refl ∙ ap (after_try seeking) free_now)

        pub row_try_free : (w.pass t).aim ≡ None → LockStep n m (part_of w) (Try t l) (Saw true) (part_of got)
        row_try_free aim = (
          (near, here, wants_now ∙ aim),
          ap (λ c. Saw (not c)) free_now,
          got_part wants (ap (put wants t) (sym (wants_now ∙ aim)) ∙ put_again wants t) ∙ ap (after_try (λ _. wants)) free_now,
        )

      module _ (held : (w.word l).owner ≢ None) where
        held_now_is : true ≡ is_some (w.word l).owner
        held_now_is = sym (owned (w.word l).owner held)

        pub row_take_held : Aims (w.pass t) l → LockStep n m (part_of w) (Take t l) (Saw false)
            (part_of (record w { pass = put w.pass t (wanting (w.pass t) l) }))
        row_take_held aims = (
          (near, here, may_try aims),
          ap (λ c. Saw (not c)) held_now_is,
          (λ i. record {
            locks = (part_of w).locks;
            wants = wants_put t (wanting (w.pass t) l) w.spot (Some l) (ap (λ z. wants_of z (Some l)) (is_awake n m w ok t near up))
                (λ v ne. refl) i;
          }) ∙ ap (after_try seeking) held_now_is,
        )

        pub row_try_held : (w.pass t).aim ≡ None → LockStep n m (part_of w) (Try t l) (Saw false) (part_of w)
        row_try_held aim =
            ((near, here, wants_now ∙ aim), ap (λ c. Saw (not c)) held_now_is, ap (after_try (λ _. wants)) held_now_is)

        pub row_mark : Aims (w.pass t) l → LockStep n m (part_of w) (Mark t l) Done
            (part_of (record w { word = put w.word l (record { owner = (w.word l).owner; parked = true }) }))
        row_mark aims = let y : LockWord = record { owner = (w.word l).owner; parked = true } in (
          (near, here, may_try aims, sym held_now_is),
          refl,
          (λ i. record {
            locks = record {
              held = told_same (λ (z : LockWord). is_some z.owner) w.word l y refl i;
              parked = parked_now l y i;
              line = (part_of w).locks.line;
              has = told_same {Y = ℕ → Bool} (λ (z : LockWord). owns z.owner) w.word l y refl i;
            };
            wants = wants;
          }),
        )

        pub row_park : (w.pass t).aim ≡ Some l → (w.word l).parked ≡ true
            → LockStep n m (part_of w) (Park t l) (Saw true) (part_of (record w {
              pass = put w.pass t (sleeping (w.pass t));
              spot = put w.spot t (queued l);
              root = put w.root l (record (w.root l) { line = (w.root l).line ++ t ∷ [] });
            }))
        row_park aim parked =
            let both : true ≡ (is_some (w.word l).owner && (w.word l).parked) = (λ i. held_now_is i && sym parked i) in
            let q : LockRootView = record (w.root l) { line = (w.root l).line ++ t ∷ [] } in
            let then : Bool → LockPart = λ c. record {
              locks = cond c (record (part_of w).locks { line = put (part_of w).locks.line l ((part_of w).locks.line l ++ t ∷ []) })
                  (part_of w).locks;
              wants = wants;
            } in (
              (near, here, wants_now ∙ aim, not_in_line),
              ap Saw both,
              (λ i. record {
                locks = record (part_of w).locks { line = line_now l q i };
                wants = wants_same t (sleeping (w.pass t)) (put w.spot t (queued l)) refl
                    (spot_same t (queued l) (sym wants_now)) i;
              }) ∙ ap then both,
            )

      pub row_park_not : (w.pass t).aim ≡ Some l → (is_some (w.word l).owner && (w.word l).parked) ≡ false
          → LockStep n m (part_of w) (Park t l) (Saw false) (part_of w)
      row_park_not aim not_both =
          let then : Bool → LockPart = λ c. record {
            locks =
                cond c (record (part_of w).locks { line = put (part_of w).locks.line l ((part_of w).locks.line l ++ t ∷ []) })
                (part_of w).locks;
            wants = wants;
          } in
          ((near, here, wants_now ∙ aim, not_in_line), ap Saw (sym not_both), ap then (sym not_both))

      -- ---- free and pass
      module _ (has : Holds (w.pass t) l) (aim : (w.pass t).aim ≡ None) where
        owner_is : (w.word l).owner ≡ Some t
        owner_is = (ok.threads t).holds l has

        has_it : owns (w.word l).owner t ≡ true
        has_it = owner_has (w.word l).owner t owner_is

        abbrev let_go_part : (ℕ → Bool) → (ℕ → List ℕ) → LockPart
        let_go_part parked line = record {
          locks = record {
            held = put (part_of w).locks.held l false;
            parked = parked;
            line = line;
            has = put (part_of w).locks.has l (put ((part_of w).locks.has l) t false);
          };
          wants = wants;
        }

        module _ (y : V) where
          pub row_free : (w.word l).parked ≡ false
              → LockStep n m (part_of w) (Free t l) (Saw true) (part_of (record w {
                pass = put w.pass t (letting_go (w.pass t) l y);
                word = put w.word l (record { owner = None; parked = (w.word l).parked });
              }))
          row_free unparked =
              let x : LockWord = record { owner = None; parked = (w.word l).parked } in
              let e : false ≡ (w.word l).parked = sym unparked in
              let then : Bool → LockPart = λ c. record {
                locks = cond c (part_of w).locks (record (part_of w).locks {
                  held = put (part_of w).locks.held l false;
                  has = put (part_of w).locks.has l (put ((part_of w).locks.has l) t false);
                });
                wants = wants;
              } in (
                (near, here, has_it, wants_now ∙ aim),
                ap (λ c. Saw (not c)) e,
                (λ i. record {
                  locks = record {
                    held = held_now l x i;
                    parked = parked_same l x refl i;
                    line = (part_of w).locks.line;
                    has = has_now l x (put ((part_of w).locks.has l) t false) (owns_left (w.word l).owner t has_it) i;
                  };
                  wants = wants_same t (letting_go (w.pass t) l y) w.spot refl (λ v. refl) i;
                }) ∙ ap then e,
              )

          -- nobody is in the line
          pub row_pass_none : (more : Bool) → (w.word l).parked ≡ true → (w.root l).line ≡ []
              → LockStep n m (part_of w) (Pass t l false more) (Sleeper None) (part_of (record w
              { pass = put w.pass t (letting_go (w.pass t) l y); word = put w.word l (record { owner = None; parked = false }) }))
          row_pass_none more parked line = let x : LockWord = record { owner = None; parked = false } in (
            (
              near,
              here,
              has_it,
              parked,
              wants_now ∙ aim,
              (λ _ two. absurd (let f : length (w.root l).line ≡ 0 = ap length line in omega arith)),
            ),
            ap (λ z. Sleeper (first z)) (sym line),
            (λ i. record {
              locks = record {
                held = held_now l x i;
                parked = parked_now l x i;
                line = (part_of w).locks.line;
                has = has_now l x (put ((part_of w).locks.has l) t false) (owns_left (w.word l).owner t has_it) i;
              };
              wants = wants_same t (letting_go (w.pass t) l y) w.spot refl (λ v. refl) i;
            })
                ∙ (let then : List ℕ → LockPart =
                λ z. record { locks = passed_line (part_of w).locks t l false more z; wants = wants } in ap then (sym line)),
          )

          module _ (u : ℕ) (us : List ℕ) (line : (w.root l).line ≡ u ∷ us) (parked : (w.word l).parked ≡ true)
              (paid : (w.root l).owes ≡ None) where
            waits : w.spot u ≡ queued l
            waits = first_waits n m w ok t l near here up has u us line paid

            abbrev passed : ℕ → LockWord → LockWorld V
            passed k x = record w {
              pass = put w.pass t (letting_go (w.pass t) l y);
              spot = put w.spot u (owed l k);
              word = put w.word l x;
              root = put w.root l (record (w.root l) { line = us; owes = Some (u, k) });
            }

            -- the lock is let go, and the first may try
            pub row_pass_plain : (more : Bool) → SaysMore (w.root l).line more
                → LockStep n m (part_of w) (Pass t l false more) (Sleeper (Some u))
                (part_of (passed 0 (record { owner = None; parked = more })))
            row_pass_plain more says =
                let x : LockWord = record { owner = None; parked = more } in
                let q : LockRootView = record (w.root l) { line = us; owes = Some (u, 0) } in (
                  (near, here, has_it, parked, wants_now ∙ aim, (λ _. says)),
                  ap (λ z. Sleeper (first z)) (sym line),
                  (λ i. record {
                    locks = record {
                      held = held_now l x i;
                      parked = parked_now l x i;
                      line = line_now l q i;
                      has = has_now l x (put ((part_of w).locks.has l) t false) (owns_left (w.word l).owner t has_it) i;
                    };
                    wants =
                        wants_same t (letting_go (w.pass t) l y) (put w.spot u (owed l 0)) refl
                        (spot_same u (owed l 0) (ap (λ z. wants_of z (w.pass u).aim) (sym waits))) i;
                  })
                      ∙ (let then : List ℕ → LockPart =
                      λ z. record { locks = passed_line (part_of w).locks t l false more z; wants = wants } in ap then (sym line)),
                )

            -- the lock is handed to the first
            pub row_pass_fair : (more : Bool) → LockStep n m (part_of w) (Pass t l true more) (Sleeper (Some u))
                (part_of (passed 1 (record { owner = Some u; parked = (w.word l).parked })))
            row_pass_fair more =
                let x : LockWord = record { owner = Some u; parked = (w.word l).parked } in
                let q : LockRootView = record (w.root l) { line = us; owes = Some (u, 1) } in
                let p : LockPassView V = letting_go (w.pass t) l y in
                let spots : ℕ → Spot = put w.spot u (owed l 1) in (
                  (near, here, has_it, parked, wants_now ∙ aim, (λ e. absurd (cc (e)))),
                  ap (λ z. Sleeper (first z)) (sym line),
                  (λ i. record {
                    locks = record {
                      held = told_same (λ (z : LockWord). is_some z.owner) w.word l x (ap is_some (sym owner_is)) i;
                      parked = parked_same l x refl i;
                      line = line_now l q i;
                      has = has_now l x (put (put ((part_of w).locks.has l) t false) u true) (owns_handed (w.word l).owner t u has_it) i;
                    };
                    wants =
                        is_put (λ v. wants_of (spots v) (put w.pass t p v).aim) wants u None
                        (ap (λ z. wants_of z (put w.pass t p u).aim) (put_same w.spot u (owed l 1)))
                        (λ v ne. ap (λ z. wants_of z (put w.pass t p v).aim) (put_other w.spot u (owed l 1) v ne)
                        ∙ put_elim (λ z. wants_of (w.spot v) z.aim ≡ wants v) w.pass t p v
                        (λ vt. ap (λ z. wants_of (w.spot v) (w.pass z).aim) (sym vt)) (λ _. refl)) i;
                  })
                      ∙ (let then : List ℕ → LockPart =
                      λ z. record { locks = passed_line (part_of w).locks t l true more z; wants = served wants z } in ap then (sym line)),
                )

        pub row_free_parked : (w.word l).parked ≡ true
            → LockStep n m (part_of w) (Free t l) (Saw false) (part_of (record w { pass = put w.pass t (finding_parked (w.pass t) l) }))
        row_free_parked parked =
            let e : true ≡ (w.word l).parked = sym parked in
            let then : Bool → LockPart = λ c. record {
              locks = cond c (part_of w).locks (record (part_of w).locks
                  { held = put (part_of w).locks.held l false; has = put (part_of w).locks.has l (put ((part_of w).locks.has l) t false) });
              wants = wants;
            } in
            ((near, here, has_it, wants_now ∙ aim), ap (λ c. Saw (not c)) e, same_pass t (finding_parked (w.pass t) l) refl ∙ ap then e)
