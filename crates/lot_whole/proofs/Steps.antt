-- One step of a kind j, as a step of the lot: words and letters, the state of the whole, passes and roots.
use Rattle.std.proofs.Common.{◌≡◌, ◌≢◌, ℕ, ◌+◌, ◌*◌, ◌<◌, true, false, List, length, get_or, set, refl, sym, ap, subst, ◌∙◌, ⊎_elim}
use Rattle.std.proofs.Common.{arith, length-set, get_or-set_same, get_or-set_other}
use Rattle.std.proofs.Common.{Option, Some, None}
use mathlib.Core.Option as maybe
use mathlib.Core.Logic.{dite}
use mathlib.Core.Path.{fun_ext}
use native.Mathlib.Decide.{ℕ_discrete}
use Rattle.lot_events.specs.declared.events.Event.{Event}
use Rattle.lot_events.specs.declared.events.Seen.{Seen}
use Rattle.lot_core.specs.Model.{StateView, put}
use Rattle.lot_core.specs.Steps.{after, IsReached}
use Rattle.lot_core.specs.Rows.{told}
use Rattle.lot_core.proofs.Law.{event_kept, reached_sound}
use Rattle.lot_core.proofs.Put.{put_same, put_other, put_again}
use Rattle.lot_order.specs.Order.{IsOrdered}
use Rattle.lot_order.proofs.Orderly.{event_ordered}
use Rattle.lot_rights.specs.declared.views.Access.{Access}
use Rattle.lot_rights.specs.declared.views.Access.TheVariants.{Makes, Posts, Collects, Finds, Counts}
use Rattle.lot_rights.specs.History.{Telling, doer, maker}
use Rattle.lot_rights.specs.Layout.{word_at, letter_at}
use Rattle.lot_rights.specs.Rule.{Leads}
use Rattle.lot_rights.proofs.Distinct.{word_apart, apart_letter}
use Rattle.lot_rights.proofs.Puts.{is_put}
use Rattle.lot_words.specs.CallersRule.{CallersRule}
use Rattle.lot_whole.specs.declared.views.LotPassView.{LotPassView}
use Rattle.lot_whole.specs.declared.views.LotRootView.{LotRootView}
use Rattle.lot_whole.specs.declared.views.LotRootView.TheVariants.{Lock, Cond, Sem}
use Rattle.lot_whole.specs.declared.views.Stand.{Stand}
use Rattle.lot_whole.specs.Family.{Which, lock, cond, sem, LotSize, IsKeyIn, PassIn, RootIn, away, homes_in, meaning_of, part_in, dput}
use Rattle.lot_whole.specs.Whole.{Stands, stand_of, moves, moves_by, whole_by, counts_in, counts_of}
use Rattle.lot_whole.specs.Lot.{own_of, pass_from, root_from, sum_of, LotWorld, letters_in, PassOk, LotFits, LotRootIs, lot_meaning}
use Rattle.lot_whole.specs.Lifts.{lot_own, MayBeAway, Quiet, Speaks, InPlace}
use Rattle.lot_whole.proofs.Family.{dput_elim, dput_two, dput_same, three_same, three_one, key_near, letter_near, keys_apart, key_in}
use Rattle.lot_whole.proofs.Family.{letter_in_kind, wide_in, letter_in, word_is}
use Rattle.lot_whole.proofs.Queued.{none_queued}
use Rattle.lot_whole.proofs.Whole.{counts_after, joins, stands_move}

pub own_from : (V : Type 0) (f : (j : Which) → PassIn V j) (s : Stand) (k : Which) → own_of V (pass_from V f s) k ≡ f k
own_from V f s lock = refl
own_from V f s cond = refl
own_from V f s sem = refl

-- who is away in one kind at most is so too after a step of the kind j, from which it knows this
pub apart_after : (V : Type 0) (j : Which) (p : LotPassView V)
    → ((k m : Which) → away V k (own_of V p k) ≡ true → away V m (own_of V p m) ≡ true → k ≡ m)
    → (own : PassIn V j) → MayBeAway j p own
    → (k m : Which) → away V k (dput {X = PassIn V} j own (own_of V p) k) ≡ true
    → away V m (dput {X = PassIn V} j own (own_of V p) m) ≡ true → k ≡ m
apart_after V j p apart own may k m =
    dput_elim {X = PassIn V} (λ k o. away V k o ≡ true → away V m (dput {X = PassIn V} j own (own_of V p) m) ≡ true → k ≡ m) j own
    (own_of V p)
    (λ up. dput_elim {X = PassIn V} (λ m o. away V m o ≡ true → j ≡ m) j own (own_of V p) (λ _. refl)
    (λ m ne there. ⊎_elim {C = j ≡ m} (λ was. apart j m was there) (λ none. absurd (let e : false ≡ true = sym (none m ne) ∙ there in cc))
    (may up)) m)
    (λ k ne up. dput_elim {X = PassIn V} (λ m o. away V m o ≡ true → k ≡ m) j own (own_of V p)
    (λ there. ⊎_elim {C = k ≡ j} (λ was. apart k j up was) (λ none. absurd (let e : false ≡ true = sym (none k ne) ∙ up in cc)) (may there))
    (λ m _ there. apart k m up there) m)
    k

module _ {V Part : Type 0} (rule : CallersRule V Part) (z : LotSize) (xs : List V) where
  -- ---- roots, kind by kind
  pub root_in : (k : Which) (w : LotWorld rule z xs) (d : ℕ) (r : RootIn k) → LotRootIs rule z xs w d (root_from k r) → IsKeyIn z k d
      × (meaning_of rule z xs k).RootFits (w.each k) d r
  root_in lock w d r h = h
  root_in cond w d r h = h
  root_in sem w d r h = h

  pub root_out : (k : Which) (w : LotWorld rule z xs) (d : ℕ) (r : RootIn k) → IsKeyIn z k d
      → (meaning_of rule z xs k).RootFits (w.each k) d r → LotRootIs rule z xs w d (root_from k r)
  root_out lock w d r is h = (is, h)
  root_out cond w d r is h = (is, h)
  root_out sem w d r is h = (is, h)

  module _ (j : Which) (w : LotWorld rule z xs) (ws : List ℕ) (hs : List (maybe.Option (Option V))) (ok : LotFits rule z xs w ws hs)
      (i : ℕ) (place : InPlace rule z xs j w i) where
    -- the word is the one that the kind would have alone
    pub found : get_or ws i 0 ≡ get_or (w.words j) i 0
    found = ⊎_elim {C = get_or ws i 0 ≡ get_or (w.words j) i 0}
        (λ h. ap (λ n. get_or ws n 0) h.1.1 ∙ (ok.keys j h.0 h.1.0 ∙ sym (ap (λ n. get_or (w.words j) n 0) h.1.1)))
        (λ h. ap (λ n. get_or ws n 0) h.1.1 ∙ (ok.letters h.0 h.1.0 ∙ (three_one (letters_in rule z xs w) j h.0 h.1.2
        ∙ (sym (letter_in rule z xs j (w.each j) (w.words j) hs (ok.parts j) h.0 h.1.0) ∙ sym (ap (λ n. get_or (w.words j) n 0) h.1.1)))))
        place

    inside : i < length ws
    inside = ⊎_elim {C = i < length ws} (λ h. omega (arith, h.1.1, ok.wide, key_near z j h.0 h.1.0))
        (λ h. omega (arith, h.1.1, ok.wide, letter_near z h.0 h.1.0)) place

    inside_kind : i < length (w.words j)
    inside_kind = ⊎_elim {C = i < length (w.words j)}
        (λ h. omega (arith, h.1.1, wide_in rule z xs j (w.each j) (w.words j) hs (ok.parts j), key_in z j h.0 h.1.0))
        (λ h. omega (arith, h.1.1, wide_in rule z xs j (w.each j) (w.words j) hs (ok.parts j), letter_in_kind z j h.0 h.1.0)) place

    -- the word of a key of another kind is another
    elsewhere : (k : Which) (c : ℕ) → IsKeyIn z k c → k ≢ j → word_at c ≢ i
    elsewhere k c is ne e = ⊎_elim {C = ⊥} (λ h. keys_apart z k j c h.0 is h.1.0 ne (word_apart c h.0 (e ∙ h.1.1)))
        (λ h. apart_letter c h.0 (e ∙ h.1.1)) place

    -- a letter at the place is one that no other kind has
    quiet_here : (t : ℕ) → letter_at t ≡ i → Quiet rule z xs j w t
    quiet_here t e = ⊎_elim {C = Quiet rule z xs j w t} (λ h. absurd (apart_letter h.0 t (sym (e ∙ h.1.1))))
        (λ h. subst (Quiet rule z xs j w) (omega (arith, h.1.1)) h.1.2) place

    -- ---- the word becomes x, and the kind's world v
    module _ (x : ℕ) (v : (meaning_of rule z xs j).World)
        (fits : (meaning_of rule z xs j).Fits v (set (w.words j) i x) (homes_in j hs)) where
      abbrev each : (k : Which) → (meaning_of rule z xs k).World
      each = dput {X = λ k. (meaning_of rule z xs k).World} j v w.each

      abbrev words : Which → List ℕ
      words = dput {X = λ k. List ℕ} j (set (w.words j) i x) w.words

      abbrev letters : Which → ℕ → ℕ
      letters k = ((meaning_of rule z xs k).told_by (each k)).letters

      abbrev told_j : Telling (meaning_of rule z xs j).Part
      told_j = (meaning_of rule z xs j).told_by (w.each j)

      abbrev told_v : Telling (meaning_of rule z xs j).Part
      told_v = (meaning_of rule z xs j).told_by v

      keys_after : (k : Which) (c : ℕ) → IsKeyIn z k c → get_or (set ws i x) (word_at c) 0 ≡ get_or (words k) (word_at c) 0
      keys_after = dput_elim {X = λ k. List ℕ}
          (λ k us. (c : ℕ) → IsKeyIn z k c → get_or (set ws i x) (word_at c) 0 ≡ get_or us (word_at c) 0) j (set (w.words j) i x) w.words
          (λ c is. dite (ℕ_discrete (word_at c) i)
          (λ e. ap (λ n. get_or (set ws i x) n 0) e ∙ (get_or-set_same ws i x 0 inside
          ∙ (sym (get_or-set_same (w.words j) i x 0 inside_kind) ∙ sym (ap (λ n. get_or (set (w.words j) i x) n 0) e))))
          (λ ne. get_or-set_other ws i (word_at c) x 0 ne ∙ (ok.keys j c is ∙ sym (get_or-set_other (w.words j) i (word_at c) x 0 ne))))
          (λ k ne c is. get_or-set_other ws i (word_at c) x 0 (elsewhere k c is ne) ∙ ok.keys k c is)

      -- ---- letters
      others_same : (t : ℕ) → told_v.letters t ≡ told_j.letters t → (k : Which) → letters k t ≡ letters_in rule z xs w k t
      others_same t e = dput_elim {X = λ k. (meaning_of rule z xs k).World}
          (λ k y. ((meaning_of rule z xs k).told_by y).letters t ≡ letters_in rule z xs w k t) j v w.each e (λ k ne. refl)

      still_quiet : (t : ℕ) → Quiet rule z xs j w t → (k : Which) → k ≢ j → letters k t ≡ 0
      still_quiet t quiet = dput_elim {X = λ k. (meaning_of rule z xs k).World}
          (λ k y. k ≢ j → ((meaning_of rule z xs k).told_by y).letters t ≡ 0) j v w.each (λ ne. absurd (ne refl)) (λ k _ ne. quiet k ne)

      mine : (t : ℕ) → letters j t ≡ told_v.letters t
      mine t = ap (λ y. ((meaning_of rule z xs j).told_by y).letters t) (dput_same {X = λ k. (meaning_of rule z xs k).World} j v w.each)

      letters_after : (t : ℕ) → t < z.threads → get_or (set ws i x) (letter_at t) 0 ≡ sum_of letters t
      letters_after t near =
          let new = letter_in rule z xs j v (set (w.words j) i x) hs fits t near in
          let old = letter_in rule z xs j (w.each j) (w.words j) hs (ok.parts j) t near in
          dite (ℕ_discrete (letter_at t) i)
          (λ e. ap (λ n. get_or (set ws i x) n 0) e
          ∙ (get_or-set_same ws i x 0 inside ∙ (sym (get_or-set_same (w.words j) i x 0 inside_kind)
          ∙ (sym (ap (λ n. get_or (set (w.words j) i x) n 0) e)
          ∙ (new ∙ (sym (mine t) ∙ sym (three_one letters j t (still_quiet t (quiet_here t e)))))))))
          (λ ne. get_or-set_other ws i (letter_at t) x 0 ne ∙ (ok.letters t near ∙ sym (three_same letters (letters_in rule z xs w) t
          (others_same t (sym new ∙ (get_or-set_other (w.words j) i (letter_at t) x 0 ne ∙ old))))))

      same_letters : told_v.letters ≡ told_j.letters → sum_of letters ≡ sum_of (letters_in rule z xs w)
      same_letters e = fun_ext (λ t. three_same letters (letters_in rule z xs w) t (others_same t (λ h. e h t)))

      put_letters : (t n : ℕ) → Quiet rule z xs j w t → told_v.letters ≡ put told_j.letters t n
          → sum_of letters ≡ put (sum_of (letters_in rule z xs w)) t n
      put_letters t n quiet e = is_put (sum_of letters) (sum_of (letters_in rule z xs w)) t n
          (three_one letters j t (still_quiet t quiet) ∙ (mine t ∙ ((λ h. e h t) ∙ put_same told_j.letters t n)))
          (λ u ne. three_same letters (letters_in rule z xs w) u (others_same u ((λ h. e h u) ∙ put_other told_j.letters t n u ne)))

      -- ---- the state of the whole
      same_parts : told_v.part ≡ told_j.part → (k : Which) → part_in rule z xs k w.whole ≡ ((meaning_of rule z xs k).told_by (each k)).part
      same_parts e = dput_elim {X = λ k. (meaning_of rule z xs k).World}
          (λ k y. part_in rule z xs k w.whole ≡ ((meaning_of rule z xs k).told_by y).part) j v w.each (ok.agrees j ∙ sym e)
          (λ k ne. ok.agrees k)

      abbrev before : Telling StateView
      before = record { part = w.whole; letters = sum_of (letters_in rule z xs w) }

      -- the access a has led to the state s of the whole
      pub record GoneTo (a : Access) (s : StateView) : Type 0 where
        pub leads : Leads (lot_meaning rule z xs) before a (record { part = s; letters = sum_of letters })
        pub agrees : (k : Which) → part_in rule z xs k s ≡ ((meaning_of rule z xs k).told_by (each k)).part
        pub counts : counts_in s ≡ counts_of z
        pub reached : IsReached s
        pub ordered : IsOrdered rule.above s
        -- of a thread's access, it alone moves; of a root's, nobody does
        pub moved : (t : ℕ) → doer a ≡ 2 * t → Stands w.whole t s.point (moves_by a (stand_of (w.whole.point t)))
        pub rests : (c : ℕ) → doer a ≡ 2 * c + 1 → s ≡ w.whole

      abbrev pub Gone : Access → Type 0
      Gone a = GoneTo a (whole_by a w.whole)

      stays_put : (t : ℕ) → Stands w.whole t w.whole.point (stand_of (w.whole.point t))
      stays_put t = sym (put_again (told stand_of w.whole.point) t)

      abbrev between : sum_of letters ≡ sum_of (letters_in rule z xs w)
          → ◌≡◌ {A = Telling StateView} (record { part = w.whole; letters = sum_of letters }) before
      between e = λ h. record { part = w.whole; letters = e h }

      gone_by_event : (e : Event) (saw : Seen) → Leads (meaning_of rule z xs j) told_j (Makes e saw) told_v
          → Speaks rule z xs j w (Makes e saw) → Gone (Makes e saw)
      gone_by_event e saw goes speaks =
          let joined = joins rule z xs w.whole e saw ok.reached ok.counts speaks.1 j told_v.part speaks.0
          (subst (λ p. (meaning_of rule z xs j).Step p e saw told_v.part) (sym (ok.agrees j)) goes.0) in
          record {
            leads = ((joined.allowed, joined.saw_is, refl), same_letters goes.1);
            agrees = dput_elim {X = λ k. (meaning_of rule z xs k).World}
                (λ k y. part_in rule z xs k (after w.whole e) ≡ ((meaning_of rule z xs k).told_by y).part) j v w.each joined.part
                (λ k ne. joined.others k ne ∙ ok.agrees k);
            counts = counts_after w.whole e ∙ ok.counts;
            reached = event_kept w.whole e ok.reached joined.allowed;
            ordered = event_ordered rule.above w.whole e ok.ordered joined.allowed (speaks.2 joined.saw_is);
            moved = λ t by. let same : maker e ≡ t = omega (arith, by) in
                subst (λ u. Stands w.whole u (after w.whole e).point (moves e saw (stand_of (w.whole.point u)))) same
                (subst (λ s. Stands w.whole (maker e) (after w.whole e).point (moves e s (stand_of (w.whole.point (maker e)))))
                (sym joined.saw_is)
                (stands_move w.whole e (λ l u h. ((reached_sound w.whole ok.reached).one_line_each.wants l u h).1)));
            rests = λ c by. absurd (omega (arith, by));
          }

      -- a notice leaves the state as it was
      gone_by_notice : (a : Access) → Leads (lot_meaning rule z xs) before a (record { part = w.whole; letters = sum_of letters })
          → told_v.part ≡ told_j.part
          → ((t : ℕ) → doer a ≡ 2 * t → Stands w.whole t w.whole.point (moves_by a (stand_of (w.whole.point t)))) → GoneTo a w.whole
      gone_by_notice a leads part moved = record {
        leads = leads;
        agrees = same_parts part;
        counts = ok.counts;
        reached = ok.reached;
        ordered = ok.ordered;
        moved = moved;
        rests = λ _ _. refl;
      }

      gone_by_collecting : (u : ℕ) (found : Option ℕ) → Leads (meaning_of rule z xs j) told_j (Collects u found) told_v
          → Speaks rule z xs j w (Collects u found) → Gone (Collects u found)
      gone_by_collecting u None goes speaks = gone_by_notice (Collects u None)
          (three_one (letters_in rule z xs w) j u speaks ∙ goes.0, between (same_letters (λ y. (goes.1 y).letters)))
          (λ y. (goes.1 y).part) (λ t by. stays_put t)
      gone_by_collecting u (Some n) goes speaks = gone_by_notice (Collects u (Some n)) (
        three_one (letters_in rule z xs w) j u speaks ∙ goes.0,
        λ h. record { part = w.whole; letters = put_letters u 0 speaks (λ y. (goes.1 y).letters) h },
      )
          (λ y. (goes.1 y).part) (λ t by. stays_put t)

      pub gone : (a : Access) → Leads (meaning_of rule z xs j) told_j a told_v → Speaks rule z xs j w a → Gone a
      gone (Makes e saw) goes speaks = gone_by_event e saw goes speaks
      gone (Posts c u n) goes speaks = gone_by_notice (Posts c u n) (
        three_one (letters_in rule z xs w) j u speaks ∙ goes.0,
        λ h. record { part = w.whole; letters = put_letters u (n + 1) speaks (λ y. (goes.1 y).letters) h },
      )
          (λ y. (goes.1 y).part) (λ t by. absurd (omega (arith, by)))
      gone (Collects u found) goes speaks = gone_by_collecting u found goes speaks
      gone (Finds u c n) goes speaks = gone_by_notice (Finds u c n) (
        goes.0 ∙ (ap (λ p. (meaning_of rule z xs j).word_in p c) (sym (ok.agrees j)) ∙ sym (word_is rule z xs j w.whole c speaks)),
        between (same_letters (λ y. (goes.1 y).letters)),
      )
          (λ y. (goes.1 y).part) (λ t by. stays_put t)
      gone (Counts u c told handed waiting) goes speaks = absurd speaks

      -- ---- the world after the access a
      module _ (pass : ℕ → LotPassView V) (a : Access) (gone : Gone a) where
        abbrev pub next : LotWorld rule z xs
        next = record { each = each; words = words; pass = pass; whole = whole_by a w.whole }

        parts_after : (k : Which) → (meaning_of rule z xs k).Fits (each k) (words k) (homes_in k hs)
        parts_after = dput_two {X = λ k. (meaning_of rule z xs k).World} {Y = λ k. List ℕ}
            (λ k y us. (meaning_of rule z xs k).Fits y us (homes_in k hs)) j v w.each (set (w.words j) i x) w.words fits
            (λ k ne. ok.parts k)

        pub fits_after : ((t : ℕ) → t < z.threads → PassOk rule z xs next t (pass t)) → LotFits rule z xs next (set ws i x) hs
        fits_after passes = record {
          parts = parts_after;
          wide = length-set ws i x ∙ ok.wide;
          keys = keys_after;
          letters = letters_after;
          passes = passes;
          agrees = gone.agrees;
          none_in_line = none_queued rule z xs next hs parts_after passes gone.agrees;
          counts = gone.counts;
          reached = gone.reached;
          ordered = gone.ordered;
        }

        -- a pass that is as it was
        pub pass_stays : (u : ℕ) (p : LotPassView V) → PassOk rule z xs w u p
            → ((y : PassIn V j) → (meaning_of rule z xs j).PassFits (w.each j) u y → (meaning_of rule z xs j).PassFits v u y)
            → stand_of ((whole_by a w.whole).point u) ≡ stand_of (w.whole.point u) → PassOk rule z xs next u p
        pass_stays u p h kind same = record {
          each =
              dput_elim {X = λ k. (meaning_of rule z xs k).World} (λ k y. (meaning_of rule z xs k).PassFits y u (own_of V p k)) j v w.each
              (kind (own_of V p j) (h.each j)) (λ k ne. h.each k);
          apart = h.apart;
          stand = same ∙ h.stand;
        }

        -- the pass of the thread t, which knows this now
        module _ (t : ℕ) (p : LotPassView V) (h : PassOk rule z xs w t p) (own : PassIn V j) (may : MayBeAway j p own) where
          pub pass_turned : (meaning_of rule z xs j).PassFits v t own → stand_of ((whole_by a w.whole).point t) ≡ moves_by a p.stand
              → PassOk rule z xs next t (lot_own j p own a)
          pass_turned fit stands = record {
            each = λ k. subst (λ o. (meaning_of rule z xs k).PassFits (each k) t o)
                (sym (own_from V (dput {X = PassIn V} j own (own_of V p)) (moves_by a p.stand) k))
                (dput_two {X = λ k. (meaning_of rule z xs k).World} {Y = PassIn V}
                (λ k y o. (meaning_of rule z xs k).PassFits y t o) j v w.each own (own_of V p) fit (λ k ne. h.each k) k);
            apart = λ k m up there.
                apart_after V j p h.apart own may k m
                (subst (λ o. away V k o ≡ true) (own_from V (dput {X = PassIn V} j own (own_of V p)) (moves_by a p.stand) k) up)
                (subst (λ o. away V m o ≡ true) (own_from V (dput {X = PassIn V} j own (own_of V p)) (moves_by a p.stand) m) there);
            stand = stands;
          }

        -- ---- roots
        pub roots_after : (d : ℕ) → ((r : RootIn j) → (meaning_of rule z xs j).RootFits (w.each j) d r
            → (meaning_of rule z xs j).RootFits v d r)
            → (y : LotRootView) → LotRootIs rule z xs w d y → LotRootIs rule z xs next d y
        roots_after d kind = by_kind
          where
            every : (k : Which) (r : RootIn k) → (meaning_of rule z xs k).RootFits (w.each k) d r
                → (meaning_of rule z xs k).RootFits (each k) d r
            every = dput_elim {X = λ k. (meaning_of rule z xs k).World}
                (λ k y. (r : RootIn k) → (meaning_of rule z xs k).RootFits (w.each k) d r → (meaning_of rule z xs k).RootFits y d r) j v
                w.each
                kind (λ k ne r h. h)

            by_kind : (y : LotRootView) → LotRootIs rule z xs w d y → LotRootIs rule z xs next d y
            by_kind (Lock r) h = (h.0, every lock r h.1)
            by_kind (Cond r) h = (h.0, every cond r h.1)
            by_kind (Sem r) h = (h.0, every sem r h.1)

        pub root_turned : (d : ℕ) (r : RootIn j) → IsKeyIn z j d → (meaning_of rule z xs j).RootFits v d r
            → LotRootIs rule z xs next d (root_from j r)
        root_turned d r is fit = root_out j next d r is
            (subst (λ y. (meaning_of rule z xs j).RootFits y d r)
            (sym (dput_same {X = λ k. (meaning_of rule z xs k).World} j v w.each)) fit)
