-- What has become of the buckets while keys are moved from the old ones to the new ones.
use Rattle.std.proofs.Common.{◌≡◌, ◌≢◌, ℕ, suc, ◌+◌, ◌<◌, ◌≤◌, ◌%◌, ◌&&◌, true, false, inl, inr, List, [], ◌∷◌, ◌++◌, length, map, get_or}
use Rattle.std.proofs.Common.{set, Option, Some, None, IsSome, refl, sym, ◌∙◌, ap}
use Rattle.std.proofs.Common.{subst, arith, append-nil, append_assoc, drop, Bool, eq-eqb, length-append, get_or-set_same, get_or-set_other}
use Rattle.std.specs.Prelude.{nat_lt, ◌==◌, is_some}
use Rattle.std.proofs.Math.Bool.{and-false}
use Rattle.std.proofs.lemmas.Bool.{ne_eqb, lt-ltb, le-ltb, ltb-true}
use Rattle.std.proofs.lemmas.Bool.Decides.{eqb_tells, leb_tells}
use Rattle.std.proofs.lemmas.List.Sums.{sum_by-set, sum_by-cons, get_or-le-sum_by}
use Rattle.std.proofs.lemmas.List.{get_or_default, length-map, length-set}
use Rattle.lot_bucket.specs.Queue.{line_of, without_first, without_key, first_of}
use Rattle.lot_bucket.specs.Places.{has_key, root_at, with_root}
use Rattle.lot_bucket.specs.Contents.{Contents}
use Rattle.lot_bucket.specs.KeyLine.{KeyLine}
use Rattle.lot_bucket.specs.Agrees.{IsRootOf}
use Rattle.lot_bucket.specs.Taking.{TakesOne}
use Rattle.lot_bucket.specs.declared.taking.Moment.{Moment}
use Rattle.lot_bucket.specs.declared.taking.Dequeued.{Dequeued}
use Rattle.lot_bucket.proofs.Slots.{rootless}
use Rattle.lot_bucket.proofs.Laws.{line_of-without_count_same, without_key-without_first, without_key_none, first_of_line}
use Rattle.lot_bucket.proofs.Laws.{line_of-without_key_same, line_of-without_key_other, line_fits}
use Rattle.lot_bucket.proofs.Laws.{root_at-with_same, root_at-with_other, has_key-with}
use Rattle.lot_table.specs.Buckets.{bucket_of, queued, KeepsLines, AreWhole, AreFilled, AreEmpty, MayRegrow, IsElseAs, AreElseAs}

pub line_of-append : (k : ℕ) (p q : List (ℕ × ℕ)) → line_of k (p ++ q) ≡ line_of k p ++ line_of k q
line_of-append k [] q = refl
line_of-append k (x ∷ p) q =
    elim (eqb_tells x.1 k) [
      | inl e ↦ rw e.0 (ap (λ line. x.0 ∷ line) (line_of-append k p q))
      | inr e ↦ rw e.0 (line_of-append k p q)
    ]

-- the pairs of a line with its key, and with another
pub line_of-pairs_same : (k : ℕ) (line : List ℕ) → line_of k (map (λ (t : ℕ). (t, k)) line) ≡ line
line_of-pairs_same k [] = refl
line_of-pairs_same k (t ∷ line) = rw (eq-eqb k k refl) (ap (λ l. t ∷ l) (line_of-pairs_same k line))

pub line_of-pairs_other : (j k : ℕ) (line : List ℕ) → k ≢ j → line_of j (map (λ (t : ℕ). (t, k)) line) ≡ []
line_of-pairs_other j k [] other = refl
line_of-pairs_other j k (t ∷ line) other = rw (ne_eqb k j other) (line_of-pairs_other j k line other)

-- where no key has a line, nobody waits
pub nobody_waits : (queue : List (ℕ × ℕ)) → ((k : ℕ) → line_of k queue ≡ []) → queue ≡ []
nobody_waits [] none = refl
nobody_waits (p ∷ queue) none = absurd (let h : p.0 ∷ line_of p.1 queue ≡ [] = rw (eq-eqb p.1 p.1 refl) at (none p.1) in cc)

pub length-without_key : (k : ℕ) (queue : List (ℕ × ℕ)) → length (without_key k queue) + length (line_of k queue) ≡ length queue
length-without_key k [] = refl
length-without_key k (p ∷ queue) =
    elim (eqb_tells p.1 k) [
      | inl e ↦ rw e.0 (omega (arith, length-without_key k queue))
      | inr e ↦ rw e.0 (omega (arith, length-without_key k queue))
    ]

-- where a queue is empty everywhere, nobody waits at all
pub none_queued : {R : Type 0} (buckets : List (Contents R))
    → ((i : ℕ) (d : Contents R) → i < length buckets → (get_or buckets i d).queue ≡ []) → queued buckets ≡ 0
none_queued {R = R} [] none = refl
none_queued {R = R} (b ∷ buckets) none =
    sum_by-cons (λ (x : Contents R). length x.queue) b buckets
    ∙ rw (none 0 b (omega arith), none_queued buckets (λ i d lt. none (suc i) d (omega arith))) refl

below_other : (k m : ℕ) → k < m + 1 → m ≢ k → k < m
below_other k m lt other = omega arith

above_other : (k m : ℕ) → m + 1 ≤ k → m ≢ k
above_other k m le e = omega arith

pub no_first : (line : List ℕ) → first_of line ≡ None → line ≡ []
no_first [] none = refl
no_first (t ∷ line) none = absurd cc

-- at the moment 0 nobody is served fairly
pub taken_never : {R : Type 0} (k : ℕ) (moment : Moment) (b c : Contents R) (t : Dequeued) → moment.now ≡ 0 → TakesOne k moment b c t
    → c ≡ record b { queue = without_first k b.queue }
taken_never k moment b c t never takes =
    let unfair : t.fair ≡ false =
    takes.fair ∙ rw (never, le-ltb b.next_fair 0 (omega arith)) (and-false (is_some (first_of (line_of k b.queue)))) in
    rw unfair at takes.left

module _ {R : Type 0} where
  -- while a line is moved, thread by thread
  pub record IsMoving (k : ℕ) (from0 to0 from to : Contents R) : Type 0 where
    pub line : to.queue ++ map (λ (t : ℕ). (t, k)) (line_of k from.queue) ≡ to0.queue ++ map (λ (t : ℕ). (t, k)) (line_of k from0.queue)
    pub others : without_key k from.queue ≡ without_key k from0.queue
    pub from_is : from ≡ record from0 { queue = from.queue }
    pub to_is : to ≡ record to0 { queue = to.queue }
    pub room : length to.queue + length (line_of k from.queue) ≤ to.room

  first_moves : (k t : ℕ) (from : Contents R) → first_of (line_of k from.queue) ≡ Some t
      → line_of k from.queue ≡ t ∷ line_of k (without_first k from.queue)
  first_moves k t from first =
      first_of_line t (line_of k from.queue) (sym first) ∙ ap (λ l. t ∷ l) (sym (line_of-without_count_same 1 k from.queue))

  pub moving_smaller : (k t : ℕ) (from b : Contents R) → first_of (line_of k from.queue) ≡ Some t
      → b ≡ record from { queue = without_first k from.queue }
      → length (line_of k b.queue) < length (line_of k from.queue)
  moving_smaller k t from b first taken =
      let e : length (line_of k from.queue) ≡ suc (length (line_of k (without_first k from.queue))) =
      ap (λ (l : List ℕ). length l) (first_moves k t from first) in
      rw (ap (λ (x : Contents R). x.queue) taken) (omega (arith, e))

  pub moving_more : (k t : ℕ) (from0 to0 from to b c : Contents R) → IsMoving k from0 to0 from to → first_of (line_of k from.queue) ≡ Some t
      → b ≡ record from { queue = without_first k from.queue } → c ≡ record to { queue = to.queue ++ (t, k) ∷ [] }
      → IsMoving k from0 to0 b c
  moving_more k t from0 to0 from to b c i first taken put =
      record {
        line =
            rw (from_queue, to_queue)
            (append_assoc to.queue ((t, k) ∷ []) (map (λ (t : ℕ). (t, k)) (line_of k (without_first k from.queue)))
            ∙ ap (λ (l : List ℕ). to.queue ++ map (λ (t : ℕ). (t, k)) l) (sym step) ∙ i.line);
        others = rw from_queue (without_key-without_first k from.queue ∙ i.others);
        from_is =
            taken ∙ ap (λ (x : Contents R). record x { queue = without_first k from.queue }) i.from_is
            ∙ ap (λ (q : List (ℕ × ℕ)). record from0 { queue = q }) (sym from_queue);
        to_is =
            put ∙ ap (λ (x : Contents R). record x { queue = to.queue ++ (t, k) ∷ [] }) i.to_is
            ∙ ap (λ (q : List (ℕ × ℕ)). record to0 { queue = q }) (sym to_queue);
        room =
            let e : length (line_of k from.queue) ≡ suc (length (line_of k (without_first k from.queue))) =
            ap (λ (l : List ℕ). length l) step in
            let r : c.room ≡ to.room = ap (λ (x : Contents R). x.room) put in
            rw (from_queue, to_queue) (omega (arith, e, r, i.room, length-append to.queue ((t, k) ∷ [])));
      }
    where
      from_queue : b.queue ≡ without_first k from.queue
      from_queue = ap (λ (x : Contents R). x.queue) taken

      to_queue : c.queue ≡ to.queue ++ (t, k) ∷ []
      to_queue = ap (λ (x : Contents R). x.queue) put

      step : line_of k from.queue ≡ t ∷ line_of k (without_first k from.queue)
      step = first_moves k t from first

  -- while a line is taken out, thread by thread
  pub record IsLeaving (k : ℕ) (from0 from : Contents R) : Type 0 where
    pub others : without_key k from.queue ≡ without_key k from0.queue
    pub from_is : from ≡ record from0 { queue = from.queue }

  pub leaving_more : (k : ℕ) (from0 from b : Contents R) → IsLeaving k from0 from
      → b ≡ record from { queue = without_first k from.queue } → IsLeaving k from0 b
  leaving_more k from0 from b i taken =
      let queue : b.queue ≡ without_first k from.queue = ap (λ (x : Contents R). x.queue) taken in
      record {
        others = rw queue (without_key-without_first k from.queue ∙ i.others);
        from_is =
            taken ∙ ap (λ (x : Contents R). record x { queue = without_first k from.queue }) i.from_is
            ∙ ap (λ (q : List (ℕ × ℕ)). record from0 { queue = q }) (sym queue);
      }

  pub leaving_ends : (k : ℕ) (from0 from b : Contents R) → IsLeaving k from0 from → line_of k from.queue ≡ []
      → b ≡ record from { queue = without_first k from.queue }
      → b ≡ record from0 { queue = without_key k from0.queue }
  leaving_ends k from0 from b i none taken =
      let empty : line_of k (without_first k from.queue) ≡ [] = line_of-without_count_same 1 k from.queue ∙ ap (λ l. drop 1 l) none in
      let same : without_first k from.queue ≡ without_key k from0.queue =
      sym (without_key_none k (without_first k from.queue) empty) ∙ without_key-without_first k from.queue ∙ i.others in
      taken ∙ ap (λ (x : Contents R). record x { queue = without_first k from.queue }) i.from_is
      ∙ ap (λ (q : List (ℕ × ℕ)). record from0 { queue = q }) same

  pub moving_ends : (k : ℕ) (from0 to0 from to b : Contents R) → IsMoving k from0 to0 from to → line_of k from.queue ≡ []
      → b ≡ record from { queue = without_first k from.queue }
      → b ≡ record from0 { queue = without_key k from0.queue }
  moving_ends k from0 to0 from to b i none taken =
      leaving_ends k from0 from b (record { others = i.others; from_is = i.from_is }) none taken

  -- an old bucket, once the keys below m were moved
  pub record IsLeft (m : ℕ) (before b : Contents R) : Type 0 where
    pub keys : (k : ℕ) → has_key k b.places ≡ has_key k before.places
    pub gone_line : (k : ℕ) → k < m → line_of k b.queue ≡ []
    pub gone_root : (k : ℕ) → k < m → root_at k b.places ≡ None
    pub kept_line : (k : ℕ) → m ≤ k → line_of k b.queue ≡ line_of k before.queue
    pub kept_root : (k : ℕ) → m ≤ k → root_at k b.places ≡ root_at k before.places

  pub left_here : (m : ℕ) (before b c : Contents R) → has_key m before.places ≡ true → IsLeft m before b
      → c ≡ record b { places = with_root m None b.places; queue = without_key m b.queue } → IsLeft (m + 1) before c
  left_here m before b c has l is =
      record {
        keys = λ k. rw places (has_key-with k m None b.places ∙ l.keys k);
        gone_line = λ k lt. rw queue (elim (eqb_tells m k) [
          | inl e ↦ rw (← e.1) (line_of-without_key_same m b.queue)
          | inr e ↦ line_of-without_key_other k m b.queue e.1 ∙ l.gone_line k (below_other k m lt e.1)
        ]);
        gone_root = λ k lt. rw places (elim (eqb_tells m k) [
          | inl e ↦ rw (← e.1) (root_at-with_same m None b.places (l.keys m ∙ has))
          | inr e ↦ root_at-with_other k m None b.places e.1 ∙ l.gone_root k (below_other k m lt e.1)
        ]);
        kept_line = λ k le. rw queue (line_of-without_key_other k m b.queue (above_other k m le) ∙ l.kept_line k (omega arith));
        kept_root = λ k le. rw places (root_at-with_other k m None b.places (above_other k m le) ∙ l.kept_root k (omega arith));
      }
    where
      places : c.places ≡ with_root m None b.places
      places = ap (λ (x : Contents R). x.places) is

      queue : c.queue ≡ without_key m b.queue
      queue = ap (λ (x : Contents R). x.queue) is

  pub left_there : (m : ℕ) (before b : Contents R) → line_of m before.queue ≡ [] → root_at m before.places ≡ None → IsLeft m before b
      → IsLeft (m + 1) before b
  left_there m before b nobody rootless l =
      record {
        keys = l.keys;
        gone_line = λ k lt. elim (eqb_tells m k) [
          | inl e ↦ rw (← e.1) (l.kept_line m (omega arith) ∙ nobody)
          | inr e ↦ l.gone_line k (below_other k m lt e.1)
        ];
        gone_root = λ k lt. elim (eqb_tells m k) [
          | inl e ↦ rw (← e.1) (l.kept_root m (omega arith) ∙ rootless)
          | inr e ↦ l.gone_root k (below_other k m lt e.1)
        ];
        kept_line = λ k le. l.kept_line k (omega arith);
        kept_root = λ k le. l.kept_root k (omega arith);
      }

  -- new bucket i of so many, once the keys below m were moved there from the old buckets
  pub record HasCome (m size i : ℕ) (old : List (Contents R)) (before b : Contents R) : Type 0 where
    pub keys : (k : ℕ) → has_key k b.places ≡ has_key k before.places
    pub room : b.room ≡ before.room
    pub come_line : (k : ℕ) (d : Contents R) → k < m → k % size ≡ i → line_of k b.queue ≡ line_of k (bucket_of k old d).queue
    pub come_root : (k : ℕ) (d : Contents R) → k < m → k % size ≡ i → root_at k b.places ≡ root_at k (bucket_of k old d).places
    pub no_line : (k : ℕ) → (k < m → k % size ≢ i) → line_of k b.queue ≡ []
    pub no_root : (k : ℕ) → (k < m → k % size ≢ i) → root_at k b.places ≡ None

  -- the new bucket of the key m, to which the line and the root come that m had among the old buckets
  module _ (m size : ℕ) (old : List (Contents R)) (before b c : Contents R) (line : List ℕ) (root : Option R)
      (has : has_key m before.places ≡ true) (h : HasCome m size (m % size) old before b)
      (same_line : (d : Contents R) → line ≡ line_of m (bucket_of m old d).queue)
      (same_root : (d : Contents R) → root ≡ root_at m (bucket_of m old d).places)
      (is : c ≡ record b { places = with_root m root b.places; queue = b.queue ++ map (λ (t : ℕ). (t, m)) line }) where
    -- the root comes to the places, and the line behind the queue
    places : c.places ≡ with_root m root b.places
    places = ap (λ (x : Contents R). x.places) is

    queue : c.queue ≡ b.queue ++ map (λ (t : ℕ). (t, m)) line
    queue = ap (λ (x : Contents R). x.queue) is

    -- there m has this line, and this root
    own_line : line_of m c.queue ≡ line
    own_line =
        rw (queue, line_of-append m b.queue (map (λ (t : ℕ). (t, m)) line), h.no_line m (λ lt. absurd (omega arith)))
        (line_of-pairs_same m line)

    own_root : root_at m c.places ≡ root
    own_root = rw places (root_at-with_same m root b.places (h.keys m ∙ has))

    -- other keys have theirs
    other_line : (k : ℕ) → m ≢ k → line_of k c.queue ≡ line_of k b.queue
    other_line k other =
        rw (queue, line_of-append k b.queue (map (λ (t : ℕ). (t, m)) line), line_of-pairs_other k m line other)
        (append-nil (line_of k b.queue))

    other_root : (k : ℕ) → m ≢ k → root_at k c.places ≡ root_at k b.places
    other_root k other = rw places (root_at-with_other k m root b.places other)

    -- a key that has not come here is not m
    not_own : (k : ℕ) → (k < m + 1 → k % size ≢ m % size) → m ≢ k
    not_own k none e = none (omega arith) (ap (λ (n : ℕ). n % size) (sym e))

    -- so one key more has come
    pub come_here : HasCome (m + 1) size (m % size) old before c
    come_here =
        record {
          keys = λ k. rw places (has_key-with k m root b.places ∙ h.keys k);
          room = ap (λ (x : Contents R). x.room) is ∙ h.room;
          come_line = λ k d lt at. elim (eqb_tells m k) [
            | inl e ↦ rw (← e.1) (own_line ∙ same_line d)
            | inr e ↦ other_line k e.1 ∙ h.come_line k d (below_other k m lt e.1) at
          ];
          come_root = λ k d lt at. elim (eqb_tells m k) [
            | inl e ↦ rw (← e.1) (own_root ∙ same_root d)
            | inr e ↦ other_root k e.1 ∙ h.come_root k d (below_other k m lt e.1) at
          ];
          no_line = λ k none. other_line k (not_own k none) ∙ h.no_line k (λ lt. none (omega arith));
          no_root = λ k none. other_root k (not_own k none) ∙ h.no_root k (λ lt. none (omega arith));
        }

  pub come_there : (m size i : ℕ) (old : List (Contents R)) (before b : Contents R) → m % size ≢ i → HasCome m size i old before b
      → HasCome (m + 1) size i old before b
  come_there m size i old before b elsewhere h =
      record {
        keys = h.keys;
        room = h.room;
        come_line = λ k d lt at. h.come_line k d (below_other k m lt (not_here k at)) at;
        come_root = λ k d lt at. h.come_root k d (below_other k m lt (not_here k at)) at;
        no_line = λ k none. h.no_line k (λ lt. none (omega arith));
        no_root = λ k none. h.no_root k (λ lt. none (omega arith));
      }
    where
      not_here : (k : ℕ) → k % size ≡ i → m ≢ k
      not_here k at e = elsewhere (ap (λ (n : ℕ). n % size) e ∙ at)

  -- old buckets, once the keys below m were moved
  abbrev pub AreLeft : ℕ → List (Contents R) → List (Contents R) → Type 0
  AreLeft m old0 old = (i : ℕ) (d : Contents R) → i < length old0 → IsLeft m (get_or old0 i d) (get_or old i d)

  pub left_begins : (old : List (Contents R)) → AreLeft 0 old old
  left_begins old i d lt =
      record {
        keys = λ k. refl;
        gone_line = λ k l. absurd (omega arith);
        gone_root = λ k l. absurd (omega arith);
        kept_line = λ k le. refl;
        kept_root = λ k le. refl;
      }

  pub some_left : (m : ℕ) (old0 old : List (Contents R)) (j : ℕ) (c : Contents R) → length old ≡ length old0
      → ((i : ℕ) (d : Contents R) → i < length old0 → i ≢ j → line_of m (get_or old0 i d).queue ≡ [])
      → ((i : ℕ) (d : Contents R) → i < length old0 → i ≢ j → root_at m (get_or old0 i d).places ≡ None)
      → ((d : Contents R) → IsLeft (m + 1) (get_or old0 j d) c)
      → AreLeft m old0 old → AreLeft (m + 1) old0 (set old j c)
  some_left m old0 old j c len nobody rootless here left i d bound =
      elim (eqb_tells i j) [
        | inl e ↦ rw (← e.1, get_or-set_same old i c d (omega (arith, len))) (rw (← e.1) at (here d))
        | inr e ↦ rw (get_or-set_other old j i c d e.1)
            (left_there m (get_or old0 i d) (get_or old i d) (nobody i d bound e.1) (rootless i d bound e.1) (left i d bound))
      ]

  -- the buckets of both tables, once the keys below m were moved
  pub record AreMoved (m : ℕ) (old0 new0 old new : List (Contents R)) : Type 0 where
    pub old_len : length old ≡ length old0
    pub new_len : length new ≡ length new0
    pub left : AreLeft m old0 old
    pub come : (i : ℕ) (d : Contents R) → i < length new0 → HasCome m (length new0) i old0 (get_or new0 i d) (get_or new i d)
    pub all : queued old + queued new ≡ queued old0
    pub else_old : AreElseAs old0 old
    pub else_new : AreElseAs new0 new

  else_same : (from b : Contents R) (ps : List (ℕ × Option R)) (q : List (ℕ × ℕ))
      → b ≡ record from { places = ps; queue = q } → IsElseAs from b
  else_same from b ps q is =
      record {
        room = ap (λ (x : Contents R). x.room) is;
        opened = ap (λ (x : Contents R). x.opened) is;
        next_fair = ap (λ (x : Contents R). x.next_fair) is;
      }

  pub some_else : (before now : List (Contents R)) (j : ℕ) (r c : Contents R) → length now ≡ length before → j < length before
      → IsElseAs (get_or now j r) c → AreElseAs before now → AreElseAs before (set now j c)
  some_else before now j r c len at own so_far i d bound =
      elim (eqb_tells i j) [
        | inl e ↦
            let here = so_far j d at in
            let it = get_or_default now j r d (omega (arith, len, at)) in
            rw (e.1, get_or-set_same now j c d (omega (arith, len, at))) (record {
              room = own.room ∙ ap (λ (x : Contents R). x.room) it ∙ here.room;
              opened = own.opened ∙ ap (λ (x : Contents R). x.opened) it ∙ here.opened;
              next_fair = own.next_fair ∙ ap (λ (x : Contents R). x.next_fair) it ∙ here.next_fair;
            })
        | inr e ↦ rw (get_or-set_other now j i c d e.1) (so_far i d bound)
      ]

  pub some_come : (m : ℕ) (old0 new0 old new : List (Contents R)) (j : ℕ) (c : Contents R) → j ≡ m % length new0 → j < length new0
      → ((d : Contents R) → HasCome (m + 1) (length new0) j old0 (get_or new0 j d) c)
      → AreMoved m old0 new0 old new
      → (i : ℕ) (d : Contents R) → i < length new0 → HasCome (m + 1) (length new0) i old0 (get_or new0 i d) (get_or (set new j c) i d)
  some_come m old0 new0 old new j c is lt here a i d bound =
      elim (eqb_tells i j) [
        | inl e ↦ rw (e.1, get_or-set_same new j c d (omega (arith, a.new_len))) (here d)
        | inr e ↦ rw (get_or-set_other new j i c d e.1)
            (come_there m (length new0) i old0 (get_or new0 i d) (get_or new i d) (λ f. e.1 (sym f ∙ sym is)) (a.come i d bound))
      ]

  -- the sum of what waits stays
  pub as_many : (old new : List (Contents R)) (i j : ℕ) (from to r s b c : Contents R) (k : ℕ) → i < length old → j < length new
      → from ≡ get_or old i r → to ≡ get_or new j s
      → b.queue ≡ without_key k from.queue → c.queue ≡ to.queue ++ map (λ (t : ℕ). (t, k)) (line_of k from.queue)
      → queued (set old i b) + queued (set new j c) ≡ queued old + queued new
  as_many old new i j from to r s b c k lt_i lt_j is_from is_to left come =
      let less : queued (set old i b) + length (get_or old i r).queue ≡ queued old + length b.queue =
      sum_by-set (λ (x : Contents R). length x.queue) old i b r lt_i in
      let more : queued (set new j c) + length (get_or new j s).queue ≡ queued new + length c.queue =
      sum_by-set (λ (x : Contents R). length x.queue) new j c s lt_j in
      let f : length from.queue ≡ length (get_or old i r).queue = ap (λ (x : Contents R). length x.queue) is_from in
      let g : length to.queue ≡ length (get_or new j s).queue = ap (λ (x : Contents R). length x.queue) is_to in
      let l : length b.queue ≡ length (without_key k from.queue) = ap (λ (q : List (ℕ × ℕ)). length q) left in
      let put : length c.queue ≡ length to.queue + length (line_of k from.queue) =
      ap (λ (q : List (ℕ × ℕ)). length q) come ∙ length-append to.queue (map (λ (t : ℕ). (t, k)) (line_of k from.queue))
      ∙ ap (λ (n : ℕ). length to.queue + n) (length-map (line_of k from.queue) (λ (t : ℕ). (t, k))) in
      omega (arith, length-without_key k from.queue)

pub has_own : (k size i n : ℕ) (has : Bool) → has ≡ (k % size == i && nat_lt k n) → k % size ≡ i → k < n → has ≡ true
has_own k size i n has laid at lt = laid ∙ rw (eq-eqb (k % size) i at, lt-ltb k n lt) refl

has_not : (k size i n : ℕ) (has : Bool) → has ≡ (k % size == i && nat_lt k n) → k % size ≢ i → has ≡ false
has_not k size i n has laid at = laid ∙ rw (ne_eqb (k % size) i at) refl

has_past : (k size i n : ℕ) (has : Bool) → has ≡ (k % size == i && nat_lt k n) → n ≤ k → has ≡ false
has_past k size i n has laid le =
    elim (eqb_tells (k % size) i) [ inl e ↦ laid ∙ rw (e.0, le-ltb k n le) refl | inr e ↦ laid ∙ rw e.0 refl ]

pub own_of_has : (k size i n : ℕ) (has : Bool) → has ≡ (k % size == i && nat_lt k n) → has ≡ true → (k % size ≡ i) × (k < n)
own_of_has k size i n has laid own =
    elim (eqb_tells (k % size) i) [
      | inl e ↦ (e.1, ltb-true k n (let h = sym laid ∙ own in rw e.0 at h))
      | inr e ↦ absurd (let h = sym laid ∙ own in let f : false ≡ true = rw e.0 at h in cc)
    ]

-- open buckets are those of one number of keys
at_most : {R : Type 0} (view : R → KeyLine) (n m : ℕ) (buckets : List (Contents R)) (d : Contents R) → 0 < length buckets
    → AreWhole view n buckets → AreWhole view m buckets → n ≤ m
at_most view n m buckets d some whole other =
    elim (leb_tells n m) [
      | inl e ↦ e.1
      | inr e ↦
          let at : m % length buckets < length buckets = omega arith in
          absurd (let f : true ≡ false =
          sym (has_own m (length buckets) (m % length buckets) n _ ((whole (m % length buckets) d at).laid_out m) refl e.1)
          ∙ has_past m (length buckets) (m % length buckets) m _ ((other (m % length buckets) d at).laid_out m) (omega arith) in cc)
    ]

pub one_number : {R : Type 0} (view : R → KeyLine) (n m : ℕ) (buckets : List (Contents R)) → 0 < length buckets → AreWhole view n buckets
    → AreWhole view m buckets → n ≡ m
one_number {R} view n m buckets some whole other =
    let d : Contents R = record { room = 0; places = []; queue = []; opened = false; next_fair = 0 } in
    let le : n ≤ m = at_most view n m buckets d some whole other in
    let ge : m ≤ n = at_most view m n buckets d some other whole in omega arith

module _ {R : Type 0} (view : R → KeyLine) (n : ℕ) (old0 : List (Contents R)) (whole : AreWhole view n old0) where
  pub nobody_else : (m i : ℕ) (d : Contents R) → i < length old0 → i ≢ m % length old0 → line_of m (get_or old0 i d).queue ≡ []
  nobody_else m i d lt other =
      (whole i d lt).agrees.pairs m (has_not m (length old0) i n _ ((whole i d lt).laid_out m) (λ e. other (sym e)))

  pub no_root_else : (m i : ℕ) (d : Contents R) → i < length old0 → i ≢ m % length old0 → root_at m (get_or old0 i d).places ≡ None
  no_root_else m i d lt other =
      rootless m (get_or old0 i d).places (has_not m (length old0) i n _ ((whole i d lt).laid_out m) (λ e. other (sym e)))

  pub nobody_past : (k : ℕ) (i : ℕ) (d : Contents R) → i < length old0 → n ≤ k → line_of k (get_or old0 i d).queue ≡ []
  nobody_past k i d lt le = (whole i d lt).agrees.pairs k (has_past k (length old0) i n _ ((whole i d lt).laid_out k) le)

  pub no_root_past : (k : ℕ) (i : ℕ) (d : Contents R) → i < length old0 → n ≤ k → root_at k (get_or old0 i d).places ≡ None
  no_root_past k i d lt le = rootless k (get_or old0 i d).places (has_past k (length old0) i n _ ((whole i d lt).laid_out k) le)

  -- where all keys were moved, nothing is left
  pub emptied : (old : List (Contents R)) → length old ≡ length old0 → AreLeft n old0 old → AreEmpty view old
  emptied old len left i d bound =
      let lt : i < length old0 = omega (arith, len) in
      let l = left i d lt in
      record {
        rootless = λ k. elim (leb_tells n k) [
          | inl e ↦ l.kept_root k e.1 ∙ no_root_past k i d lt e.1
          | inr e ↦ l.gone_root k e.1
        ];
        empty = nobody_waits (get_or old i d).queue (λ k. elim (leb_tells n k) [
          | inl e ↦ l.kept_line k e.1 ∙ nobody_past k i d lt e.1
          | inr e ↦ l.gone_line k e.1
        ]);
      }

module _ {R : Type 0} (view : R → KeyLine) (n : ℕ) (old0 new0 : List (Contents R)) (may : MayRegrow view n old0 new0) where
  pub moved_begins : AreMoved 0 old0 new0 old0 new0
  moved_begins =
      record {
        old_len = refl;
        new_len = refl;
        left = left_begins old0;
        come = λ i d lt. record {
          keys = λ k. refl;
          room = refl;
          come_line = λ k e l at. absurd (omega arith);
          come_root = λ k e l at. absurd (omega arith);
          no_line = λ k none. ap (λ q. line_of k q) (may.fresh i d lt).empty;
          no_root = λ k none. (may.fresh i d lt).rootless k;
        };
        all = rw (none_queued new0 (λ i d lt. (may.fresh i d lt).empty)) (omega arith);
        else_old = λ i d lt. record { room = refl; opened = refl; next_fair = refl };
        else_new = λ i d lt. record { room = refl; opened = refl; next_fair = refl };
      }

  module _ (m : ℕ) (old new : List (Contents R)) (a : AreMoved m old0 new0 old new) where
    -- whether key m is one of the keys
    pub is_key : (r : Contents R) → has_key m (get_or old (m % length old0) r).places ≡ true → m < n
    is_key r has =
        let at : m % length old0 < length old0 = omega (arith, may.some_old) in
        let there : has_key m (get_or old0 (m % length old0) r).places ≡ true = sym ((a.left (m % length old0) r at).keys m) ∙ has in
        (own_of_has m (length old0) (m % length old0) n _ ((may.whole (m % length old0) r at).laid_out m) there).1

    pub no_key : (r : Contents R) → has_key m (get_or old (m % length old0) r).places ≡ false → n ≤ m
    no_key r has =
        elim (leb_tells n m) [
          | inl e ↦ e.1
          | inr e ↦
              let at : m % length old0 < length old0 = omega (arith, may.some_old) in
              let own : has_key m (get_or old0 (m % length old0) r).places ≡ true =
              has_own m (length old0) (m % length old0) n _ ((may.whole (m % length old0) r at).laid_out m) refl e.1 in
              absurd (let f : true ≡ false = sym own ∙ sym ((a.left (m % length old0) r at).keys m) ∙ has in cc)
        ]

    module _ (r s : Contents R) (lt : m < n) where
      abbrev from : Contents R
      from = get_or old (m % length old0) r

      abbrev to : Contents R
      to = get_or new (m % length new0) s

      at_old : m % length old0 < length old0
      at_old = omega (arith, may.some_old)

      at_new : m % length new0 < length new0
      at_new = omega (arith, may.some_new)

      left_now : (d : Contents R) → IsLeft m (get_or old0 (m % length old0) d) from
      left_now d = rw (get_or_default old (m % length old0) r d (omega (arith, a.old_len, at_old))) (a.left (m % length old0) d at_old)

      come_now : (d : Contents R) → HasCome m (length new0) (m % length new0) old0 (get_or new0 (m % length new0) d) to
      come_now d = rw (get_or_default new (m % length new0) s d (omega (arith, a.new_len, at_new))) (a.come (m % length new0) d at_new)

      own_old : (d : Contents R) → has_key m (get_or old0 (m % length old0) d).places ≡ true
      own_old d = has_own m (length old0) (m % length old0) n _ ((may.whole (m % length old0) d at_old).laid_out m) refl lt

      own_new : (d : Contents R) → has_key m (get_or new0 (m % length new0) d).places ≡ true
      own_new d = has_own m (length new0) (m % length new0) n _ ((may.fresh (m % length new0) d at_new).laid_out m) refl lt

      pub may_root : IsSome (root_at m from.places)
      may_root =
          let own = (may.whole (m % length old0) r at_old).agrees.roots m (own_old r) in
          rw ((left_now r).kept_root m (omega arith) ∙ own.1) refl

      pub may_has : has_key m to.places ≡ true
      may_has = (come_now s).keys m ∙ own_new s

      pub may_free : root_at m to.places ≡ None
      may_free = (come_now s).no_root m (λ l. absurd (omega arith))

      pub may_room : length to.queue + length (line_of m from.queue) ≤ to.room
      may_room =
          let f : length from.queue ≤ queued old =
          get_or-le-sum_by (λ (x : Contents R). length x.queue) old (m % length old0) r (omega (arith, a.old_len, at_old)) in
          let t : length to.queue ≤ queued new =
          get_or-le-sum_by (λ (x : Contents R). length x.queue) new (m % length new0) s (omega (arith, a.new_len, at_new)) in
          let room : to.room ≡ may.threads = (come_now s).room ∙ (may.fresh (m % length new0) s at_new).room in
          omega (arith, line_fits m from.queue, a.all, may.room)

      pub moved_more : (b c : Contents R)
          → b ≡ record from { places = with_root m None from.places; queue = without_key m from.queue }
          → c ≡ record to {
            places = with_root m (root_at m from.places) to.places;
            queue = to.queue ++ map (λ (t : ℕ). (t, m)) (line_of m from.queue);
          }
          → AreMoved (m + 1) old0 new0 (set old (m % length old0) b) (set new (m % length new0) c)
      moved_more b c left come =
          record {
            old_len = length-set old (m % length old0) b ∙ a.old_len;
            new_len = length-set new (m % length new0) c ∙ a.new_len;
            left =
                some_left m old0 old (m % length old0) b a.old_len (nobody_else view n old0 may.whole m)
                (no_root_else view n old0 may.whole m)
                (λ d. left_here m (get_or old0 (m % length old0) d) from b (own_old d) (left_now d) left) a.left;
            come = some_come m old0 new0 old new (m % length new0) c refl at_new
                (λ d. come_here m (length new0) old0 (get_or new0 (m % length new0) d) to c (line_of m from.queue) (root_at m from.places)
                (own_new d) (come_now d)
                (λ e. (left_now e).kept_line m (omega arith)) (λ e. (left_now e).kept_root m (omega arith)) come) a;
            all =
                as_many old new (m % length old0) (m % length new0) from to r s b c m (omega (arith, a.old_len, at_old))
                (omega (arith, a.new_len, at_new)) refl refl
                (ap (λ (x : Contents R). x.queue) left) (ap (λ (x : Contents R). x.queue) come) ∙ a.all;
            else_old = some_else old0 old (m % length old0) r b a.old_len at_old (else_same from b _ _ left) a.else_old;
            else_new = some_else new0 new (m % length new0) s c a.new_len at_new (else_same to c _ _ come) a.else_new;
          }

  pub moved_ends : (m : ℕ) (old new : List (Contents R)) → m ≤ n → n ≤ m → AreMoved m old0 new0 old new → AreMoved n old0 new0 old new
  moved_ends m old new le ge a = let same : m ≡ n = omega arith in subst (λ (x : ℕ). AreMoved x old0 new0 old new) same a

  module _ (old new : List (Contents R)) (a : AreMoved n old0 new0 old new) where
    pub moved_lines : KeepsLines old0 new
    moved_lines k d =
        let at_old : k % length old0 < length old0 = omega (arith, may.some_old) in
        let at_new : k % length new0 < length new0 = omega (arith, may.some_new) in
        let come = a.come (k % length new0) d at_new in
        rw (a.new_len) (elim (leb_tells n k) [
          | inl e ↦ (
            come.no_line k (λ lt. absurd (omega (arith, e.1))) ∙ sym (nobody_past view n old0 may.whole k (k % length old0) d at_old e.1),
            come.no_root k
                (λ lt. absurd (omega (arith, e.1))) ∙ sym (no_root_past view n old0 may.whole k (k % length old0) d at_old e.1),
          )
          | inr e ↦ (come.come_line k d e.1 refl, come.come_root k d e.1 refl)
        ])

    pub moved_filled : AreFilled view n new
    moved_filled i d bound =
        let lt : i < length new0 = omega (arith, a.new_len) in
        let come = a.come i d lt in
        let laid : (k : ℕ) → has_key k (get_or new i d).places ≡ (k % length new0 == i && nat_lt k n) =
        λ k. come.keys k ∙ (may.fresh i d lt).laid_out k in
        rw (a.new_len) (record {
          agrees = record {
            roots = in_place i d lt;
            pairs = λ k none. come.no_line k
                (λ l at. absurd (let f : true ≡ false = sym (has_own k (length new0) i n _ (laid k) at l) ∙ none in cc));
          };
          laid_out = laid;
        })
      where
        in_place : (i : ℕ) (d : Contents R) → i < length new0 → (k : ℕ) → has_key k (get_or new i d).places ≡ true
            → (root : R) × (root_at k (get_or new i d).places ≡ Some root)
            × IsRootOf view k (get_or new i d).queue root
        in_place i d lt k has =
            let come = a.come i d lt in
            let is = own_of_has k (length new0) i n _ (come.keys k ∙ (may.fresh i d lt).laid_out k) has in
            let at_old : k % length old0 < length old0 = omega (arith, may.some_old) in
            let whole = may.whole (k % length old0) d at_old in
            let own = whole.agrees.roots k (has_own k (length old0) (k % length old0) n _ (whole.laid_out k) refl is.1) in (
              own.0,
              come.come_root k d is.1 is.0 ∙ own.1,
              record { named = own.2.named; same_line = own.2.same_line ∙ sym (come.come_line k d is.1 is.0); paid = own.2.paid },
            )

    pub moved_empty : AreEmpty view old
    moved_empty = emptied view n old0 may.whole old a.old_len a.left

    pub moved_filled_for : (keys : ℕ) → AreWhole view keys old0 → AreFilled view keys new
    moved_filled_for keys whole =
        subst (λ (x : ℕ). AreFilled view x new) (one_number view n keys old0 may.some_old may.whole whole) moved_filled
