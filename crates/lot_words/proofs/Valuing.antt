-- The lawful values stay lawful.
use Rattle.std.proofs.Common.{◌≡◌, ◌≢◌, ℕ, ◌<◌, Bool, List, length, set, Option, refl, sym, ap, subst, ◌∙◌, length-set, arith}
use Rattle.std.proofs.Common.{get_or-set_same, get_or-set_other}
use mathlib.Core.Option.{some, some-injective}
use mathlib.Core.Option as maybe
use lib.ListN.{get_elem?}
use Rattle.atomic_table.proofs.Lists.{set_here, set_else}
use Rattle.lot_core.specs.Model.{put}
use Rattle.lot_core.proofs.Put.{put_same}
use Rattle.lot_rights.proofs.Puts.{put_elim}
use Rattle.lot_words.specs.declared.views.Hold.TheVariants.{NotHeld, Held}
use Rattle.lot_words.specs.declared.views.LockPassView.{LockPassView}
use Rattle.lot_words.specs.declared.views.Place.{Place}
use Rattle.lot_words.specs.declared.views.Place.TheVariants.{InSlot}
use Rattle.lot_words.specs.CallersRule.{CallersRule}
use Rattle.lot_words.specs.World.{IsHeld, Holds}
use Rattle.lot_words.specs.Values.{home_of, IsIn, HasSeen, MayBecome, MayLie, FoundOk, OwnerOk, SeenOk, ValueOk, IsLawful}
use Rattle.lot_words.specs.Calls.{owning, letting_go, placing}

-- two passes know the same of the lock k
pub record SameOf {V : Type 0} (k : ℕ) (p p' : LockPassView V) : Type 0 where
  pub down : Holds p' k → Holds p k
  pub up : Holds p k → Holds p' k
  pub places : get_elem? p'.places k ≡ get_elem? p.places k
  pub seen : get_elem? p'.seen k ≡ get_elem? p.seen k

pub same_of : {V : Type 0} (k : ℕ) (p : LockPassView V) → SameOf k p p
same_of k p = record { down = λ h. h; up = λ h. h; places = refl; seen = refl }

module _ {V Part : Type 0} (rule : CallersRule V Part) where
  -- a lock of which all know the same
  same_value : (n : ℕ) (pass pass' : ℕ → LockPassView V) (homes homes' : List (maybe.Option (Option V))) (k : ℕ) (x : V)
      → ((u : ℕ) → SameOf k (pass u) (pass' u))
      → get_elem? homes' k ≡ get_elem? homes k
      → ValueOk rule n pass homes k x → ValueOk rule n pass' homes' k x
  same_value n pass pass' homes homes' k x same home ok = record {
    kept = ok.kept;
    idle = λ nobody. home ∙ ok.idle (λ u h. nobody u ((same u).up h));
    owned = λ u h. let o = ok.owned u ((same u).down h) in record {
      place = o.place;
      place_is = (same u).places ∙ o.place_is;
      home = home ∙ o.home;
      found = (same u).seen ∙ o.found;
      lawful = o.lawful;
    };
    seen = λ u near. let s = ok.seen u near in
        record { seen = s.seen; seen_is = (same u).seen ∙ s.seen_is; grown = s.grown; mine = λ away. s.mine (λ h. away ((same u).up h)) };
    witness = let w = ok.witness in (w.0, (w.1.0, (same w.0).seen ∙ w.1.1));
  }

  module _ (n m : ℕ) (pass : ℕ → LockPassView V) (homes : List (maybe.Option (Option V))) (ok : IsLawful rule n m pass homes) (t : ℕ) where
    abbrev pub IsAsWide : LockPassView V → Type 0
    IsAsWide p = (length p.places ≡ length (pass t).places) × (length p.seen ≡ length (pass t).seen)

    wide_on : (p : LockPassView V) → IsAsWide p → (u : ℕ) → u < n
        → (length (put pass t p u).places ≡ m) × (length (put pass t p u).seen ≡ m)
    wide_on p wide u near = put_elim (λ z. (length z.places ≡ m) × (length z.seen ≡ m)) pass t p u
        (λ e. let a = subst (λ z. (length (pass z).places ≡ m) × (length (pass z).seen ≡ m)) e (ok.wide u near) in
        (wide.0 ∙ a.0, wide.1 ∙ a.1)) (λ _. ok.wide u near)

    same_on : (k : ℕ) (p : LockPassView V) → SameOf k (pass t) p → (u : ℕ) → SameOf k (pass u) (put pass t p u)
    same_on k p same u =
        put_elim (SameOf k (pass u)) pass t p u (λ e. subst (λ z. SameOf k (pass z) p) (sym e) same) (λ _. same_of k (pass u))

    -- nobody learns of a value, gets a lock or lets one go
    pub same_values : (p : LockPassView V) → ((k : ℕ) → SameOf k (pass t) p) → IsAsWide p → IsLawful rule n m (put pass t p) homes
    same_values p same wide = record {
      value = ok.value;
      deep = ok.deep;
      wide = wide_on p wide;
      each = λ k near. same_value n pass (put pass t p) homes homes k (ok.value k) (same_on k p (same k)) refl (ok.each k near);
    }

    -- what t knows, and the slots, change at l alone, whose value is now y
    changes_at : (l : ℕ) (p : LockPassView V) (homes' : List (maybe.Option (Option V))) (y : V) → ((k : ℕ) → k ≢ l → SameOf k (pass t) p)
        → ((k : ℕ) → k ≢ l → get_elem? homes' k ≡ get_elem? homes k)
        → length homes' ≡ length homes → IsAsWide p → ValueOk rule n (put pass t p) homes' l y → IsLawful rule n m (put pass t p) homes'
    changes_at l p homes' y same home deep wide at = record {
      value = put ok.value l y;
      deep = deep ∙ ok.deep;
      wide = wide_on p wide;
      each =
          λ k near. put_elim (ValueOk rule n (put pass t p) homes' k) ok.value l y k
          (λ e. subst (λ z. ValueOk rule n (put pass t p) homes' z y) (sym e) at)
          (λ ne. same_value n pass (put pass t p) homes homes' k (ok.value k) (same_on k p (same k ne)) (home k ne) (ok.each k near));
    }

    module _ (near : t < n) (l : ℕ) (here : l < m) where
      in_places : l < length (pass t).places
      in_places = let w = ok.wide t near in omega (arith, w.0)

      in_seen : l < length (pass t).seen
      in_seen = let w = ok.wide t near in omega (arith, w.1)

      -- what t finds keeps the rule, and goes on from what it had seen
      pub finds_value : l < length (pass t).holds → ¬ Holds (pass t) l → FoundOk rule l t (pass t) (ok.value l)
      finds_value long away = let e = ok.each l here in let s = e.seen t near in record {
        tells = record { holds = long; places = in_places; seen = in_seen };
        kept = e.kept;
        grown = λ x at. subst (λ v. rule.grows v (ok.value l)) (some-injective s.seen x (sym s.seen_is ∙ at)) s.grown;
        mine = λ x at. subst (λ v. rule.part t v ≡ rule.part t (ok.value l)) (some-injective s.seen x (sym s.seen_is ∙ at)) (s.mine away);
      }

      -- what t has of l, which it holds
      pub owns_value : Holds (pass t) l → OwnerOk rule homes l t (pass t) (ok.value l)
      owns_value h = (ok.each l here).owned t h

      -- t gets l, which nobody has: it holds it then, with the value that it found, asleep or awake
      pub gets_value : ((u : ℕ) → ¬ Holds (pass u) l) → l < length (pass t).holds → (asleep : Bool)
          → IsLawful rule n m (put pass t (record (owning (pass t) l (ok.value l)) { asleep = asleep })) homes
      gets_value nobody long asleep =
          let e = ok.each l here in
          let x = ok.value l in
          let p : LockPassView V = record (owning (pass t) l x) { asleep = asleep } in
          let mine : Holds p l = subst IsHeld (sym (get_or-set_same (pass t).holds l Held NotHeld long)) tt in
          let lies : IsIn p l x = set_here (pass t).places l (InSlot x) in_places in
          let seen : HasSeen p l x = set_here (pass t).seen l x in_seen in
          changes_at l p homes x
          (λ k ne. record {
            down = λ h. subst IsHeld (get_or-set_other (pass t).holds l k Held NotHeld ne) h;
            up = λ h. subst IsHeld (sym (get_or-set_other (pass t).holds l k Held NotHeld ne)) h;
            places = set_else (pass t).places l k (InSlot x) ne;
            seen = set_else (pass t).seen l k x ne;
          })
          (λ k ne. refl) refl (length-set (pass t).places l (InSlot x), length-set (pass t).seen l x)
          (record {
            kept = e.kept;
            idle = λ away. absurd (away t (subst (λ z. Holds z l) (sym (put_same pass t p)) mine));
            owned = λ u. put_elim (λ z. Holds z l → OwnerOk rule homes l u z x) pass t p u
                (λ _ _. record {
                  place = InSlot x;
                  place_is = lies;
                  home = e.idle nobody;
                  found = seen;
                  lawful = record { kept = e.kept; grown = rule.grows_itself x; others = λ w ne. refl };
                })
                (λ _ h. absurd (nobody u h));
            seen =
                λ u u_near. put_elim (λ z. SeenOk rule l u z x) pass t p u
                (λ _. record { seen = x; seen_is = seen; grown = rule.grows_itself x; mine = λ away. refl }) (λ _. e.seen u u_near);
            witness = (t, (near, subst (λ z. HasSeen z l x) (sym (put_same pass t p)) seen));
          })

      module _ (holds : Holds (pass t) l) (only : (u : ℕ) → Holds (pass u) l → u ≡ t) where
        -- t lets l go, with the value y in its slot
        pub leaves_value : l < length (pass t).holds → (y : V) → IsIn (pass t) l y
            → IsLawful rule n m (put pass t (letting_go (pass t) l y)) homes
        leaves_value long y lies =
            let e = ok.each l here in
            let x = ok.value l in
            let p : LockPassView V = letting_go (pass t) l y in
            let gone : ¬ Holds p l = (λ h. subst IsHeld (get_or-set_same (pass t).holds l NotHeld NotHeld long) h) in
            let seen : HasSeen p l y = set_here (pass t).seen l y in_seen in
            let o = e.owned t holds in
            let is : o.place ≡ InSlot y = some-injective o.place (InSlot y) (sym o.place_is ∙ lies) in
            let may : MayBecome rule l t x y = subst (MayLie rule l t x) is o.lawful in
            changes_at l p homes y
            (λ k ne. record {
              down = λ h. subst IsHeld (get_or-set_other (pass t).holds l k NotHeld NotHeld ne) h;
              up = λ h. subst IsHeld (sym (get_or-set_other (pass t).holds l k NotHeld NotHeld ne)) h;
              places = refl;
              seen = set_else (pass t).seen l k y ne;
            })
            (λ k ne. refl) refl (refl, length-set (pass t).seen l y)
            (record {
              kept = may.kept;
              idle = λ _. o.home ∙ ap (λ pl. some (home_of pl)) is;
              owned =
                  λ u. put_elim (λ z. Holds z l → OwnerOk rule homes l u z y) pass t p u (λ _ h. absurd (gone h))
                  (λ ne h. absurd (ne (only u h)));
              seen =
                  λ u u_near. put_elim (λ z. SeenOk rule l u z y) pass t p u
                  (λ _. record { seen = y; seen_is = seen; grown = rule.grows_itself y; mine = λ away. refl })
                  (λ ne. let s = e.seen u u_near in record {
                    seen = s.seen;
                    seen_is = s.seen_is;
                    grown = rule.grows_on s.seen x y s.grown may.grown;
                    mine = λ away. s.mine away ∙ may.others u ne;
                  });
              witness = (t, (near, subst (λ z. HasSeen z l y) (sym (put_same pass t p)) seen));
            })

        -- the value of l moves to the place pl
        pub moves_value : (pl : Place V) → MayLie rule l t (ok.value l) pl
            → IsLawful rule n m (put pass t (placing (pass t) l pl)) (set homes l (home_of pl))
        moves_value pl may =
            let e = ok.each l here in let x = ok.value l in let p : LockPassView V = placing (pass t) l pl in
            let home : maybe.Option (Option V) = home_of pl in
            let deep : l < length homes = omega (arith, ok.deep) in
            let same : (u : ℕ) → SeenOk rule l u (pass u) x → SeenOk rule l u (put pass t p u) x =
            (λ u s. put_elim (λ z. SeenOk rule l u z x) pass t p u
            (λ ut. let r : SeenOk rule l u (pass t) x = subst (λ z. SeenOk rule l u (pass z) x) ut s in record
            { seen = r.seen; seen_is = r.seen_is; grown = r.grown; mine = r.mine }) (λ _. s)) in
            changes_at l p (set homes l home) x (λ k ne.
            record { down = λ h. h; up = λ h. h; places = set_else (pass t).places l k pl ne; seen = refl })
            (λ k ne. set_else homes l k home ne)
            (length-set homes l home) (length-set (pass t).places l pl, refl)
            (record {
              kept = e.kept;
              idle = λ away. absurd (away t (subst (λ z. Holds z l) (sym (put_same pass t p)) holds));
              owned = λ u. put_elim (λ z. Holds z l → OwnerOk rule (set homes l home) l u z x) pass t p u
                  (λ ut _. record {
                    place = pl;
                    place_is = set_here (pass t).places l pl in_places;
                    home = set_here homes l home deep;
                    found = (e.owned t holds).found;
                    lawful = subst (λ z. MayLie rule l z x pl) (sym ut) may;
                  })
                  (λ ne h. absurd (ne (only u h)));
              seen = λ u u_near. same u (e.seen u u_near);
              witness =
                  let w = e.witness in (
                    w.0,
                    (w.1.0, put_elim (λ z. HasSeen z l x) pass t p w.0 (λ wt. subst (λ z. HasSeen (pass z) l x) wt w.1.1) (λ _. w.1.1)),
                  );
            })
