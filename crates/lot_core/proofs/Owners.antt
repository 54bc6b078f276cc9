-- One owner: what getting a lock, letting it go and handing it over keep.
use Rattle.std.proofs.Common.{◌≡◌, ◌≢◌, ◌↔◌, ℕ, Bool, true, false, refl, subst, sym, ◌∙◌}
use Rattle.std.specs.Prelude.{if◌then◌else◌}
use Rattle.lot_core.specs.Model.{put}
use Rattle.lot_core.specs.Sound.{OneOwner}
use Rattle.lot_core.proofs.Put.{at_all, put_same}

-- of one lock: its held bit, and who has it
abbrev pub IsOwned : Bool → (ℕ → Bool) → Type 0
IsOwned held has =
    ((t u : ℕ) → has t ≡ true → has u ≡ true → t ≡ u) × ((held ≡ true) ↔ ((t : ℕ) × (has t ≡ true)))

pub owners : (held : ℕ → Bool) (has : ℕ → ℕ → Bool) → ((l : ℕ) → IsOwned (held l) (has l)) → OneOwner held has
owners held has each = record { one = λ l. (each l).0; some = λ l. (each l).1 }

pub owned : (held : ℕ → Bool) (has : ℕ → ℕ → Bool) → OneOwner held has → (l : ℕ) → IsOwned (held l) (has l)
owned held has h l = (h.one l, h.some l)

pub owned_by : (has : ℕ → Bool) (t : ℕ) → has t ≡ true → ((u : ℕ) → has u ≡ true → u ≡ t) → IsOwned true has
owned_by has t has_it only =
    ((λ u w a b. only u a ∙ sym (only w b)), ((λ e. (t, has_it)), (λ e. refl)))

pub owned_none : (has : ℕ → Bool) → ((u : ℕ) → has u ≡ true → ⊥) → IsOwned false has
owned_none has none = ((λ u w a b. absurd (none u a)), ((λ e. absurd (cc)), (λ e. absurd (none e.0 e.1))))

-- t gets it unheld, lets it go, or hands it to u
pub owned_got : (has : ℕ → Bool) (t : ℕ) → IsOwned false has → IsOwned true (put has t true)
owned_got has t h =
    owned_by (put has t true) t (put_same has t true)
    (at_all (λ u b. (if b then true else has u) ≡ true → u ≡ t) t (λ e. refl)
    (λ u ne e. let set : false ≡ true = h.1.1 (u, e) in absurd (cc)))

pub owned_left : (held : Bool) (has : ℕ → Bool) (t : ℕ) → IsOwned held has → has t ≡ true → IsOwned false (put has t false)
owned_left held has t h has_it =
    owned_none (put has t false)
    (at_all (λ u b. (if b then false else has u) ≡ true → ⊥) t (λ e. absurd (cc)) (λ u ne e. ne (h.0 u t e has_it)))

pub owned_handed : (held : Bool) (has : ℕ → Bool) (t u : ℕ) → IsOwned held has → has t ≡ true → IsOwned held (put (put has t false) u true)
owned_handed held has t u h has_it =
    subst (λ b. IsOwned b (put (put has t false) u true)) (sym (h.1.1 (t, has_it)))
    (owned_by (put (put has t false) u true) u (put_same (put has t false) u true)
    (at_all (λ w b. (if b then true else put has t false w) ≡ true → w ≡ u) u (λ e. refl)
    (at_all (λ w b. w ≢ u → (if b then false else has w) ≡ true → w ≡ u) t (λ ne e. absurd (cc))
    (λ w other ne e. absurd (other (h.0 w t e has_it))))))

-- the same among all locks
pub owners_got : (held : ℕ → Bool) (has : ℕ → ℕ → Bool) (l t : ℕ) → OneOwner held has → held l ≡ false →
    OneOwner (put held l true) (put has l (put (has l) t true))
owners_got held has l t h unheld =
    owners (put held l true) (put has l (put (has l) t true))
    (at_all (λ i b. IsOwned (if b then true else held i) (if b then put (has l) t true else has i)) l
    (owned_got (has l) t (subst (λ b. IsOwned b (has l)) unheld (owned held has h l)))
    (λ i ne. owned held has h i))

pub owners_left : (held : ℕ → Bool) (has : ℕ → ℕ → Bool) (l t : ℕ) → OneOwner held has → has l t ≡ true →
    OneOwner (put held l false) (put has l (put (has l) t false))
owners_left held has l t h has_it =
    owners (put held l false) (put has l (put (has l) t false))
    (at_all (λ i b. IsOwned (if b then false else held i) (if b then put (has l) t false else has i)) l
    (owned_left (held l) (has l) t (owned held has h l) has_it)
    (λ i ne. owned held has h i))

pub owners_handed : (held : ℕ → Bool) (has : ℕ → ℕ → Bool) (l t u : ℕ) → OneOwner held has → has l t ≡ true →
    OneOwner held (put has l (put (put (has l) t false) u true))
owners_handed held has l t u h has_it =
    owners held (put has l (put (put (has l) t false) u true))
    (at_all (λ i b. IsOwned (held i) (if b then put (put (has l) t false) u true else has i)) l
    (owned_handed (held l) (has l) t u (owned held has h l) has_it)
    (λ i ne. owned held has h i))
