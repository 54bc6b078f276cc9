-- What a pass writes is what the model's pass changes.
use Rattle.std.proofs.Common.{◌≡◌, ℕ, Bool, true, false, List, [], ◌∷◌, Option, Some, None, is_some, drop, refl, sym, ap, ◌∙◌}
use Rattle.std.specs.Prelude.{◌==◌, ◌&&◌, if◌then◌else◌}
use Rattle.std.proofs.lemmas.Bool.{eqb-true, ne_eqb}
use mathlib.Core.Path.{fun_ext}
use Rattle.lot_core.specs.declared.state.State.{State}
use Rattle.lot_core.specs.Model.{StateView, Locks, put}
use Rattle.lot_core.specs.Steps.{first, passed, passed_line}
use Rattle.lot_core.specs.Rows.{row}
use Rattle.lot_core.specs.State.{state_of, owns, with_owner, with_parked, with_lock_line}
use Rattle.lot_core.proofs.Put.{by_bit, at_all, put_again}

-- who alone has the lock leaves it to nobody
pub owns_left : (o : Option ℕ) (t : ℕ) → owns o t ≡ true → owns None ≡ put (owns o) t false
owns_left None t has = absurd (cc)
owns_left (Some v) t has =
    fun_ext (at_all (λ u b. false ≡ (if b then false else u == v)) t refl
    (λ u ne. sym (ne_eqb u v (λ e. ne (e ∙ sym (eqb-true t v has))))))

-- and hands it to u
pub owns_handed : (o : Option ℕ) (t u : ℕ) → owns o t ≡ true → owns (Some u) ≡ put (put (owns o) t false) u true
owns_handed o t u has =
    fun_ext (λ w. by_bit (λ b. b ≡ (if b then true else put (owns o) t false w)) (w == u) (λ e. refl)
    (λ e. ap (λ (f : ℕ → Bool). f w) (owns_left o t has)))

-- who has a lock means that it is held
pub owned_held : (o : Option ℕ) (t : ℕ) → owns o t ≡ true → is_some o ≡ true
owned_held None t has = absurd (cc)
owned_held (Some v) t has = refl

-- locks that differ in these alone
abbrev pub locks_of : Locks → (ℕ → Bool) → (ℕ → Bool) → (ℕ → List ℕ) → (ℕ → ℕ → Bool) → Locks
locks_of a held parked line has = record { held = held; parked = parked; line = line; has = has }

pub hands_line : (a : Locks) (o : Option ℕ) (t l : ℕ) (more : Bool) (xs : List ℕ) → a.has l ≡ owns o → a.held l ≡ true → a.has l t ≡ true →
    is_some (first xs) ≡ true →
    locks_of a (put a.held l (is_some (first xs))) a.parked (put a.line l (drop 1 xs)) (put a.has l (owns (first xs)))
    ≡ passed_line a t l true more xs
hands_line a o t l more [] owned held has some = absurd (cc)
hands_line a o t l more (u ∷ rest) owned held has some =
    ap (λ (h : ℕ → Bool). locks_of a h a.parked (put a.line l rest) (put a.has l (owns (Some u))))
    (ap (put a.held l) (sym held) ∙ put_again a.held l)
    ∙ ap (λ (f : ℕ → Bool). locks_of a a.held a.parked (put a.line l rest) (put a.has l f))
    (owns_handed o t u (ap (λ (f : ℕ → Bool). f t) (sym owned) ∙ has) ∙ ap (λ (f : ℕ → Bool). put (put f t false) u true) (sym owned))

pub leaves_line : (a : Locks) (t l : ℕ) (fair more : Bool) (xs : List ℕ) → a.line l ≡ xs → (fair ≡ true → is_some (first xs) ≡ false) →
    locks_of a (put a.held l false) (put a.parked l (is_some (first xs) && more)) (put a.line l (drop 1 xs))
    (put a.has l (put (a.has l) t false))
    ≡ passed_line a t l fair more xs
leaves_line a t l fair more [] is none =
    ap (λ (line : ℕ → List ℕ). locks_of a (put a.held l false) (put a.parked l false) line (put a.has l (put (a.has l) t false)))
    (ap (put a.line l) (sym is) ∙ put_again a.line l)
leaves_line a t l true more (u ∷ rest) is none = let e = none refl in absurd (cc)
leaves_line a t l false more (u ∷ rest) is none = refl

-- the owner's word of a lock that t has
pub row_owned : (s : State) (l : ℕ) → (state_of s).locks.has l ≡ owns (row None s.owners.items l)
row_owned s l = refl

-- a fair pass to a first that is there
pub pass_hands : (s : State) (x y : StateView) (t l : ℕ) (fair more : Bool) (o : Option ℕ) →
    x ≡ with_lock_line (state_of s) l (drop 1 ((state_of s).locks.line l)) → y ≡ with_owner x l o →
    o ≡ first ((state_of s).locks.line l) → fair ≡ true → is_some o ≡ true → (state_of s).locks.has l t ≡ true →
    y ≡ record (state_of s) { locks = passed (state_of s).locks t l fair more }
pass_hands s x y t l fair more o taken owned is is_fair some has =
    let w = state_of s in
    owned ∙ ap (λ (v : StateView). with_owner v l o) taken
    ∙ ap (λ (p : Option ℕ). with_owner (with_lock_line w l (drop 1 (w.locks.line l))) l p) is
    ∙ ap (λ (a : Locks). let v : StateView = record w { locks = a } in v)
    (hands_line w.locks (row None s.owners.items l) t l more (w.locks.line l) refl (owned_held (row None s.owners.items l) t has) has
    (ap (is_some {T = ℕ}) (sym is) ∙ some)
    ∙ ap (λ (f : Bool). passed w.locks t l f more) (sym is_fair))

-- a pass that hands the lock to nobody
pub pass_leaves : (s : State) (x y z : StateView) (t l : ℕ) (fair more said : Bool) (o : Option ℕ) →
    x ≡ with_lock_line (state_of s) l (drop 1 ((state_of s).locks.line l)) → y ≡ with_owner x l None → z ≡ with_parked y l said →
    o ≡ first ((state_of s).locks.line l) → said ≡ (is_some o && more) → (fair ≡ true → is_some o ≡ false)
    → (state_of s).locks.has l t ≡ true →
    z ≡ record (state_of s) { locks = passed (state_of s).locks t l fair more }
pass_leaves s x y z t l fair more said o taken owned parked is says none has =
    let w = state_of s in
    parked ∙ ap (λ (v : StateView). with_parked v l said) (owned ∙ ap (λ (v : StateView). with_owner v l None) taken)
    ∙ ap (λ (b : Bool). with_parked (with_owner (with_lock_line w l (drop 1 (w.locks.line l))) l None) l b)
    (says ∙ ap (λ (p : Option ℕ). is_some p && more) is)
    ∙ ap (λ (f : ℕ → Bool). let v : StateView = record w {
      locks = locks_of w.locks (put w.locks.held l false) (put w.locks.parked l (is_some (first (w.locks.line l)) && more))
          (put w.locks.line l (drop 1 (w.locks.line l))) (put w.locks.has l f);
    } in v)
    (owns_left (row None s.owners.items l) t has)
    ∙ ap (λ (a : Locks). let v : StateView = record w { locks = a } in v)
    (leaves_line w.locks t l fair more (w.locks.line l) refl (λ e. ap (is_some {T = ℕ}) (sym is) ∙ none e))
