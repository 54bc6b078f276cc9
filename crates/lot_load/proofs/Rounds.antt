-- One round of a worker: what it may give back, and that it owns nothing afterwards.
use Rattle.std.proofs.Common.{◌≡◌, ℕ, refl, sym, ap, subst, ◌∙◌, ⊎_elim}
use Rattle.atomic_table.proofs.Lists.{at_set}
use Rattle.lot_words.specs.CallersRule.{CallersRule}
use Rattle.lot_sync.specs.Lot.{PassView, HeldView, ◌≈◌, HasSeen, owning}
use Rattle.lot_sync.specs.Values.{Gets, MayGiveBack}
use Rattle.lot_load.specs.Works.{WorksOn}

-- what the pass has seen of the key is what it found there
pub seen_found : {V : Type 0} (p q : PassView V) (k : ℕ) (x u : V) → q ≈ owning p k x → HasSeen q k u → x ≡ u
seen_found p q k x u e at =
    ⊎_elim (λ here. here.1) (λ else. absurd (else.0 refl)) (at_set p.seen k k x u (subst (λ (z : PassView _). HasSeen z k u) e at))

module _ {V Part : Type 0} (rule : CallersRule V Part) where
  -- what an owner worked on may be given back
  pub may_give_back : (before after : PassView V) (key thread : ℕ) (held worked : HeldView V) → Gets rule before key held after
      → thread ≡ before.thread
      → WorksOn rule held thread worked → MayGiveBack rule after worked
  may_give_back before after key thread held worked gets own work = record {
    kept = work.kept;
    grown = λ u seen. subst (λ (v : V). rule.grows v worked.value) (found u seen) work.grown;
    others = λ u t seen else. subst (λ (v : V). rule.part t v ≡ rule.part t worked.value) (found u seen)
        (work.others t (λ e. else (e ∙ (own ∙ sym (ap (λ (p : PassView V). p.thread) gets.after_is)))));
  }
    where
      found : (u : V) → HasSeen after worked.key u → held.value ≡ u
      found u seen =
          seen_found before after key held.value u gets.after_is (subst (λ k. HasSeen after k u) (work.key_same ∙ gets.key_is) seen)

  -- a value that was only read may be given back
  pub read_may_go_back : (before after : PassView V) (key : ℕ) (held : HeldView V) → Gets rule before key held after
      → MayGiveBack rule after held
  read_may_go_back before after key held gets =
      may_give_back before after key before.thread held held gets refl (record {
        key_same = refl;
        kept = subst (λ k. rule.keeps k held.value) (sym gets.key_is) gets.kept;
        grown = rule.grows_itself held.value;
        others = λ t else. refl;
      })
