-- How the notices still fit after each kind of change.
use Rattle.std.proofs.Common.{◌≡◌, ◌≢◌, ℕ, ◌<◌, true, false, List, [], ◌∷◌, ◌++◌, refl, sym, ap, subst, ◌∙◌, ⊎_elim, Option, Some, None}
use Rattle.std.specs.List.{Contains}
use Rattle.std.proofs.lemmas.List.Elements.{Contains-append_left, Contains-push, Contains-push_cases}
use Rattle.lot_core.specs.Model.{put}
use Rattle.lot_core.specs.Sound.{IsOnce}
use Rattle.lot_core.proofs.Members.{in_head, in_tail, head_left}
use Rattle.lot_core.proofs.Put.{put_same, put_other}
use Rattle.lot_rights.specs.World.{Spot, awake, queued, owed, lying}
use Rattle.lot_rights.proofs.Lines.{in_cases}
use Rattle.lot_rights.proofs.Puts.{put_elim}
use Rattle.lot_sems.specs.World.{sleeps, NoticeFits, NoticesFit}

pub no_some : (k : ℕ) → None ≡ Some k → ⊥
no_some k e = cc

pub same_some : (j k : ℕ) → Some j ≡ Some k → j ≡ k
same_some j k e = cc

-- ---- where a notice is
pub awake_is : (sp : Spot) → sleeps sp ≡ false → sp ≡ awake
awake_is awake e = refl
awake_is (queued k) e = absurd (let f : true ≡ false = e in cc)
awake_is (owed k x) e = absurd (let f : true ≡ false = e in cc)
awake_is (lying k x) e = absurd (let f : true ≡ false = e in cc)

queued_same : (sp : Spot) (j k : ℕ) → sp ≡ queued j → sp ≡ queued k → j ≡ k
queued_same sp j k e f = let g : queued j ≡ queued k = sym e ∙ f in cc

owed_same : (sp : Spot) (j k x : ℕ) → sp ≡ owed j x → sp ≡ owed k x → j ≡ k
owed_same sp j k x e f = let g : owed j x ≡ owed k x = sym e ∙ f in cc

awake_queued : (sp : Spot) (k : ℕ) → sp ≡ awake → sp ≡ queued k → ⊥
awake_queued sp k e f = let g : awake ≡ queued k = sym e ∙ f in cc

awake_owed : (sp : Spot) (k x : ℕ) → sp ≡ awake → sp ≡ owed k x → ⊥
awake_owed sp k x e f = let g : awake ≡ owed k x = sym e ∙ f in cc

pub queued_owed : (sp : Spot) (j k x : ℕ) → sp ≡ queued j → sp ≡ owed k x → ⊥
queued_owed sp j k x e f = let g : queued j ≡ owed k x = sym e ∙ f in cc

pub lying_queued : (sp : Spot) (j k x : ℕ) → sp ≡ lying j x → sp ≡ queued k → ⊥
lying_queued sp j k x e f = let g : lying j x ≡ queued k = sym e ∙ f in cc

lying_owed : (sp : Spot) (j k x y : ℕ) → sp ≡ lying j x → sp ≡ owed k y → ⊥
lying_owed sp j k x y e f = let g : lying j x ≡ owed k y = sym e ∙ f in cc

module _ (n : ℕ) (line : ℕ → List ℕ) (seeks : ℕ → Option ℕ) (owes : ℕ → Option ℕ) (spot : ℕ → Spot)
    (ok : NoticesFit n line seeks owes spot) where
  pub notice_at : (t : ℕ) (sp : Spot) → spot t ≡ sp → NoticeFits n line seeks owes t sp
  notice_at t sp e = subst (NoticeFits n line seeks owes t) e (ok.fits t)

  module _ (t : ℕ) (up : spot t ≡ awake) where
    -- a thread that is awake is in no line
    pub in_no_line : (k : ℕ) → ¬ Contains (line k) t
    in_no_line k h = awake_queued (spot t) k up (ok.in_line t k h)

    -- ---- the thread seeks another permit, or none
    pub seeks_letters : (o : Option ℕ) → NoticesFit n line (put seeks t o) owes spot
    seeks_letters o = record { fits = λ v. stays v (spot v) refl (ok.fits v); in_line = ok.in_line; is_owed = ok.is_owed }
      where
        stays : (v : ℕ) (sp : Spot) → spot v ≡ sp → NoticeFits n line seeks owes v sp → NoticeFits n line (put seeks t o) owes v sp
        stays v awake e h = tt
        stays v (queued j) e h = h
        stays v (owed j x) e h = (h.0, put_other seeks t o v (λ vt. awake_owed (spot v) j x (ap spot vt ∙ up) e) ∙ h.1, h.2, h.3)
        stays v (lying j x) e h =
            (h.0, put_other seeks t o v (λ vt. let g : lying j x ≡ awake = sym e ∙ (ap spot vt ∙ up) in cc) ∙ h.1, h.2)

    -- ---- the thread goes last in the line of k
    pub park_letters : (k : ℕ) → NoticesFit n (put line k (line k ++ t ∷ [])) seeks owes (put spot t (queued k))
    park_letters k =
        let xs : List ℕ = line k ++ t ∷ [] in
        let other : (v j : ℕ) → Contains (line j) v → v ≢ t = (λ v j h vt. in_no_line j (subst (Contains (line j)) vt h)) in
        record {
          fits = λ v. put_elim (NoticeFits n (put line k xs) seeks owes v) spot t (queued k) v
              (λ vt. subst (λ z. Contains z v) (sym (put_same line k xs)) (subst (Contains xs) (sym vt) (Contains-push (line k) t)))
              (λ _. stays v (spot v) (ok.fits v));
          in_line = λ v j. put_elim (λ z. Contains z v → put spot t (queued k) v ≡ queued j) line k xs j
              (λ jk h. ⊎_elim {C = put spot t (queued k) v ≡ queued j}
              (λ i. put_other spot t (queued k) v (other v k i) ∙ (ok.in_line v k i ∙ ap queued (sym jk)))
              (λ tv. subst (λ z. put spot t (queued k) z ≡ queued j) tv (put_same spot t (queued k) ∙ ap queued (sym jk)))
              (Contains-push_cases (line k) t v h))
              (λ _ h. put_other spot t (queued k) v (other v j h) ∙ ok.in_line v j h);
          is_owed =
              λ v j e. put_other spot t (queued k) v (λ vt. awake_owed (spot v) j 0 (ap spot vt ∙ up) (ok.is_owed v j e))
              ∙ ok.is_owed v j e;
        }
      where
        stays : (v : ℕ) (sp : Spot) → NoticeFits n line seeks owes v sp → NoticeFits n (put line k (line k ++ t ∷ [])) seeks owes v sp
        stays v awake h = tt
        stays v (queued j) h =
            put_elim (λ z. Contains z v) line k (line k ++ t ∷ []) j
            (λ jk. Contains-append_left (line k) (t ∷ []) v (subst (λ z. Contains (line z) v) jk h)) (λ _. h)
        stays v (owed j x) h = h
        stays v (lying j x) h = h

  -- ---- the first of the line of k leaves it, and is owed a letter
  module _ (k u : ℕ) (rest : List ℕ) (is : line k ≡ u ∷ rest) (once : IsOnce (line k)) (free : owes k ≡ None)
      (seek : (u < n) × (seeks u ≡ Some k)) where
    pub was_queued : spot u ≡ queued k
    was_queued = ok.in_line u k (subst (λ z. Contains z u) (sym is) (in_head u rest))

    behind : (v : ℕ) → Contains rest v → v ≢ u
    behind v h vu = head_left u rest (subst IsOnce is once) (subst (Contains rest) vu h)

    pub pass_letters : NoticesFit n (put line k rest) seeks (put owes k (Some u)) (put spot u (owed k 0))
    pass_letters = record {
      fits = λ v. put_elim (NoticeFits n (put line k rest) seeks (put owes k (Some u)) v) spot u (owed k 0) v
          (λ vu. subst (λ z. NoticeFits n (put line k rest) seeks (put owes k (Some u)) z (owed k 0)) (sym vu)
          (seek.0, seek.1, put_same owes k (Some u), refl))
          (λ ne. stays v ne (spot v) (ok.fits v));
      in_line = λ v j. put_elim (λ z. Contains z v → put spot u (owed k 0) v ≡ queued j) line k rest j
          (λ jk h. put_other spot u (owed k 0) v (behind v h)
          ∙ (ok.in_line v k (subst (λ z. Contains z v) (sym is) (in_tail u rest v h)) ∙ ap queued (sym jk)))
          (λ ne h. put_other spot u (owed k 0) v (λ vu. ne (queued_same (spot v) j k (ok.in_line v j h) (ap spot vu ∙ was_queued)))
          ∙ ok.in_line v j h);
      is_owed = λ v j. put_elim (λ z. z ≡ Some v → put spot u (owed k 0) v ≡ owed j 0) owes k (Some u) j
          (λ jk e. subst (λ z. put spot u (owed k 0) z ≡ owed j 0) (same_some u v e)
          (put_same spot u (owed k 0) ∙ ap (λ z. owed z 0) (sym jk)))
          (λ _ e. put_other spot u (owed k 0) v (λ vu. queued_owed (spot v) k j 0 (ap spot vu ∙ was_queued) (ok.is_owed v j e))
          ∙ ok.is_owed v j e);
    }
      where
        stays : (v : ℕ) → v ≢ u → (sp : Spot) → NoticeFits n line seeks owes v sp
            → NoticeFits n (put line k rest) seeks (put owes k (Some u)) v sp
        stays v ne awake h = tt
        stays v ne (queued j) h = put_elim (λ z. Contains z v) line k rest j
            (λ jk. ⊎_elim {C = Contains rest v} (λ e. absurd (ne (sym e))) (λ i. i)
            (in_cases u rest v (subst (λ z. Contains z v) (ap line jk ∙ is) h))) (λ _. h)
        stays v ne (owed j x) h = (h.0, h.1, put_other owes k (Some u) j (λ jk. no_some v (sym free ∙ (ap owes (sym jk) ∙ h.2))) ∙ h.2, h.3)
        stays v ne (lying j x) h = h

    -- who slept sleeps
    pub pass_sleeps : (v : ℕ) → sleeps (put spot u (owed k 0) v) ≡ sleeps (spot v)
    pass_sleeps v =
        put_elim (λ z. sleeps z ≡ sleeps (spot v)) spot u (owed k 0) v (λ vu. sym (ap sleeps (ap spot vu ∙ was_queued))) (λ _. refl)

  -- ---- the letter that k's root owes u is posted
  module _ (k u : ℕ) (debt : owes k ≡ Some u) where
    pub is_owed_here : spot u ≡ owed k 0
    is_owed_here = ok.is_owed u k debt

    pub post_letters : NoticesFit n line seeks (put owes k None) (put spot u (lying k 0))
    post_letters = record {
      fits = λ v. put_elim (NoticeFits n line seeks (put owes k None) v) spot u (lying k 0) v
          (λ vu. let h = notice_at u (owed k 0) is_owed_here in
          subst (λ z. NoticeFits n line seeks (put owes k None) z (lying k 0)) (sym vu) (h.0, h.1, refl))
          (λ ne. stays v ne (spot v) (ok.fits v));
      in_line =
          λ v j h. put_other spot u (lying k 0) v (λ vu. queued_owed (spot v) j k 0 (ok.in_line v j h) (ap spot vu ∙ is_owed_here))
          ∙ ok.in_line v j h;
      is_owed = λ v j. put_elim (λ z. z ≡ Some v → put spot u (lying k 0) v ≡ owed j 0) owes k None j
          (λ _ e. absurd (no_some v e))
          (λ ne e. put_other spot u (lying k 0) v (λ vu. ne (owed_same (spot v) j k 0 (ok.is_owed v j e) (ap spot vu ∙ is_owed_here)))
          ∙ ok.is_owed v j e);
    }
      where
        stays : (v : ℕ) → v ≢ u → (sp : Spot) → NoticeFits n line seeks owes v sp → NoticeFits n line seeks (put owes k None) v sp
        stays v ne awake h = tt
        stays v ne (queued j) h = h
        stays v ne (owed j x) h = (h.0, h.1, put_other owes k None j (λ jk. ne (same_some v u (sym h.2 ∙ (ap owes jk ∙ debt)))) ∙ h.2, h.3)
        stays v ne (lying j x) h = h

    pub post_sleeps : (v : ℕ) → sleeps (put spot u (lying k 0) v) ≡ sleeps (spot v)
    post_sleeps v =
        put_elim (λ z. sleeps z ≡ sleeps (spot v)) spot u (lying k 0) v (λ vu. sym (ap sleeps (ap spot vu ∙ is_owed_here))) (λ _. refl)

  -- ---- the thread collects its letter
  pub collect_letters : (t k x : ℕ) → spot t ≡ lying k x → NoticesFit n line seeks owes (put spot t awake)
  collect_letters t k x lies = record {
    fits = λ v. put_elim (NoticeFits n line seeks owes v) spot t awake v (λ _. tt) (λ _. ok.fits v);
    in_line =
        λ v j h. put_other spot t awake v (λ vt. lying_queued (spot v) k j x (ap spot vt ∙ lies) (ok.in_line v j h)) ∙ ok.in_line v j h;
    is_owed =
        λ v j e. put_other spot t awake v (λ vt. lying_owed (spot v) k j x 0 (ap spot vt ∙ lies) (ok.is_owed v j e)) ∙ ok.is_owed v j e;
  }
