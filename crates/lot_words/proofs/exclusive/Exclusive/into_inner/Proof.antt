-- The value comes out of the struct.
use Rattle.std.proofs.Common.{◌≡◌, List, [], ◌∷◌, ◌++◌, refl, ◌∙◌}
use Rattle.std.proofs.ResultValues.{and_tt}
use Rattle.std.proofs.raw_atomic.Walks.{proved_at, leaves}
use mir.Syntax.{Fn, a_type}
use mir.Val.{Val, vstruct, vcons, vnil, of_list}
use mir.MapTy.{inst_fn}
use base.Fml.{ftrue}
use base.Logic.{SProp, emp}
use prog.Wp.{WpFn}
use contract.Monad.{fact, fact_i}
use contract.Running.{tables}
use types.Kit.{‵, raw, ◌⊛◌, prop, ◌$◌, ◌∵◌, !, qed, by, done, move, keep, split, fsplit, fsplit3, fjoin, fpick, feq_l, use0, rewrite}
use types.Kit.{regoal, updating, now}
use types.Part.{sub, whole}
use types.Run.{stop, fld, of_opd, returns, enter}
use types.ByLocal.{alloc_all, pass_all, free_all, look_at, get, get_in, sets}
use denote.Exit.{no}
use denote.Laws.{Is, shows}
use denote.RattleType.{RattleType, owns}
use denote.Param.{param, layout, layouts}
use denote.Param.Laws.{param_laws}
use denote.Signature.{plain, types_at}
use denote.Steps.{nothing, peeks}
use denote.Triple.Entry.{alive}
use denote.Triple.Walked.{Stays, Goes, stay_dropped, walk_of}
use Rattle.lot_words.proofs.Lone.{one}
use Rattle.lot_words.specs.contracts.exclusive.Exclusive.{the_row}
use Rattle.lot_words.specs.contracts.exclusive.Exclusive.into_inner.{ended, clauses}
use Rattle.lot_words.specs.contracts.exclusive.Exclusive.into_inner.Key.{name as #self}
use Rattle.lot_words.proofs.exclusive.Exclusive.into_inner.Statement.{statement}
use Rattle.lot_words.proofs.exclusive.Exclusive.into_inner.Code as code

pub into_inner_spec : {M : Type 1} → statement M
into_inner_spec 𝓤 𝓛 𝓜 𝓡 wired T laws =
    let H = 𝓛.H in let 𝓣 = tables 𝓤 H 𝓜 𝓡 𝓡.env in let R : RattleType = param 0 T in
    let En = ended T in let c = clauses T 𝓛 𝓜.mem 𝓡.returns in
    let inst = layouts (a_type ∷ []) (T, tt) in let fn : Fn = inst_fn inst code.function in
    let self = plain (λ _. the_row R) in let hs : Stays En.signature.params En.kept = (stay_dropped self no, tt) in
    let gone : Goes 𝓛 1 self no (stay_dropped self no) =
    λ κs y f vs ok. qed 𝓛 (‵ ftrue ∷ []) ∵ updating ! $ now ! $ nothing ! $ fjoin ! $ done ! in
    proved_at 𝓛 En hs c 𝓜 𝓡 (gone, tt) (#self inst) fn (code.unfolded 𝓤 H 𝓜 𝓡 wired (T, tt)) (λ z are.
    let Post : Val → SProp 𝓤 = (walk_of 𝓛 En hs c).post z in let x : T.Denot = z.0.3.0.value in
    qed 𝓛
    ((raw (alive 𝓛 En.signature z.0.0 z.0.1) ⊛ ‵ (owns (types_at En.signature.params z.0.0) z.0.3 z.0.4))
    ∷ raw ((c z.0.0 z.0.3).requires z.1) ∷ []) ∵
    split ! $ move ! (1 ∷ []) $ fsplit ! $ fsplit ! $ fpick !
    (λ vss. fsplit3 ! $ feq_l ! (λ laid. peeks ! R (Is R) (shows 𝓛 R) x vss.0 (λ is.
    let got = one (layout T) vss.0 (((param_laws 0 T laws).lawful 𝓛).typed x vss.0 is) in
    let v : Val = got.0 in let good = got.2 in let u : Val = vstruct (vcons v vnil) in
    let word : z.0.4.0 ≡ u ∷ [] = laid ∙ (λ i. vstruct (of_list (got.1 i ++ [])) ∷ []) in
    rewrite ! 0 (λ (ws : List Val). ‵ (R.own_val x ws)) got.1 refl $ keep ! (0 ∷ 4 ∷ []) $
    regoal ! (λ (ws : List Val). prop (WpFn 𝓤 H 𝓣.C 𝓣.Λ fn ws Post)) (λ i. word i ++ []) refl $
    enter ! 𝓣.C 𝓣.Λ fn (u ∷ []) Post $ alloc_all ! (λ l. pass_all ! refl ((and_tt _ good.0, (good.1, tt)), tt) $
    sets ! (of_opd ! (get_in ! (fld ! refl (stop !)) (sub ! 0 refl (whole !)))) refl good $ sets ! (of_opd ! (get ! refl)) refl good $
    use0 𝓛 (raw (fact 𝓤 (x ≡ x))) (fact_i 𝓤 (x ≡ x) (emp 𝓤) refl) $ nothing ! $ nothing ! $ fjoin ! $
    returns ! (look_at ! 0 refl) $ free_all ! refl $ keep ! (3 ∷ 0 ∷ 2 ∷ 1 ∷ []) $ by !
    (leaves 𝓛 En hs c z v x ((tt, tt), tt) (tt, tt)))))))
