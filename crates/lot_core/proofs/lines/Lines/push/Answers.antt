use Rattle.std.proofs.Common.{◌∙◌, sym, ap, [], ◌∷◌, ◌++◌, Result, Ok, Err, OnErr}
use Rattle.lot_core.proofs.LineRows.{line_item, line_write, line_rewrite}
use Rattle.lot_core.proofs.lines.Lines.push.Goals as goal

on_err : {X E : Type 0} (r : Result X E) (P : Type 0) → P → OnErr r P
on_err (Ok x) P h = tt
on_err (Err e) P h = h

pub returns-in_err-push_back-clause-err : goal.returns-in_err-push_back-clause-err
returns-in_err-push_back-clause-err c =
    let e = line_rewrite c.args.self.now c.args.key c.push_back.new.self c.index_mut.result.now c.requires c.index_mut.ensures.value
    (c.in_err-push_back.ensures {u = tt}).items in
    on_err c.from_residual.result _ e

pub returns-clause-ok : goal.returns-clause-ok
returns-clause-ok c =
    line_write c.args.self.now c.args.key c.push_back.new.self _ c.requires
    ((c.in_ok-push_back.ensures {u = tt}).items
    ∙ ap (λ xs. xs ++ c.args.thread ∷ [])
    (sym (line_item c.args.self.now c.args.key c.index_mut.result.now c.requires c.index_mut.ensures.value)))
