use Rattle.std.proofs.Common.{◌≡◌, ◌∙◌, sym, ap, ℕ, Option, Some, None, arith}
use Rattle.std.specs.Prelude.{find}
use Rattle.std.specs.List.{range_with_len}
use Rattle.lot_core.specs.Rows.{row}
use Rattle.lot_core.specs.State.{owns}
use Rattle.lot_core.proofs.Rows.{row_read}
use Rattle.lot_core.proofs.Texts.{owner_found, owner_past, owner_none}
use Rattle.lot_core.proofs.state.State.owner.Goals as goal

pub returns-in-Some : goal.returns-in-Some
returns-in-Some c =
    let s = c.args.self.now in
    let is : row None s.owners.items c.args.lock ≡ Some c.in-Some.owner =
    row_read None s.owners.items c.args.lock c.index.result.now (omega (arith, s.owner_each, c.requires)) c.index.ensures ∙ c.in-Some.is in
    owner_found c.in-Some.owner s.threads c.if-owner-self.true ∙ ap (λ (o : Option ℕ). find (owns o) (range_with_len 0 s.threads)) (sym is)

pub returns-in_default : goal.returns-in_default
returns-in_default c =
    let s = c.args.self.now in
    let is : row None s.owners.items c.args.lock ≡ Some c.in-Some.owner =
    row_read None s.owners.items c.args.lock c.index.result.now (omega (arith, s.owner_each, c.requires)) c.index.ensures ∙ c.in-Some.is in
    owner_past c.in-Some.owner s.threads c.if-owner-self.false ∙ ap (λ (o : Option ℕ). find (owns o) (range_with_len 0 s.threads)) (sym is)

pub returns-in_default-2 : goal.returns-in_default-2
returns-in_default-2 c =
    let s = c.args.self.now in
    let is : row None s.owners.items c.args.lock ≡ None =
    row_read None s.owners.items c.args.lock c.index.result.now (omega (arith, s.owner_each, c.requires))
    c.index.ensures ∙ c.in_default.is in
    owner_none s.threads ∙ ap (λ (o : Option ℕ). find (owns o) (range_with_len 0 s.threads)) (sym is)
