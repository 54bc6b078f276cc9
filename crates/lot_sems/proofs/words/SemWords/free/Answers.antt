use Rattle.std.proofs.Common.{◌==◌, ◌+◌, ◌%◌, ◌^◌, inl, arith}
use Rattle.std.proofs.lemmas.Nat.{and_mask}
use prog.Atomic.{either}
use Rattle.lot_events.specs.declared.events.Event.TheVariants.{SemFree}
use Rattle.lot_sems.specs.Calls.{MayGive, IsUnmarked, one_permit_less, Found}
use Rattle.lot_sems.proofs.Turns.{at_sem, Swaps, looks, frees, after_look, freed}
use Rattle.lot_sems.proofs.words.SemWords.free.Goals as goal

pub load-pass-requires-clause-allows : goal.load-pass-requires-clause-allows
load-pass-requires-clause-allows c =
    at_sem c.self.view_is c.requires.key c.word_of_key-word.ensures (λ n. n) c.args.pass (Found c.args.pass c.args.key)
    (λ z. looks z.size c.args.pass c.args.key)

pub compare_exchange-pass-requires-clause-allows : goal.compare_exchange-pass-requires-clause-allows
compare_exchange-pass-requires-clause-allows c =
    let r = c.load-pass.result.0 in
    let seen = c.load-pass.result.1 in
    let may = after_look c.args.pass r c.args.key seen c.load-pass.ensures.told (λ own. MayGive own c.args.key) c.requires.may in
    let clear : IsUnmarked seen = omega (arith, and_mask seen 1, c.if-seen-ne0.false) in
    at_sem c.self.view_is c.requires.key c.word_of_key-word.ensures (λ n. either (n == seen) ((seen + 2) % 2 ^ 64) n) r
    (Swaps r c.args.key (one_permit_less r.own c.args.key) (SemFree r.thread c.args.key) seen)
    (λ z among. frees z.size r c.args.key among may seen clear)

pub returns-then-seen-ne0-clause-entries : goal.returns-then-seen-ne0-clause-entries
returns-then-seen-ne0-clause-entries c =
    let seen = c.load-pass.result.1 in
    inl (seen, omega (arith, and_mask seen 1, c.if-seen-ne0.true), c.load-pass.ensures.told)

pub returns-clause-entries : goal.returns-clause-entries
returns-clause-entries c =
    let seen = c.load-pass.result.1 in
    let clear : IsUnmarked seen = omega (arith, and_mask seen 1, c.if-seen-ne0.false) in
    freed c.args.pass c.load-pass.result.0 c.args.key seen c.load-pass.ensures.told clear
    c.compare_exchange-pass.result.1 c.compare_exchange-pass.result.0 c.compare_exchange-pass.ensures.told
