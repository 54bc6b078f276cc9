use Rattle.std.proofs.Common.{rules}
use Rattle.lot_calls.proofs.Working.{seen_kept, seen_grown}
use Rattle.lot_calls.proofs.finishing.finish.Goals as goal

pub close-requires-clause-free : goal.close-requires-clause-free
close-requires-clause-free g c κs within = λ k d near. (c.take_all.ensures.taken.ready k d near).free

pub returns-clause-kept : goal.returns-clause-kept
returns-clause-kept g c =
    seen_kept g.V.Keeps c.take_all.new.passes.items c.close.result.0.items c.close.ensures.values c.close.ensures.seen

pub returns-clause-grown : goal.returns-clause-grown
returns-clause-grown g c =
    seen_grown g.V.Keeps g.N.LotName.values _ c.take_all.new.passes.items c.close.result.0.items c.take_all.ensures.taken.ready
    c.close.ensures.seen

pub returns-clause-finished : goal.returns-clause-finished
returns-clause-finished g c = search rules
