use Rattle.std.proofs.Common.{sym}
use Rattle.lot_waits.proofs.Taken.{says_more}
use Rattle.lot_waits.proofs.notifying.fn.call_some.unpark_count.Goals as goal

pub call_first-requires : goal.call_first-requires
call_first-requires g c =
    let (threads, told) = c.requires.told in
    record {
      key = c.requires.key;
      may = c.requires.may;
      clear = c.requires.clear;
      count = c.requires.count;
      taken = sym told.number;
      more = says_more threads c.captures.count _ c.args.taken c.args.more c.requires.count.0 told;
    }
