use Rattle.std.proofs.Common.{MatchBool, length, length-set, set, rules, ap, subst, ◌∙◌}
use Rattle.lot_sync.specs.Lot.{PassView}
use Rattle.gallery.specs.declared.accounts.Account.{Account}
use Rattle.gallery.specs.Accounts.{Settles, Moves, MovesNothing}
use Rattle.gallery.proofs.Settling.{even_again}
use Rattle.gallery.proofs.accounts.transfer.Goals as goal

pub returns-clause-even : goal.returns-clause-even
returns-clause-even g c =
    let (v, w, x, y, post, both) = c.with_both.ensures.visits in
    let settled : Settles c.thread-thread.result v.now w.now x.now y.now = search rules in
    let seen = c.args.pass.seen in
    record {
      count = ap (λ (z : PassView Account). length z.seen) both.after_is
          ∙ (length-set (set seen c.args.from x.now) c.args.into y.now ∙ (length-set seen c.args.from x.now ∙ c.requires.even.count));
      even =
          even_again c.args.pass.thread _ _ c.args.from c.args.into v.now w.now x.now y.now both.finds_first.own_near
          both.finds_second.own_near
          c.requires.keys.2 both.finds_first.own_was both.finds_second.own_was both.own_is
          (subst (λ t. Settles t v.now w.now x.now y.now) c.thread-thread.ensures settled) c.requires.even.even;
    }

pub returns-clause-moves : goal.returns-clause-moves
returns-clause-moves g c =
    let (v, w, x, y, post, both) = c.with_both.ensures.visits in
    let amount = c.args.amount in
    let t = c.thread-thread.result in
    let moves : MatchBool c.with_both.result.1 (Moves t amount v.now w.now x.now y.now) (MovesNothing t amount v.now w.now x.now y.now) =
    search rules in
    record {
      found_from = v.now;
      found_into = w.now;
      left_from = x.now;
      left_into = y.now;
      own_from = both.finds_first.mine;
      own_into = both.finds_second.mine;
      moves =
          subst
          (λ s. MatchBool c.with_both.result.1 (Moves s amount v.now w.now x.now y.now) (MovesNothing s amount v.now w.now x.now y.now))
          c.thread-thread.ensures moves;
      seen_from = both.seen_first;
      seen_into = both.seen_second;
    }
