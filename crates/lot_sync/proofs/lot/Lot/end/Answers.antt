use Rattle.std.proofs.Common.{◌≡◌, ◌+◌, ◌*◌, ◌<◌, [], length, map, vec_len, rules, subst, sym, ap, ◌∙◌}
use Rattle.std.specs.List.{All, Any}
use Rattle.std.proofs.lemmas.List.Elements.{All-weaker}
use Rattle.lot_rights.specs.Shown.{PassShown, RootShown}
use Rattle.lot_whole.specs.declared.views.LotPassView.{LotPassView}
use Rattle.lot_rights.proofs.Turns.{some_before, no_elements}
use Rattle.lot_whole.specs.declared.views.LotRootView.{LotRootView}
use Rattle.lot_whole.specs.Closing.{IsToldTo, HasDone}
use Rattle.lot_whole.specs.Family.{LotSize, key_count}
use Rattle.lot_whole.specs.Standing.{IsIdle}
use Rattle.lot_waits.specs.Counts.{counts_shown}
use Rattle.lot_waits.specs.Ledger.{IsLedger}
use Rattle.lot_waits.proofs.Sums.{balanced_of}
use Rattle.lot_sync.specs.Lot.{PassView, LotView, HasSeen, counts_of}
use Rattle.lot_sync.specs.Passes.{pass_view_shown, IsFree}
use Rattle.lot_rights.specs.History.{entries_of, tokens_of}
use Rattle.lot_sync.specs.Closing.{AreCounts}
use Rattle.lot_sync.specs.Values.{GoesOnTo}
use Rattle.lot_whole.specs.Lot.{line_of_root, owed_by}
use Rattle.lot_whole.specs.Order.{accesses_of, queued_in}
use Rattle.lot_sync.proofs.Closes.{each_root, counted, goes_on, some_seen, each_own, counts_are}
use Rattle.lot_sync.proofs.lot.Lot.end.Goals as goal

pub close-values-requires-clause-table : goal.close-values-requires-clause-table
close-values-requires-clause-table g c =
    let rights = c.gather.new.rights.items in
    let table = g.N.Name.opening.locks in (
      subst (λ t. All (λ (p : PassShown (LotPassView g.row.V.Denot)). p.table ≡ t) rights) (sym c.into_words.ensures.named)
          (All-weaker (IsFree table) (λ (p : PassShown (LotPassView g.row.V.Denot)). p.table ≡ table) (λ p free. free.is_of) rights
          c.gather.ensures.free),
      subst (λ t. All (λ (q : RootShown LotRootView). q.table ≡ t) c.unname.new.roots.items) (sym c.into_words.ensures.named)
          c.unname.ensures.own,
    )

pub close-values-requires-clause-done : goal.close-values-requires-clause-done
close-values-requires-clause-done g c =
    All-weaker (IsFree g.N.Name.opening.locks) HasDone (λ p free. free.done) c.gather.new.rights.items c.gather.ensures.free

pub close-values-requires-clause-passes : goal.close-values-requires-clause-passes
close-values-requires-clause-passes g c =
    let threads : c.into_words.result.size.threads ≡ c.args.self.threads =
    ap (λ (z : LotSize). z.threads) c.into_words.ensures.size ∙ (sym c.self.invariant.own_threads
    ∙ ap (λ (v : LotView). v.threads) c.self.view_is) in
    λ t near. some_before pass_view_shown (λ (p : PassView _). p.thread ≡ t) c.gather.new.rights.items
    (subst (Any (λ (p : PassView _). p.thread ≡ t)) (sym c.gather.ensures.same) (c.requires.all t (subst (λ n. t < n) threads near)))

pub close-values-requires-clause-roots : goal.close-values-requires-clause-roots
close-values-requires-clause-roots g c =
    let before = c.apart-rights.result.2 in
    let none : before.items ≡ [] = no_elements before.items (let n : length before.items ≡ vec_len before = search rules in n
    ∙ c.apart-rights.ensures.empty.2) in
    let keys : key_count c.into_words.result.size ≡ c.self.inside.parking.keys =
    ap key_count c.into_words.ensures.size ∙ (ap (λ n. n + length g.N.LotName.permits) (sym c.self.invariant.named_first_sem)
    ∙ sym c.self.invariant.parking_keys) in
    λ k near. subst (Any (λ (q : RootShown LotRootView). q.key ≡ k)) (sym c.unname.ensures.same)
    (each_root k c.self.inside.parking.keys before.items c.close-scheme.new.out.items c.close-scheme.ensures.roots none (subst
    (λ n. k < n) keys near))

pub returns-clause-values : goal.returns-clause-values
returns-clause-values g c = subst (All (GoesOnTo g.V.Keeps c.close-values.result.items)) c.gather.ensures.same
    (goes_on g.V.Keeps c.close-values.result.items c.gather.new.rights.items c.close-values.ensures.found)

pub returns-clause-seen : goal.returns-clause-seen
returns-clause-seen g c = λ key v at.
    subst (Any (λ (p : PassView g.row.V.Denot). HasSeen p key v)) c.gather.ensures.same
    (some_seen key v c.gather.new.rights.items (c.close-values.ensures.left key v at))

pub returns-clause-ledger : goal.returns-clause-ledger
returns-clause-ledger g c =
    let called = c.ledger_of.result.called.items in
    let woken = c.ledger_of.result.woken.items in
    let rights = c.gather.new.rights.items in
    let locks : g.N.LotName.locks ≡ c.args.self.locks = sym c.self.invariant.own_locks ∙ ap (λ (v : LotView). v.locks) c.self.view_is in
    let conds : g.N.LotName.conds ≡ c.args.self.conds = sym c.self.invariant.own_conds ∙ ap (λ (v : LotView). v.conds) c.self.view_is in
    let counts : map counts_shown rights ≡ map counts_of c.args.passes.items = sym (counted rights)
    ∙ ap (map counts_of) c.gather.ensures.same in
    subst (λ n. IsLedger n c.args.self.conds (map counts_of c.args.passes.items) called woken) locks
    (subst (λ n. IsLedger g.N.LotName.locks n (map counts_of c.args.passes.items) called woken) conds
    (subst (λ qs. IsLedger g.N.LotName.locks g.N.LotName.conds qs called woken) counts
    (c.ledger_of.ensures g.N.LotName.locks g.N.LotName.conds (map counts_shown rights) c.gather.ensures.tallied
    (balanced_of rights c.close-values.ensures.balanced))))

pub returns-clause-history : goal.returns-clause-history
returns-clause-history g c =
    let rights = c.gather.new.rights.items in
    let told =
    subst (λ (z : LotSize). IsToldTo z rights c.unname.new.roots.items) c.into_words.ensures.size c.close-values.ensures.history in
    record {
      rights = rights;
      roots = c.unname.new.roots.items;
      are = c.gather.ensures.same;
      told = told;
      quiet = told.quiet
          (All-weaker (IsFree g.N.Name.opening.locks) (λ (p : PassShown (LotPassView g.row.V.Denot)). IsIdle p.own) (λ p free. free.idle)
          rights c.gather.ensures.free);
      made = subst (All (λ (p : PassView g.row.V.Denot). p.made ≡ accesses_of (2 * p.thread) told.recounted.log)) c.gather.ensures.same
          (each_own told.recounted.log rights told.recounted.passes_made);
    }

pub returns-clause-counted : goal.returns-clause-counted
unfolding returns-clause-history
returns-clause-counted g c =
    let run = returns-clause-history g c in
    let before = c.apart-rights.result.2 in
    let none : before.items ≡ [] = no_elements before.items (let n : length before.items ≡ vec_len before = search rules in n
    ∙ c.apart-rights.ensures.empty.2) in
    let back = c.close-scheme.new.out in
    let counts = c.copy_counts.new.counts in
    let roots_long : length back.items ≡ vec_len back = search rules in
    let counts_long : length counts.items ≡ vec_len counts = search rules in
    let as_many : length back.items ≡ length counts.items = roots_long ∙ (sym c.copy_counts.ensures.long ∙ sym counts_long) in (
      run,
      subst (λ roots. AreCounts g.C.Tally.counts run.told.recounted.log roots c.copy_counts.new.counts.items) (sym c.unname.ensures.same)
          (counts_are g.C.Tally.counts run.told.recounted.log c.self.inside.parking.keys before.items c.close-scheme.new.out.items
          c.copy_counts.new.counts.items c.close-scheme.ensures.roots none
          (subst (All (λ (q : RootShown LotRootView). q.made ≡ entries_of (2 * q.key + 1) run.told.recounted.log)) c.unname.ensures.same
          run.told.recounted.roots_made)
          (subst (All (λ (q : RootShown LotRootView). queued_in q.key run.told.recounted.log
          ≡ length (tokens_of q.key run.told.recounted.log) + owed_by q.own + length
          (line_of_root q.own))) c.unname.ensures.same run.told.queued)
          as_many c.copy_counts.ensures.counted),
    )
