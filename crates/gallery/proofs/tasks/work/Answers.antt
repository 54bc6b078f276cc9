use Rattle.std.proofs.Common.{◌≡◌, rules, sym, ap, subst, ◌∙◌}
use mathlib.Core.Option.{some-injective}
use Rattle.lot_sync.specs.Lot.{PassView}
use Rattle.gallery.specs.Tasks.{AllDone}
use Rattle.gallery.proofs.Doing.{all_done}
use Rattle.gallery.proofs.tasks.work.Goals as goal

pub returns-then-is_none : goal.returns-then-is_none
returns-then-is_none g c =
    let (found, left, does, region, ready, waits) = c.when.ensures.visits in
    let same : found.now ≡ left.now = search rules in record {
      back = record {
        same_thread = ap (λ (p : PassView _). p.thread) region.after_is ∙ search rules;
        free = c.when.ensures.free;
        shape = c.when.ensures.shape;
      };
      done = λ pool saw. subst AllDone (same ∙ some-injective left.now pool (sym region.seen ∙ saw))
          (all_done found.now region.finds.kept ready);
    }
