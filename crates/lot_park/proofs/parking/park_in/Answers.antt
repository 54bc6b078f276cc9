use Rattle.std.proofs.Common.{◌≡◌, None, sym, ◌∙◌, ap}
use Rattle.lot_bucket.specs.Contents.{Contents}
use Rattle.lot_bucket.specs.Places.{with_root}
use Rattle.lot_park.proofs.Under.{own_root, parked_stays, parked_leaves, place_has, place_empty}
use Rattle.lot_park.proofs.parking.park_in.Given.{Over}
use Rattle.lot_park.proofs.parking.park_in.Goals.{After-enqueue_if}
use Rattle.lot_park.proofs.parking.park_in.Goals as goal

-- while the root is out, and the thread was queued or not
out : (g : Over) (c : After-enqueue_if g) → c.enqueue_if.new.bucket.places ≡ with_root c.args.key None c.args.bucket.now.places
out g c =
    ap (λ (b : Contents g.row.S-Root.Denot). b.places) c.enqueue_if.ensures
    ∙ ap (λ (b : Contents g.row.S-Root.Denot). b.places) c.take_root-root.ensures.left

pub put_root-requires-clause-has : goal.put_root-requires-clause-has
put_root-requires-clause-has g c =
    place_has c.args.key c.args.bucket.now.places _ c.requires.ready.has (out g (goal.at.put_root-requires-clause-has g c).After-enqueue_if)

pub put_root-requires-clause-room : goal.put_root-requires-clause-room
put_root-requires-clause-room g c =
    place_empty c.args.key c.args.bucket.now.places _ c.requires.ready.has
    (out g (goal.at.put_root-requires-clause-room g c).After-enqueue_if)

pub returns-clause-stays : goal.returns-clause-stays
returns-clause-stays g c =
    let own = own_root g.S.Root.Root.view _ _ _ c.requires.ready c.take_root-root.ensures.root in
    let kept = c.requires.keeps c.take_root-root.result c.validate-x.result own.named own.paid c.validate-x.ensures in
    parked_stays g.S.Root.Root.view _ _ _ _ _ _ _ _ c.validate-x.result.3 c.requires.ready c.take_root-root.ensures.root
    c.take_root-root.ensures.left c.enqueue_if.ensures c.put_root.ensures
    kept.1 kept.2 (λ joins. rw c.thread_of-thread.ensures (kept.3 joins)) kept.4

pub returns-clause-called : goal.returns-clause-called
returns-clause-called g c =
    let own = own_root g.S.Root.Root.view _ _ _ c.requires.ready c.take_root-root.ensures.root in
    record {
      back = c.validate-x.result.2;
      by = record {
        root = c.take_root-root.result;
        from = record { named = own.named; paid = own.paid; lay = c.take_root-root.ensures.root };
        called = c.validate-x.ensures;
      };
      leaves =
          rw (sym c.thread_of-thread.ensures)
          (parked_leaves c.args.key _ c.args.bucket.now _ _ _ c.validate-x.result.2 c.validate-x.result.3 c.take_root-root.ensures.left
          c.enqueue_if.ensures c.put_root.ensures);
    }
