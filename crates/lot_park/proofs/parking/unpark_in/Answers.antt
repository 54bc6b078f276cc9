use Rattle.std.proofs.Common.{◌≡◌, None, Some, refl, ◌∙◌, ap}
use Rattle.lot_bucket.specs.Contents.{Contents}
use Rattle.lot_bucket.specs.Places.{with_root}
use Rattle.lot_bucket.specs.Agrees.{IsRootOf}
use Rattle.lot_bucket.specs.Taking.{TakesOne}
use Rattle.lot_park.specs.Parking.{Tells}
use Rattle.lot_park.proofs.Under.{own_root, tells, one_unparked_stays, place_has, place_empty, took_one}
use Rattle.lot_park.proofs.parking.unpark_in.Given.{Over}
use Rattle.lot_park.proofs.parking.unpark_in.Goals.{After-dequeue_one-told}
use Rattle.lot_park.proofs.parking.unpark_in.Goals as goal

own : (g : Over) (c : After-dequeue_one-told g) → IsRootOf g.S.Root.Root.view c.args.key c.args.bucket.now.queue c.take_root-root.result
own g c = own_root g.S.Root.Root.view _ _ _ c.requires.ready c.take_root-root.ensures.root

-- what the callback is told
told : (g : Over) (c : After-dequeue_one-told g)
    → Tells (g.S.Root.Root.view c.take_root-root.result).line c.args.moment.now c.dequeue_one-told.result
told g c =
    tells g.S.Root.Root.view _ _ c.args.bucket.now _ _ _ _ (own g c).same_line
    (ap (λ (b : Contents g.row.S-Root.Denot). b.queue) c.take_root-root.ensures.left) c.dequeue_one-told.ensures

-- while the root is out
out : (g : Over) (c : After-dequeue_one-told g) → c.dequeue_one-told.new.self.places ≡ with_root c.args.key None c.args.bucket.now.places
out g c =
    ap (λ (b : Contents g.row.S-Root.Denot). b.places) c.dequeue_one-told.ensures.left
    ∙ ap (λ (b : Contents g.row.S-Root.Denot). b.places) c.take_root-root.ensures.left

-- what was taken of the bucket, once the root is back
took : (g : Over) (c : After-dequeue_one-told g) (after : Contents g.row.S-Root.Denot) (root : g.row.S-Root.Denot)
    → after ≡ record c.dequeue_one-told.new.self { places = with_root c.args.key (Some root) c.dequeue_one-told.new.self.places }
    → TakesOne c.args.key c.args.moment c.args.bucket.now (record after { places = c.args.bucket.now.places }) c.dequeue_one-told.result
took g c after root put =
    took_one c.args.key c.args.moment c.args.bucket.now c.take_root-root.new.self c.dequeue_one-told.new.self after
    (with_root c.args.key (Some root) c.dequeue_one-told.new.self.places) c.dequeue_one-told.result c.take_root-root.ensures.left
    c.dequeue_one-told.ensures put

pub callback-y-requires : goal.callback-y-requires
callback-y-requires g c = c.requires.callable c.take_root-root.result c.dequeue_one-told.result (own g c).named (own g c).paid (told g c)

pub pay-root-requires-after_bounds : goal.pay-root-requires-after_bounds
pay-root-requires-after_bounds g c κs within =
    let at = (goal.at.pay-root-requires-after_bounds g c).After-dequeue_one-told in
    (c.requires.keeps c.take_root-root.result c.dequeue_one-told.result c.callback-y.result (own g at).named (own g at).paid
    (told g at) c.callback-y.ensures).2

pub put_root-requires-clause-has : goal.put_root-requires-clause-has
put_root-requires-clause-has g c =
    place_has c.args.key c.args.bucket.now.places _ c.requires.ready.has
    (out g (goal.at.put_root-requires-clause-has g c).After-dequeue_one-told)

pub put_root-requires-clause-room : goal.put_root-requires-clause-room
put_root-requires-clause-room g c =
    place_empty c.args.key c.args.bucket.now.places _ c.requires.ready.has
    (out g (goal.at.put_root-requires-clause-room g c).After-dequeue_one-told)

pub returns-clause-stays : goal.returns-clause-stays
returns-clause-stays g c =
    let at = (goal.at.returns-clause-stays g c).After-dequeue_one-told in
    let kept = c.requires.keeps c.take_root-root.result c.dequeue_one-told.result c.callback-y.result (own g at).named (own g at).paid
    (told g at) c.callback-y.ensures in
    one_unparked_stays g.S.Root.Root.view _ _ _ _ _ _ _ _ _ c.requires.ready c.take_root-root.ensures.root
    c.take_root-root.ensures.left c.dequeue_one-told.ensures c.put_root.ensures
    (c.pay-root.ensures.key ∙ kept.0) (c.pay-root.ensures.line ∙ kept.1) c.pay-root.ensures.paid

pub returns-clause-took : goal.returns-clause-took
returns-clause-took g c =
    took g (goal.at.returns-clause-took g c).After-dequeue_one-told c.put_root.new.self c.pay-root.result c.put_root.ensures

pub returns-clause-called : goal.returns-clause-called
returns-clause-called g c =
    let at = (goal.at.returns-clause-called g c).After-dequeue_one-told in
    record {
      root = c.take_root-root.result;
      from = record { named = (own g at).named; paid = (own g at).paid; lay = c.take_root-root.ensures.root };
      answer = c.callback-y.result;
      told = told g at;
      called = c.callback-y.ensures;
      same = refl;
      left = record c.put_root.new.self { places = c.args.bucket.now.places };
      took = took g at c.put_root.new.self c.pay-root.result c.put_root.ensures;
    }
