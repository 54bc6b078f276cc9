use Rattle.std.proofs.Common.{rules, ◌≡◌, ℕ, List, take, Some, None, refl, ◌∙◌, ap}
use Rattle.lot_bucket.specs.Contents.{Contents}
use Rattle.lot_bucket.specs.Agrees.{IsRootOf}
use Rattle.lot_bucket.specs.Places.{with_root}
use Rattle.lot_bucket.specs.Queue.{line_of}
use Rattle.lot_bucket.specs.Taking.{TakesFirst}
use Rattle.lot_park.specs.Parking.{TellsCount}
use Rattle.lot_park.proofs.Under.{own_root, unparked_stays, place_has, place_empty, took_count}
use Rattle.lot_park.proofs.parking.unpark_count_in.Given.{Over}
use Rattle.lot_park.proofs.parking.unpark_count_in.Goals.{After-take_first-root}
use Rattle.lot_park.proofs.parking.unpark_count_in.Goals as goal

own : (g : Over) (c : After-take_first-root g) → IsRootOf g.S.Root.Root.view c.args.key c.args.bucket.now.queue c.take_first-root.result.0
own g c = own_root g.S.Root.Root.view _ _ _ c.requires.ready c.take_first-root.ensures.root

-- what the callback is told
told : (g : Over) (c : After-take_first-root g)
    → TellsCount c.args.bucket.now.room c.args.count (g.S.Root.Root.view c.take_first-root.result.0).line c.take_first-root.result.1
    c.take_first-root.result.2
told g c = rw (own g c).same_line c.take_first-root.ensures.told

-- what was taken of the bucket, once the root is back
took : (g : Over) (c : After-take_first-root g) (after : Contents g.row.S-Root.Denot) (root : g.row.S-Root.Denot) (threads : List ℕ)
    → threads ≡ take c.args.count (line_of c.args.key c.args.bucket.now.queue)
    → after ≡ record c.take_first-root.new.bucket { places = with_root c.args.key (Some root) c.take_first-root.new.bucket.places }
    → TakesFirst c.args.count c.args.key c.args.bucket.now (record after { places = c.args.bucket.now.places }) threads
    c.take_first-root.result.1 c.take_first-root.result.2
took g c after root threads line put =
    took_count c.args.key c.args.count c.args.bucket.now c.take_first-root.new.bucket after
    (with_root c.args.key (Some root) c.take_first-root.new.bucket.places) (with_root c.args.key None c.args.bucket.now.places) threads
    c.take_first-root.result.1 c.take_first-root.result.2 line c.take_first-root.ensures.told.number c.take_first-root.ensures.others
    c.take_first-root.ensures.left put

pub f-y-requires : goal.f-y-requires
f-y-requires g c =
    let at = (goal.at.f-y-requires g c).After-take_first-root in
    c.requires.callable c.take_first-root.result.0 c.take_first-root.result.1 c.take_first-root.result.2 (own g at).named
    (own g at).paid (told g at)

pub put_root-requires-clause-has : goal.put_root-requires-clause-has
put_root-requires-clause-has g c =
    place_has c.args.key c.args.bucket.now.places _ c.requires.ready.has
    (ap (λ (b : Contents g.row.S-Root.Denot). b.places) c.take_first-root.ensures.left)

pub put_root-requires-clause-room : goal.put_root-requires-clause-room
put_root-requires-clause-room g c =
    place_empty c.args.key c.args.bucket.now.places _ c.requires.ready.has
    (ap (λ (b : Contents g.row.S-Root.Denot). b.places) c.take_first-root.ensures.left)

pub returns-clause-stays : goal.returns-clause-stays
returns-clause-stays g c =
    let at = (goal.at.returns-clause-stays g c).After-take_first-root in
    let kept = c.requires.keeps c.take_first-root.result.0 c.take_first-root.result.1 c.take_first-root.result.2 c.f-y.result
    (own g at).named (own g at).paid (told g at) c.f-y.ensures in
    let left = c.take_first-root.ensures.left in
    unparked_stays g.S.Root.Root.view _ _ _ _ _ _ _ c.requires.ready c.take_first-root.ensures.root
    (ap (λ (b : Contents g.row.S-Root.Denot). b.opened) left) (ap (λ (b : Contents g.row.S-Root.Denot). b.room) left)
    (ap (λ (b : Contents g.row.S-Root.Denot). b.places) left)
    (ap (λ (b : Contents g.row.S-Root.Denot). b.queue) left)
    c.put_root.ensures (c.pay_all-root.ensures.key ∙ kept.0) (c.pay_all-root.ensures.line ∙ kept.1) c.pay_all-root.ensures.paid

pub returns-clause-called : goal.returns-clause-called
returns-clause-called g c =
    let at = (goal.at.returns-clause-called g c).After-take_first-root in
    rw c.taken_of.ensures.count
    (record {
      root = c.take_first-root.result.0;
      from = record { named = (own g at).named; paid = (own g at).paid; lay = c.take_first-root.ensures.root };
      more = c.take_first-root.result.2;
      answer = c.f-y.result;
      told = told g at;
      called = c.f-y.ensures;
      same = refl;
      left = record c.put_root.new.self { places = c.args.bucket.now.places };
      took =
          took g at c.put_root.new.self c.pay_all-root.result
          (take c.args.count (g.S.Root.Root.view c.take_first-root.result.0).line)
          (ap (λ xs. take c.args.count xs) (own g at).same_line) c.put_root.ensures;
    })

pub returns-clause-took : goal.returns-clause-took
returns-clause-took g c = (
  c.take_first-root.result.2,
  rw (c.taken_of.ensures.count, c.taken_of.ensures.threads)
      (took g (goal.at.returns-clause-took g c).After-take_first-root c.put_root.new.self c.pay_all-root.result _
      c.take_first-root.ensures.line c.put_root.ensures),
)

pub pay_all-root-requires-after_bounds : goal.pay_all-root-requires-after_bounds
pay_all-root-requires-after_bounds g c = search rules
