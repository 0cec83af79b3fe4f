use Rattle.lift_rounds.specs.Known.{IsHeld, known_of}
use Rattle.lift_openings.proofs.CopyLemmas.{all_more, copied_more}
use Rattle.lift_openings.proofs.copies.copy_made.Goals as goal

pub loop-one-preserved : goal.loop-one-preserved
loop-one-preserved g c =
    let t = g.S.Steps in
    let read = known_of (t.read c.args.steps.now) in
    let more = c.in_ok-push.ensures.items in
    record {
      value = copied_more read read c.args.made.now c.loop-one.one-index c.one-item.result c.loop-one.copies.items c.push.new.self.items c.in_ok-copy_one.field-0
          c.loop-one-test.true c.one-item.is c.loop-one.invariant.value c.in_ok-copy_one.ensures.value more;
      inside = all_more (λ m. IsHeld (t.has c.args.steps.now) m) c.loop-one.copies.items c.push.new.self.items c.in_ok-copy_one.field-0 c.loop-one.invariant.inside c.in_ok-copy_one.ensures.inside more;
    }
