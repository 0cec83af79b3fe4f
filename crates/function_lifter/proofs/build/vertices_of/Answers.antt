use Rattle.bank_values.specs.ReadBack.{predicate_at}
use Rattle.lift_rounds.specs.Known.{reading}
use Rattle.lifted_exact.specs.Looked.{IsLookedVertex}
use Rattle.lifted_parts.specs.Built.{vertex_of}
use Rattle.function_lifter.proofs.EachLemmas.{each_one_more, mapped_more}
use Rattle.function_lifter.proofs.build.vertices_of.Goals as goal

pub loop-vertex-preserved : goal.loop-vertex-preserved
loop-vertex-preserved g c =
    let lift = c.args.lift.now in
    let known = reading (predicate_at (g.B.Bank.terms c.args.bank.now)) lift.made.items in
    let before = c.loop-vertex.invariant in
    let one = c.in_ok-vertex_of.ensures in
    let more = c.in_ok-push.ensures.ok in
    record {
      value = mapped_more (vertex_of lift.graph known) c.args.site.now c.loop-vertex.vertex-index 0 c.loop-vertex.vertices c.push.new.self c.in_ok-vertex_of.field-0 c.loop-vertex-test.true before.value one.value more;
      looked = each_one_more IsLookedVertex c.loop-vertex.vertices c.push.new.self c.in_ok-vertex_of.field-0 more before.looked one.looked;
    }
