use Rattle.std.proofs.Common.{arith}
use Rattle.std.proofs.lemmas.Grind.{common_steps}
use Rattle.graph_lines.specs.Words.{fields}
use Rattle.graph_lines.specs.Line.{IsEntry}
use Rattle.graph_lines.specs.Steps.{entry_of}
use Rattle.graph_lines.proofs.EachLemmas.{each_push}
use Rattle.graph_lines.proofs.ReadLemmas.{read_more}
use Rattle.graph_lines.proofs.term_reading.read_givens.Goals as goal

pub loop-after-preserved : goal.loop-after-preserved
loop-after-preserved c = record {
  value =
      let so_far = rw c.in-Some.is at c.loop-after.invariant.value in
      read_more entry_of c.loop-after.given _ (fields 32 c.in-Some.bytes.now) _ c.first_field.result.0.now c.in_ok-entry.entry _ c.in_ok-push.ensures.ok c.first_field.ensures.value c.in_ok-entry.ensures.exact so_far;
  each = rw c.in_ok-push.ensures.ok (each_push IsEntry c.loop-after.given c.in_ok-entry.entry c.loop-after.invariant.each c.in_ok-entry.ensures.entry);
  some = grind (arith, common_steps);
}
