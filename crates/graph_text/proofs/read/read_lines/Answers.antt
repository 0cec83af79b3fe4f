use Rattle.std.proofs.Common.{◌≡◌, Some, sym, ◌∙◌, rules, arith}
use Rattle.graph_lines.specs.Words.{split_at}
use Rattle.graph_text.specs.ConsumedText.{read_text}
use Rattle.graph_text.proofs.RunLemmas.{run_taken, run_refused, end_read, end_refused, run_begins, nothing_read, text_step, text_ends}
use Rattle.graph_text.proofs.read.read_lines.Goals as goal

pub loop-bytes-init : goal.loop-bytes-init
loop-bytes-init c =
    let b = c.new-builder.result in
    let text = c.args.text.now in
    record {
      exact = run_begins b text c.new-builder.ensures.value;
      built = c.new-builder.ensures.built.0;
      text = nothing_read b text c.new-builder.ensures.built.1;
      count = omega arith;
    }

pub loop-bytes-preserved : goal.loop-bytes-preserved
loop-bytes-preserved c =
    let n = c.loop-bytes.line in
    let b = c.loop-bytes.builder in
    let d = c.in-Ok.next in
    let rest = c.loop-bytes.rest.now in
    let bytes = c.in-Some.bytes.now in
    let after = c.in-Some.after.now in
    let parted : split_at 10 rest ≡ Some (bytes, after) = search rules in
    record {
      exact = sym (run_taken n b d rest bytes after parted c.in-Ok.ensures.exact) ∙ c.loop-bytes.invariant.exact;
      built = c.in-Ok.ensures.found.built;
      text = text_step c.args.text.now rest bytes after (read_text b) (read_text d) c.loop-bytes.invariant.text parted c.in-Ok.ensures.found.text;
      count = omega (arith, c.in-Some.ensures.shorter);
    }

pub returns-in-Err-clause-exact : goal.returns-in-Err-clause-exact
returns-in-Err-clause-exact c = search (rules, run_refused)

pub returns-in-Ok-take_end-clause-exact : goal.returns-in-Ok-take_end-clause-exact
returns-in-Ok-take_end-clause-exact c = search (rules, end_read)

pub returns-in-Ok-take_end-clause-found : goal.returns-in-Ok-take_end-clause-found
returns-in-Ok-take_end-clause-found c =
    let found = c.in-Ok-take_end.ensures.found in
    (found.0.0, text_ends c.args.text.now c.loop-bytes.rest.now c.loop-bytes.builder c.in-Ok-take_end.graph c.loop-bytes.invariant.text found.1 found.0.1)

pub returns-clause-exact : goal.returns-clause-exact
returns-clause-exact c = search (rules, end_refused)
