use Rattle.std.proofs.Common.{arith, rules, sym, ◌∙◌}
use Rattle.term_text.proofs.RunLemmas.{goes_on, steps_on}
use Rattle.term_text.proofs.parser.run_parser.Goals.{then-not-is_word_byte+in_ok-step+in-Some, else-not-is_word_byte}
use Rattle.term_text.proofs.parser.run_parser.Goals as goal

pub loop-i-preserved : goal.loop-i-preserved
loop-i-preserved c =
    let l = c.loop-i in
    elim c.if-not-is_word_byte.branch [
      | then-not-is_word_byte+in_ok-step+in-Some w ↦ (omega arith, rw (w.parser-is, w.begin-is) (steps_on l.parser w.in-Some.next c.args.bytes.now l.begin l.i _ l.invariant.0 c.loop-i-test.true (sym c.is_word_byte.ensures ∙ search rules) (sym w.in-Some.is ∙ w.in_ok-step.ensures) l.invariant.1))
      | else-not-is_word_byte w ↦ (omega arith, rw (w.parser-is, w.begin-is) (goes_on l.parser c.args.bytes.now l.begin l.i _ l.invariant.0 c.loop-i-test.true (sym c.is_word_byte.ensures ∙ search rules) l.invariant.1))
    ]
