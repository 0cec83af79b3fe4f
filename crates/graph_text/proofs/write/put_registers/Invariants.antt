use Rattle.std.proofs.Common.{◌≡◌, ◌++◌, drop}
use Rattle.graph_builder.specs.Lines.{given_of, registers_lines}
use Rattle.graph_text.specs.Text.{lines_text}
use Rattle.graph_text.proofs.WriteLemmas.{given_from, to_give}
use Rattle.graph_text.proofs.write.put_registers.Given as goal

abbrev pub invariant-loop-register : goal.invariant-loop-register
invariant-loop-register l = l.out.items ++ to_give l.first (given_from l.register (drop l.register l.regs)) ≡ l.initial.out.items ++ lines_text (registers_lines (given_of l.regs))
