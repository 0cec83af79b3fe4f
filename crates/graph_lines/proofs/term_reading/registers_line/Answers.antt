use Rattle.std.proofs.Common.{subst, sym, ◌∙◌}
use Rattle.term_text.specs.Reading.{Gives}
use Rattle.graph_lines.proofs.ReadLemmas.{registers_is, registers_fail}
use Rattle.graph_lines.proofs.term_reading.registers_line.Goals as goal

pub returns-then-are_givens-clause-exact : goal.returns-then-are_givens-clause-exact
returns-then-are_givens-clause-exact c = subst (λ r. Gives (λ l. l) c.read_registers.result r) (registers_is c.args.rest.now (sym c.are_givens.ensures ∙ c.if-are_givens.true)) c.read_registers.ensures.exact

pub returns-else-are_givens-clause-exact : goal.returns-else-are_givens-clause-exact
returns-else-are_givens-clause-exact c = registers_fail c.args.rest.now (sym c.are_givens.ensures ∙ c.if-are_givens.false)
