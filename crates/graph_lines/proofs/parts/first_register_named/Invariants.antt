use Rattle.std.proofs.Common.{◌≡◌, drop}
use Rattle.graph_lines.specs.Syntax.{register_named}
use Rattle.graph_lines.proofs.parts.first_register_named.Given as goal

abbrev pub invariant-loop-register : goal.invariant-loop-register
invariant-loop-register l = register_named (drop l.register-index l.registers) l.word ≡ register_named l.registers l.word
