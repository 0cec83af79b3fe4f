use Rattle.std.proofs.Common.{◌≡◌, ◌++◌, drop}
use Rattle.std.specs.List.{flat_map}
use Rattle.graph_builder.specs.Lines.{function_lines}
use Rattle.graph_text.specs.Text.{lines_text}
use Rattle.graph_text.proofs.write.put_functions.Given as goal

abbrev pub invariant-loop-function : goal.invariant-loop-function
invariant-loop-function l = l.out.items ++ lines_text (flat_map function_lines (drop l.function-index l.functions)) ≡ l.initial.out.items ++ lines_text (flat_map function_lines l.functions)
