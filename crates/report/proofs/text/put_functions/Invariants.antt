-- The lines of the functions so far are written.
use Rattle.std.proofs.Common.{◌≡◌, ◌++◌, take}
use Rattle.std.specs.List.{flat_map}
use Rattle.instr_at.specs.At.{instr_at}
use Rattle.report.specs.Text.{function_lines}
use Rattle.report.proofs.text.put_functions.Given as goal

abbrev pub invariant-loop-function : goal.invariant-loop-function
invariant-loop-function l =
    l.out.items ≡ l.initial.out.items ++ flat_map (function_lines (instr_at l.image)) (take l.function-index l.functions)
