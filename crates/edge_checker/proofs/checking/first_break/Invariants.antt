use Rattle.instr_at.specs.At.{instr_at}
use Rattle.edge_checker.specs.Decisions.{entries_of}
use Rattle.edge_checker.specs.Breaks.{first, function_breaks, breaks_of}
use Rattle.edge_checker.proofs.FirstLemmas.{IsFirstFrom}
use Rattle.edge_checker.proofs.checking.first_break.Given as goal

abbrev pub invariant-loop-function : goal.invariant-loop-function
invariant-loop-function l =
    IsFirstFrom (function_breaks l.image (instr_at l.image) (entries_of l.g)) l.g.functions l.function-index
    (first (breaks_of l.image (instr_at l.image) l.g))
