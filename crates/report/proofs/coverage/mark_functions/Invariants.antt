-- The bytes of the functions so far are marked.
use Rattle.std.proofs.Common.{◌≡◌, ◌+◌, ◌&&◌, ℕ, max, take, nat_lt}
use Rattle.instr_at.specs.At.{instr_at}
use Rattle.report.specs.Marks.{flag, mark_at}
use Rattle.report.specs.Coverage.{is_covered}
use Rattle.report.proofs.coverage.mark_functions.Given as goal

abbrev pub invariant-loop-function : goal.invariant-loop-function
invariant-loop-function l =
    (k : ℕ) → mark_at l.bits k ≡ max (mark_at l.initial.bits k)
    (flag (nat_lt k l.size && is_covered (instr_at l.image) (take l.function-index l.functions) (l.lo + k)))
