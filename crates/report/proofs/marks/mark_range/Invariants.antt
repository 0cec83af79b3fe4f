-- The places so far are marked.
use Rattle.std.proofs.Common.{◌≡◌, ◌&&◌, ℕ, max, nat_le, nat_lt}
use Rattle.report.specs.Marks.{flag, mark_at}
use Rattle.report.proofs.marks.mark_range.Given as goal

abbrev pub invariant-loop-place : goal.invariant-loop-place
invariant-loop-place l =
    (k : ℕ) → mark_at l.bits k ≡ max (mark_at l.initial.bits k) (flag (nat_le l.from k && nat_lt k l.place))
