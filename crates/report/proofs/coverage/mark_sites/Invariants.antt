-- The bytes of the sites so far are marked.
use Rattle.std.proofs.Common.{◌≡◌, ◌+◌, ◌&&◌, ℕ, max, take, nat_lt}
use Rattle.std.specs.List.{list_any}
use Rattle.instr_at.specs.At.{instr_at}
use Rattle.report.specs.Marks.{flag, mark_at}
use Rattle.report.specs.Coverage.{covers}
use Rattle.report.proofs.coverage.mark_sites.Given as goal

abbrev pub invariant-loop-site : goal.invariant-loop-site
invariant-loop-site l =
    (k : ℕ) → mark_at l.bits k ≡ max (mark_at l.initial.bits k)
    (flag (nat_lt k l.size && list_any (covers (instr_at l.image) (l.lo + k)) (take l.site-index l.sites)))
