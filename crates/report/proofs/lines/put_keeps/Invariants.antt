-- The lines of the regions so far are written.
use Rattle.std.proofs.Common.{◌≡◌, ◌++◌, take}
use Rattle.std.specs.List.{flat_map}
use Rattle.report.specs.Text.{keep_line}
use Rattle.report.proofs.lines.put_keeps.Given as goal

abbrev pub invariant-loop-region : goal.invariant-loop-region
invariant-loop-region l =
    l.out.items ≡ l.initial.out.items ++ flat_map (keep_line l.addr) (take l.region-index l.keeps)
