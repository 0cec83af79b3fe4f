-- The lines of the sites so far are written.
use Rattle.std.proofs.Common.{◌≡◌, ◌++◌, take}
use Rattle.std.specs.List.{flat_map}
use Rattle.instr_at.specs.At.{instr_at}
use Rattle.report.specs.Text.{site_lines}
use Rattle.report.proofs.text.put_sites.Given as goal

abbrev pub invariant-loop-site : goal.invariant-loop-site
invariant-loop-site l =
    l.out.items ≡ l.initial.out.items ++ flat_map (site_lines (instr_at l.image)) (take l.site-index l.sites)
