use Rattle.instr_at.specs.At.{instr_at}
use Rattle.std.specs.List.{flat_map}
use Rattle.edge_checker.specs.Breaks.{first, site_breaks}
use Rattle.edge_checker.proofs.FirstLemmas.{IsFirstFrom}
use Rattle.edge_checker.proofs.sites.function_break.Given as goal

abbrev pub invariant-loop-site : goal.invariant-loop-site
invariant-loop-site l =
    IsFirstFrom (site_breaks l.image (instr_at l.image) l.entries l.f) l.f.sites l.site-index
    (first (flat_map (site_breaks l.image (instr_at l.image) l.entries l.f) l.f.sites))
