use Rattle.std.proofs.Common.{◌≡◌, map, take}
use Rattle.bank_values.specs.ReadBack.{predicate_at}
use Rattle.lift_rounds.specs.Known.{reading}
use Rattle.graph_data.specs.Parts.{Each}
use Rattle.site_lines.specs.Subject.{subject_of}
use Rattle.lifted_exact.specs.Looked.{IsLookedSite}
use Rattle.lifted_parts.specs.Built.{site_of}
use Rattle.function_lifter.specs.Whole.{AreCalled}
use Rattle.function_lifter.proofs.build.sites_of.Given as goal

abbrev pub invariant-loop-address : goal.invariant-loop-address
invariant-loop-address g l = record {
  value : l.sites ≡ take l.address-index (map (site_of (subject_of l.program) l.lift.graph (reading (predicate_at (g.B.Bank.terms l.bank)) l.lift.made.items)) l.addresses);
  called : AreCalled l.sites l.targets.items;
  looked : Each IsLookedSite l.sites;
}
