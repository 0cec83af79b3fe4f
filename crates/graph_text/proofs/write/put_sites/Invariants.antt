use Rattle.std.proofs.Common.{◌≡◌, ◌++◌, drop}
use Rattle.std.specs.List.{flat_map}
use Rattle.graph_builder.specs.Lines.{site_lines}
use Rattle.graph_text.specs.Text.{lines_text}
use Rattle.graph_text.proofs.write.put_sites.Given as goal

abbrev pub invariant-loop-site : goal.invariant-loop-site
invariant-loop-site l = l.out.items ++ lines_text (flat_map site_lines (drop l.site-index l.sites)) ≡ l.initial.out.items ++ lines_text (flat_map site_lines l.sites)
