use Rattle.std.specs.List.{flat_map, enumerate_from, zip}
use Rattle.edge_checker.specs.Breaks.{first, edge_breaks}
use Rattle.edge_checker.proofs.FirstLemmas.{IsFirstFrom}
use Rattle.edge_checker.proofs.edges.first_edge_break.Given as goal

abbrev pub invariant-loop-case : goal.invariant-loop-case
invariant-loop-case l =
    IsFirstFrom (edge_breaks l.f l.s l.number) (enumerate_from 0 (zip l.cases l.out)) l.case
    (first (flat_map (edge_breaks l.f l.s l.number) (enumerate_from 0 (zip l.cases l.out))))
