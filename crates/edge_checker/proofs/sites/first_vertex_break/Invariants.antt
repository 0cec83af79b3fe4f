use Rattle.std.specs.List.{flat_map, enumerate_from}
use Rattle.edge_checker.specs.Breaks.{first, vertex_breaks}
use Rattle.edge_checker.proofs.FirstLemmas.{IsFirstFrom}
use Rattle.edge_checker.proofs.sites.first_vertex_break.Given as goal

abbrev pub invariant-loop-number : goal.invariant-loop-number
invariant-loop-number l =
    IsFirstFrom (vertex_breaks l.image l.f l.s l.i) (enumerate_from 0 l.s.vertices) l.number
    (first (flat_map (vertex_breaks l.image l.f l.s l.i) (enumerate_from 0 l.s.vertices)))
