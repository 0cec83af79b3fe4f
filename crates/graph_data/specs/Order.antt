-- The orders of regions and pairs; what stands at which kind of site is given on.
use Rattle.std.specs.Prelude.{Bool}
use Rattle.std.specs.declared.cmp.Ordering.{Ordering}
use Rattle.std.specs.Ordering.{is_lt, ordering_then, nat_cmp}
use Rattle.sym_terms.specs.Order.{sum_cmp}
use Rattle.memory_regions.specs.declared.region.Region.{Region}
pub use Rattle.predicates.specs.Kinds.{has_edges, may_fork, may_keep}

-- regions by term, then size
abbrev pub region_cmp : Region → Region → Ordering
region_cmp r s = ordering_then (sum_cmp r.at s.at) (nat_cmp r.bytes s.bytes)

-- pairs of regions by the first, then the second
abbrev pub pair_cmp : Region × Region → Region × Region → Ordering
pair_cmp p q = ordering_then (region_cmp p.0 q.0) (region_cmp p.1 q.1)

-- whether one region stands before another
abbrev pub region_before : Region → Region → Bool
region_before r s = is_lt (region_cmp r s)

-- whether one pair stands before another
abbrev pub pair_before : Region × Region → Region × Region → Bool
pair_before p q = is_lt (pair_cmp p q)
