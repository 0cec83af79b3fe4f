-- The regions that a callee is taken to leave as they were: the critical cells where it begins.
use Rattle.std.specs.Prelude.{Bool, List, [], ◌∷◌, map, filter, take}
use Rattle.std.specs.List.{list_any}
use Rattle.std.specs.Ordering.{is_eq}
use Rattle.memory_regions.specs.declared.region.Region.{Region}
use Rattle.predicates.specs.Predicate.{Predicate}
use Rattle.graph_data.specs.Limits.{most_keeps}
use Rattle.graph_data.specs.Order.{region_cmp}
use Rattle.x86_instr.specs.declared.instr.Instr.{Instr}
use Rattle.step_rules.specs.View.{View}
use Rattle.step_rules.specs.Calls.{begin}
use Rattle.site_lines.specs.Ordered.{ordered}
use Rattle.site_lines.specs.Critical.{critical_cells}

-- whether a region is in a list
abbrev pub has_region : List Region → Region → Bool
has_region regions r = list_any (λ s. is_eq (region_cmp s r)) regions

-- the regions that are in each of the other lists too
abbrev pub shared : List Region → List (List Region) → List Region
shared regions [] = regions
shared regions (more ∷ rest) = shared (filter (has_region more) regions) rest

-- the critical cells where the callee begins
abbrev pub saved_at : View → Instr → Predicate → List Region
saved_at v i p = critical_cells (begin v i p).forest

-- the first of those that each vertex has, ascending, as many as a site may have
abbrev pub saved_of : View → Instr → List Predicate → List Region
saved_of v i [] = []
saved_of v i (p ∷ preds) = take most_keeps (ordered region_cmp (shared (saved_at v i p) (map (saved_at v i) preds)))
