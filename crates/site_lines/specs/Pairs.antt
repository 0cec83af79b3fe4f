-- The pairs of regions that are taken as separate at a site, so that a store there keeps the critical cells.
use Rattle.std.specs.Prelude.{Bool, true, false, ◌&&◌, is_none, List, [], map, filter, take, flat_map, None, Option, Some}
use Rattle.memory_regions.specs.declared.region.Region.{Region}
use Rattle.memory_regions.specs.declared.region.Relation.{Relation}
use Rattle.memory_regions.specs.declared.region.Relation.TheVariants.{Alias, Separate, Inside, Around, Overlap, Unknown}
use Rattle.memory_regions.specs.Relate.{Known, relate}
use Rattle.mem_forest.specs.Plain.{PlainForest}
use Rattle.mem_forest.specs.Search.{find}
use Rattle.mem_forest.specs.Store.{store}
use Rattle.predicates.specs.Predicate.{Predicate}
use Rattle.graph_data.specs.Limits.{most_pairs}
use Rattle.graph_data.specs.Order.{pair_cmp}
use Rattle.x86_instr.specs.declared.instr.Instr.{Instr}
use Rattle.step_rules.specs.Drop.{dropped}
use Rattle.step_rules.specs.Site.{store_region}
use Rattle.site_lines.specs.Ordered.{ordered}
use Rattle.site_lines.specs.Critical.{critical_cells}

-- nothing says how two regions lie
abbrev pub is_unknown : Relation → Bool
is_unknown Alias = false
is_unknown Separate = false
is_unknown Inside = false
is_unknown Around = false
is_unknown Overlap = false
is_unknown Unknown = true

-- a forest after a store of an unknown number to a region
abbrev pub stored_to : Known → Region → PlainForest → PlainForest
stored_to known r f = store (relate known r.at r.bytes) r.at r.bytes None f

-- whether a cell at the second region, which nothing tells from the first, isn't in a forest after a store to the first
abbrev pub is_threat : Known → PlainForest → Region → Region → Bool
is_threat known stored r a =
    is_unknown (relate known r.at r.bytes a.at a.bytes) && is_none (find a.at a.bytes stored)

-- the critical cells of a forest that a store to a region removes so, each with the region
abbrev pub threatened : Known → PlainForest → Option Region → List (Region × Region)
threatened known f None = []
threatened known f (Some r) = map (λ a. (r, a)) (filter (is_threat known (stored_to known r f) r) (critical_cells f))

-- the same, of an instruction's store at what is known without its site's old name
abbrev pub pairs_at : Known → Instr → Predicate → List (Region × Region)
pairs_at known i p = threatened known (dropped i p).forest (store_region i p)

-- the first of these of all vertices, ascending, as many as a site may have
abbrev pub pairs_of : Known → Instr → List Predicate → List (Region × Region)
pairs_of known i preds = take most_pairs (ordered pair_cmp (flat_map (pairs_at known i) preds))
