-- Whether a line is within the limits, with those before it.
use Rattle.std.specs.Prelude.{ℕ, ◌+◌, Bool, true, ◌&&◌, nat_le, nat_lt, List, [], ◌∷◌, length}
use Rattle.mem_forest.specs.Plain.{PlainNode, cells, count}
use Rattle.predicates.specs.Limits.{most_bounds}
use Rattle.graph_data.specs.declared.graph.Site.{Site}
use Rattle.graph_data.specs.Limits.{most_pairs, most_keeps, most_vertices, most_edges, most_frame}
use Rattle.graph_lines.specs.declared.line.Line.{Line}
use Rattle.graph_lines.specs.declared.line.Line.TheVariants as line
use Rattle.graph_lines.specs.declared.line.SiteLine.{SiteLine}
use Rattle.graph_lines.specs.declared.line.SiteLine.TheVariants as in_site
use Rattle.graph_lines.specs.declared.line.VertexLine.{VertexLine}
use Rattle.graph_lines.specs.declared.line.VertexLine.TheVariants as in_vertex
use Rattle.graph_lines.specs.LineLimits.{is_within_number_limit}
use Rattle.graph_builder.specs.declared.builder.PartialVertex.{PartialVertex}
use Rattle.graph_builder.specs.declared.builder.Position.{Position}
use Rattle.graph_builder.specs.Follow.{at_site, at_vertex}

-- the most nodes of a vertex
abbrev pub most_vertex_nodes : ℕ
most_vertex_nodes = 64

-- the most names of a node
abbrev pub most_node_names : ℕ
most_node_names = 8

-- the nodes of levels, with those under them
abbrev pub count_of : List (List PlainNode) → ℕ
count_of [] = 0
count_of (nodes ∷ levels) = count (cells nodes) + count_of levels

-- whether a site has room for a line
abbrev pub has_room_in_site : SiteLine → Site → Bool
has_room_in_site (in_site.Pair a b) s = nat_lt (length s.seps) most_pairs
has_room_in_site (in_site.Fork a b) s = true
has_room_in_site (in_site.Keep r) s = nat_lt (length s.keeps) most_keeps

-- whether a vertex has room for a line, which keeps its own limits
abbrev pub has_room_in_vertex : VertexLine → PartialVertex → Bool
has_room_in_vertex (in_vertex.Registers given) v = true
has_room_in_vertex (in_vertex.Flags fact) v = true
has_room_in_vertex (in_vertex.Bound b) v =
    is_within_number_limit b.set && nat_lt (length v.bounds) most_bounds
has_room_in_vertex (in_vertex.Node level c) v =
    nat_le (length c.names) most_node_names && nat_lt (count_of v.levels) most_vertex_nodes
has_room_in_vertex (in_vertex.Edges out) v = nat_le (length out) most_edges

-- whether a line keeps the limits
abbrev pub is_within : Position → Line → Bool
is_within p (line.Function entry below above) = nat_le below most_frame && nat_le above most_frame
is_within p (line.Refused entry) = true
is_within p (line.Site addr kind) = true
is_within p (line.Vertex n) = nat_lt n most_vertices
is_within p (line.InSite l) = at_site (has_room_in_site l) p
is_within p (line.InVertex l) = at_vertex (λ s v. has_room_in_vertex l v) p
is_within p line.End = true
