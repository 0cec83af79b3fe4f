-- Which kinds of lines can come next.
use Rattle.std.specs.Prelude.{Bool, true, false, not, ◌&&◌, ◌==◌, nat_le, is_none, List, length}
use Rattle.predicates.specs.declared.site.Kind.{Kind}
use Rattle.graph_data.specs.declared.graph.Site.{Site}
use Rattle.graph_data.specs.Order.{has_edges, may_fork, may_keep}
use Rattle.graph_lines.specs.declared.line_kind.LineKind.{LineKind}
use Rattle.graph_lines.specs.declared.line_kind.LineKind.TheVariants as line_kind
use Rattle.graph_lines.specs.declared.line_kind.SiteLineKind.{SiteLineKind}
use Rattle.graph_lines.specs.declared.line_kind.SiteLineKind.TheVariants as in_site
use Rattle.graph_lines.specs.declared.line_kind.VertexLineKind.{VertexLineKind}
use Rattle.graph_lines.specs.declared.line_kind.VertexLineKind.TheVariants as in_vertex
use Rattle.graph_builder.specs.declared.builder.PartialVertex.{PartialVertex}
use Rattle.graph_builder.specs.declared.builder.Position.{Position}
use Rattle.graph_builder.specs.declared.builder.Position.TheVariants as position
use Rattle.graph_builder.specs.declared.builder.Builder.{Builder}

-- whether a list has no element
abbrev pub is_empty : {A : Type 0} → List A → Bool
is_empty xs = length xs == 0

-- whether there is a site before its first vertex, and a test holds of it
abbrev pub at_site : (Site → Bool) → Position → Bool
at_site test position.Between = false
at_site test (position.Function f) = false
at_site test (position.Site f s) = test s
at_site test (position.Vertex f s v) = false
at_site test position.Ended = false

-- whether there is a vertex, and a test holds of its site and of it
abbrev pub at_vertex : (Site → PartialVertex → Bool) → Position → Bool
at_vertex test position.Between = false
at_vertex test (position.Function f) = false
at_vertex test (position.Site f s) = false
at_vertex test (position.Vertex f s v) = test s v
at_vertex test position.Ended = false

-- whether a vertex has no edges yet
abbrev pub before_edges : PartialVertex → Bool
before_edges v = is_empty v.out

-- nor nodes
abbrev pub before_nodes : PartialVertex → Bool
before_nodes v = before_edges v && is_empty v.levels

-- nor bounds
abbrev pub before_bounds : PartialVertex → Bool
before_bounds v = before_nodes v && is_empty v.bounds

-- nor a flag fact
abbrev pub before_flags : PartialVertex → Bool
before_flags v = before_bounds v && is_none v.flags

-- whether nothing is missing: at the kinds that have edges there are some
abbrev pub is_whole : Kind → PartialVertex → Bool
is_whole kind v = not (has_edges kind && is_empty v.out)

-- after the head or a refused function: a function, a refused one, or the end
abbrev pub follows_between : LineKind → Bool
follows_between line_kind.Function = true
follows_between line_kind.Refused = true
follows_between line_kind.Site = false
follows_between line_kind.Vertex = false
follows_between (line_kind.InSite kind) = false
follows_between (line_kind.InVertex kind) = false
follows_between line_kind.End = true

-- after a function's own line: its first site
abbrev pub follows_function : LineKind → Bool
follows_function line_kind.Function = false
follows_function line_kind.Refused = false
follows_function line_kind.Site = true
follows_function line_kind.Vertex = false
follows_function (line_kind.InSite kind) = false
follows_function (line_kind.InVertex kind) = false
follows_function line_kind.End = false

-- what can be assumed at a site: pairs, then at most one fork, then kept regions
abbrev pub can_assume : Site → SiteLineKind → Bool
can_assume s in_site.Pair = has_edges s.kind && (is_none s.fork && is_empty s.keeps)
can_assume s in_site.Fork = may_fork s.kind && (is_none s.fork && is_empty s.keeps)
can_assume s in_site.Keep = may_keep s.kind

-- in a site before its first vertex: what is assumed, or the vertex
abbrev pub follows_site : Site → LineKind → Bool
follows_site s line_kind.Function = false
follows_site s line_kind.Refused = false
follows_site s line_kind.Site = false
follows_site s line_kind.Vertex = true
follows_site s (line_kind.InSite kind) = can_assume s kind
follows_site s (line_kind.InVertex kind) = false
follows_site s line_kind.End = false

-- what can be said of a vertex: registers, then the flags, then bounds, then nodes, each at most
-- one
-- level below the last one, then edges
abbrev pub can_say : Kind → PartialVertex → VertexLineKind → Bool
can_say kind v in_vertex.Registers = before_flags v && is_none v.regs
can_say kind v in_vertex.Flags = before_flags v
can_say kind v in_vertex.Bound = before_nodes v
can_say kind v (in_vertex.Node level) = before_edges v && nat_le level (length v.levels)
can_say kind v in_vertex.Edges = has_edges kind && before_edges v

-- in a vertex: what is said of it, and once it is whole what begins anew
abbrev pub follows_vertex : Kind → PartialVertex → LineKind → Bool
follows_vertex kind v line_kind.Function = is_whole kind v
follows_vertex kind v line_kind.Refused = is_whole kind v
follows_vertex kind v line_kind.Site = is_whole kind v
follows_vertex kind v line_kind.Vertex = is_whole kind v
follows_vertex kind v (line_kind.InSite k) = false
follows_vertex kind v (line_kind.InVertex k) = can_say kind v k
follows_vertex kind v line_kind.End = is_whole kind v

-- whether a line of the kind can come next; nothing does after the last line
abbrev pub follows_at : Position → LineKind → Bool
follows_at position.Between k = follows_between k
follows_at (position.Function f) k = follows_function k
follows_at (position.Site f s) k = follows_site s k
follows_at (position.Vertex f s v) k = follows_vertex s.kind v k
follows_at position.Ended k = false

-- whether a line of the kind can come next in what is being built
abbrev pub can_follow : Builder → LineKind → Bool
can_follow b kind = follows_at b.position kind
