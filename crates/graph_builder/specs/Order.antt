-- Whether a line follows those before it in order, and its parts each other.
use Rattle.std.specs.Prelude.{ℕ, zero, suc, ◌+◌, ◌==◌, Bool, true, false, not, ◌&&◌, ◌||◌, nat_lt, Option, List, [], ◌∷◌, length}
use Rattle.std.specs.List.{list_any}
use Rattle.sym_terms.specs.Plain.{PlainSum}
use Rattle.mem_forest.specs.Plain.{PlainForest, none, cell, PlainNode, cells}
use Rattle.mem_forest.specs.Search.{has_name}
use Rattle.mem_forest.specs.Shape.{ascending, comes_before}
use Rattle.predicates.specs.Bounds.{in_order, values_ascend, key_before}
use Rattle.graph_data.specs.declared.graph.Site.{Site}
use Rattle.graph_data.specs.declared.graph.Function.{Function}
use Rattle.graph_data.specs.Order.{region_before, pair_before}
use Rattle.graph_lines.specs.declared.line.Line.{Line}
use Rattle.graph_lines.specs.declared.line.Line.TheVariants as line
use Rattle.graph_lines.specs.declared.line.SiteLine.{SiteLine}
use Rattle.graph_lines.specs.declared.line.SiteLine.TheVariants as in_site
use Rattle.graph_lines.specs.declared.line.VertexLine.{VertexLine}
use Rattle.graph_lines.specs.declared.line.VertexLine.TheVariants as in_vertex
use Rattle.graph_builder.specs.declared.builder.PartialVertex.{PartialVertex}
use Rattle.graph_builder.specs.declared.builder.Position.{Position}
use Rattle.graph_builder.specs.declared.builder.Position.TheVariants as position
use Rattle.graph_builder.specs.declared.builder.Builder.{Builder}
use Rattle.graph_builder.specs.Follow.{at_site, at_vertex}

-- whether the last of a list, if there is one, is before something
abbrev pub extends_order : {A B : Type 0} → (A → B → Bool) → List A → B → Bool
extends_order before [] y = true
extends_order before (x ∷ []) y = before x y
extends_order before (x ∷ z ∷ xs) y = extends_order before (z ∷ xs) y

-- whether an entry is above that of the last of functions
abbrev pub entry_extends : List Function → ℕ → Bool
entry_extends functions entry = extends_order (λ f n. nat_lt f.entry n) functions entry

-- whether an address is above that of the last of sites
abbrev pub address_extends : List Site → ℕ → Bool
address_extends sites addr = extends_order (λ s n. nat_lt s.addr n) sites addr

-- whether an entry is above that of the last function, which may not be whole yet
abbrev pub entry_in_order : List Function → Position → ℕ → Bool
entry_in_order functions position.Between entry = entry_extends functions entry
entry_in_order functions (position.Function f) entry = nat_lt f.entry entry
entry_in_order functions (position.Site f s) entry = nat_lt f.entry entry
entry_in_order functions (position.Vertex f s v) entry = nat_lt f.entry entry
entry_in_order functions position.Ended entry = entry_extends functions entry

-- whether there is a function, and an address is above that of its last site
abbrev pub address_in_order : Position → ℕ → Bool
address_in_order position.Between addr = false
address_in_order (position.Function f) addr = address_extends f.sites addr
address_in_order (position.Site f s) addr = nat_lt s.addr addr
address_in_order (position.Vertex f s v) addr = nat_lt s.addr addr
address_in_order position.Ended addr = false

-- whether there is a site, and a number is that of its next vertex
abbrev pub number_in_order : Position → ℕ → Bool
number_in_order position.Between n = false
number_in_order (position.Function f) n = false
number_in_order (position.Site f s) n = n == length s.vertices
number_in_order (position.Vertex f s v) n = n == length s.vertices + 1
number_in_order position.Ended n = false

-- whether a line of a site is after those of its kind
abbrev pub site_line_in_order : SiteLine → Site → Bool
site_line_in_order (in_site.Pair a b) s = extends_order pair_before s.seps (a, b)
site_line_in_order (in_site.Fork a b) s = true
site_line_in_order (in_site.Keep r) s = extends_order region_before s.keeps r

-- whether the registers ascend
abbrev pub registers_ascend : List (ℕ × Option PlainSum) → Bool
registers_ascend given = in_order (λ a b. nat_lt a.0 b.0) given

-- the nodes of a level, none where there is no such level
abbrev pub level_at : ℕ → List (List PlainNode) → List PlainNode
level_at level [] = []
level_at zero (nodes ∷ levels) = nodes
level_at (suc level) (nodes ∷ levels) = level_at level levels

-- whether a node has the size and one of the names
abbrev pub aliases : PlainNode → List PlainSum → ℕ → Bool
aliases c ns b = (b == c.bytes) && list_any (λ name. has_name name ns) c.names

-- whether a node has the size and a name of one of a forest
abbrev pub collides : PlainNode → PlainForest → Bool
collides c none = false
collides c (cell ns b v under rest) = aliases c ns b || (collides c under || collides c rest)

-- whether a node stands before another of its level
abbrev pub node_before : PlainNode → PlainNode → Bool
node_before c d = comes_before c.names c.bytes d.names d.bytes

-- whether a node is after the last of its level
abbrev pub level_fits : ℕ → PlainNode → List (List PlainNode) → Bool
level_fits level c levels = extends_order node_before (level_at level levels) c

-- whether it is, and no node has its size and one of its names
abbrev pub node_fits : ℕ → PlainNode → List (List PlainNode) → Bool
node_fits level c levels =
    level_fits level c levels && not (list_any (λ nodes. collides c (cells nodes)) levels)

-- whether a line of a vertex is in order, with its own parts and after those before it
abbrev pub vertex_line_in_order : VertexLine → PartialVertex → Bool
vertex_line_in_order (in_vertex.Registers given) v = registers_ascend given
vertex_line_in_order (in_vertex.Flags fact) v = true
vertex_line_in_order (in_vertex.Bound b) v =
    values_ascend b.set && extends_order key_before v.bounds b
vertex_line_in_order (in_vertex.Node level c) v = ascending c.names && node_fits level c v.levels
vertex_line_in_order (in_vertex.Edges out) v = true

-- whether a line is in order, with its own parts and after the lines before it
abbrev pub is_in_order : Builder → Line → Bool
is_in_order b (line.Function entry below above) = entry_in_order b.functions b.position entry
is_in_order b (line.Refused entry) = entry_in_order b.functions b.position entry
is_in_order b (line.Site addr kind) = address_in_order b.position addr
is_in_order b (line.Vertex n) = number_in_order b.position n
is_in_order b (line.InSite l) = at_site (site_line_in_order l) b.position
is_in_order b (line.InVertex l) = at_vertex (λ s v. vertex_line_in_order l v) b.position
is_in_order b line.End = true
