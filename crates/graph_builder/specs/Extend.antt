-- What a line adds to what the lines before it say.
use Rattle.std.specs.Prelude.{ℕ, Some, None, List, [], ◌∷◌, ◌++◌}
use Rattle.predicates.specs.declared.site.Kind.{Kind}
use Rattle.graph_data.specs.declared.graph.Site.{Site}
use Rattle.graph_data.specs.declared.graph.Refused.TheVariants.{NotCode}
use Rattle.graph_data.specs.declared.graph.Function.{Function}
use Rattle.graph_lines.specs.declared.line.Line.{Line}
use Rattle.graph_lines.specs.declared.line.Line.TheVariants as line
use Rattle.graph_lines.specs.declared.line.SiteLine.{SiteLine}
use Rattle.graph_lines.specs.declared.line.SiteLine.TheVariants as in_site
use Rattle.graph_lines.specs.declared.line.VertexLine.{VertexLine}
use Rattle.graph_lines.specs.declared.line.VertexLine.TheVariants as in_vertex
use Rattle.graph_builder.specs.declared.builder.PartialVertex.{PartialVertex}
use Rattle.graph_builder.specs.declared.builder.Position.{Position}
use Rattle.graph_builder.specs.declared.builder.Position.TheVariants as position
use Rattle.graph_builder.specs.declared.builder.Builder.{Builder}
use Rattle.graph_builder.specs.Partial.{filled, empty_vertex, closed_site, with_site, closed_at}
use Rattle.graph_builder.specs.Levels.{with_node}

-- a function without sites
abbrev pub new_function : ℕ → ℕ → ℕ → Function
new_function entry below above =
    record { entry = entry; below = below; above = above; refused = None; sites = [] }

-- a function that is refused, since its entry is no code
abbrev pub refused_function : ℕ → Function
refused_function entry =
    record { entry = entry; below = 0; above = 0; refused = Some NotCode; sites = [] }

-- a site of which nothing is said yet
abbrev pub new_site : ℕ → Kind → Site
new_site addr kind =
    record { addr = addr; kind = kind; seps = []; fork = None; keeps = []; vertices = [] }

-- a site with a line more
abbrev pub extend_site : SiteLine → Site → Site
extend_site (in_site.Pair a b) s = record s { seps = s.seps ++ (a, b) ∷ [] }
extend_site (in_site.Fork a b) s = record s { fork = Some (a, b) }
extend_site (in_site.Keep r) s = record s { keeps = s.keeps ++ r ∷ [] }

-- a vertex with a line more
abbrev pub extend_vertex : VertexLine → PartialVertex → PartialVertex
extend_vertex (in_vertex.Registers given) v = record v { regs = Some (filled given) }
extend_vertex (in_vertex.Flags fact) v = record v { flags = Some fact }
extend_vertex (in_vertex.Bound b) v = record v { bounds = v.bounds ++ b ∷ [] }
extend_vertex (in_vertex.Node level c) v = record v { levels = with_node level c v.levels }
extend_vertex (in_vertex.Edges out) v = record v { out = out }

-- the site, where there is one before its first vertex, with a line more
abbrev pub in_site_after : SiteLine → Position → Position
in_site_after l position.Between = position.Between
in_site_after l (position.Function f) = position.Function f
in_site_after l (position.Site f s) = position.Site f (extend_site l s)
in_site_after l (position.Vertex f s v) = position.Vertex f s v
in_site_after l position.Ended = position.Ended

-- the vertex, where there is one, with a line more
abbrev pub in_vertex_after : VertexLine → Position → Position
in_vertex_after l position.Between = position.Between
in_vertex_after l (position.Function f) = position.Function f
in_vertex_after l (position.Site f s) = position.Site f s
in_vertex_after l (position.Vertex f s v) = position.Vertex f s (extend_vertex l v)
in_vertex_after l position.Ended = position.Ended

-- a new site of the function, where there is one, whose last vertex is closed
abbrev pub begin_site : ℕ → Kind → Position → Position
begin_site addr kind position.Between = position.Between
begin_site addr kind (position.Function f) = position.Site f (new_site addr kind)
begin_site addr kind (position.Site f s) = position.Site f s
begin_site addr kind (position.Vertex f s v) =
    position.Site (with_site f (closed_site s v)) (new_site addr kind)
begin_site addr kind position.Ended = position.Ended

-- a new vertex of the site, where there is one, whose last vertex is closed
abbrev pub begin_vertex : Position → Position
begin_vertex position.Between = position.Between
begin_vertex (position.Function f) = position.Function f
begin_vertex (position.Site f s) = position.Vertex f s empty_vertex
begin_vertex (position.Vertex f s v) = position.Vertex f (closed_site s v) empty_vertex
begin_vertex position.Ended = position.Ended

-- what a line changes of what isn't whole yet
abbrev pub position_after : Line → Position → Position
position_after (line.Function entry below above) p =
    position.Function (new_function entry below above)
position_after (line.Refused entry) p = position.Between
position_after (line.Site addr kind) p = begin_site addr kind p
position_after (line.Vertex n) p = begin_vertex p
position_after (line.InSite l) p = in_site_after l p
position_after (line.InVertex l) p = in_vertex_after l p
position_after line.End p = position.Ended

-- the functions that are whole after a line
abbrev pub functions_after : Line → Builder → List Function
functions_after (line.Function entry below above) b = b.functions ++ closed_at b.position
functions_after (line.Refused entry) b =
    (b.functions ++ closed_at b.position) ++ refused_function entry ∷ []
functions_after (line.Site addr kind) b = b.functions
functions_after (line.Vertex n) b = b.functions
functions_after (line.InSite l) b = b.functions
functions_after (line.InVertex l) b = b.functions
functions_after line.End b = b.functions ++ closed_at b.position

-- what the lines say with one line more
abbrev pub extended : Builder → Line → Builder
extended b l =
    record { functions = functions_after l b; position = position_after l b.position }
