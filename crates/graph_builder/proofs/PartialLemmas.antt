-- What holds of a reading so far: at its begin, after each line, and at its end.
use Rattle.std.proofs.Common.{◌≡◌, true, Option, Some, None, IfSome, List, [], ◌∷◌, ◌++◌, length, refl, sym, ap}
use Rattle.std.specs.List.{flat_map}
use Rattle.sym_terms.specs.Plain.{PlainSum}
use Rattle.predicates.specs.declared.site.Kind.{Kind}
use Rattle.graph_data.specs.declared.graph.Function.{Function}
use Rattle.graph_data.specs.WellFormed.{IsWellFormed}
use Rattle.graph_lines.specs.declared.line.Line.{Line}
use Rattle.graph_lines.specs.declared.line.Line.TheVariants as line
use Rattle.graph_lines.specs.declared.line.SiteLine.TheVariants as in_site
use Rattle.graph_lines.specs.declared.line.VertexLine.TheVariants as in_vertex
use Rattle.graph_lines.specs.Line.{IsLine}
use Rattle.graph_lines.specs.LineKind.{kind_of_line}
use Rattle.graph_builder.specs.declared.builder.PartialVertex.{PartialVertex}
use Rattle.graph_builder.specs.declared.builder.Position.{Position}
use Rattle.graph_builder.specs.declared.builder.Position.TheVariants as position
use Rattle.graph_builder.specs.declared.builder.Builder.{Builder}
use Rattle.graph_builder.specs.Lines.{function_lines, graph_lines}
use Rattle.graph_builder.specs.Follow.{follows_at}
use Rattle.graph_builder.specs.Order.{is_in_order}
use Rattle.graph_builder.specs.Limits.{is_within}
use Rattle.graph_builder.specs.Extend.{extended}
use Rattle.graph_builder.specs.Partial.{registers_of, IsClosable, CanClose}
use Rattle.graph_builder.specs.Building.{position_lines, lines_of}
use Rattle.graph_builder.proofs.PartialInvariant.{AreRegisters, IsPartialVertex, IsPartialAt, IsPartial}
use Rattle.graph_builder.proofs.PartialSteps.{Steps, function_step, refused_step, site_step, pair_step, fork_step, keep_step, vertex_step, registers_step, flags_step, bound_step, node_step, edges_step, end_step}

sixteen : (regs : Option (List (Option PlainSum))) → IfSome regs AreRegisters → length (registers_of regs) ≡ 16
sixteen None h = refl
sixteen (Some regs) h = h.0

vertex_closable : (kind : Kind) (v : PartialVertex) → IsPartialVertex kind v → IsClosable v
vertex_closable kind v o = record { sixteen = sixteen v.regs o.regs; bounded = o.formed; forest = o.forest }

close_at : (functions : List Function) (p : Position) → IsPartialAt functions p → CanClose p
close_at functions position.Between o = tt
close_at functions (position.Function f) o = tt
close_at functions (position.Site f s) o = tt
close_at functions (position.Vertex f s v) o = vertex_closable s.kind v o.1.1
close_at functions position.Ended o = tt

-- what is open can be closed
pub can_close : (r : Builder) → IsPartial r → CanClose r.position
can_close r o = close_at r.functions r.position o.position

step : (l : Line) (functions : List Function) (p : Position) → Steps l functions p
step (line.Function entry below above) = function_step entry below above
step (line.Refused entry) = refused_step entry
step (line.Site addr kind) = site_step addr kind
step (line.InSite (in_site.Pair a b)) = pair_step a b
step (line.InSite (in_site.Fork a b)) = fork_step a b
step (line.InSite (in_site.Keep r)) = keep_step r
step (line.Vertex n) = vertex_step n
step (line.InVertex (in_vertex.Registers given)) = registers_step given
step (line.InVertex (in_vertex.Flags fact)) = flags_step fact
step (line.InVertex (in_vertex.Bound b)) = bound_step b
step (line.InVertex (in_vertex.Node level c)) = node_step level c
step (line.InVertex (in_vertex.Edges out)) = edges_step out
step line.End = end_step

-- a line that may stand, in order and within the limits, leaves what is well formed as far as it goes
pub partial_extended : (r : Builder) (l : Line) → IsPartial r → IsLine l → follows_at r.position (kind_of_line l) ≡ true → is_in_order r l ≡ true → is_within r.position l ≡ true → IsPartial (extended r l)
partial_extended r l o h m n w = (step l r.functions r.position o h m n w).0

-- and it is the last of the lines that were read
pub lines_extended : (r : Builder) (l : Line) → IsPartial r → IsLine l → follows_at r.position (kind_of_line l) ≡ true → is_in_order r l ≡ true → is_within r.position l ≡ true
    → lines_of (extended r l) ≡ lines_of r ++ l ∷ []
lines_extended r l o h m n w = (step l r.functions r.position o h m n w).1

-- after the last line the functions are a well-formed graph with the lines that were read
pub partial_ended : (r : Builder) → IsPartial r → r.position ≡ position.Ended → IsWellFormed (record { functions = r.functions }) × (graph_lines (record { functions = r.functions }) ≡ lines_of r)
partial_ended r o e = (record { functions = o.functions; ascending = o.ascending }, ap (λ p. flat_map function_lines r.functions ++ position_lines p) (sym e))
