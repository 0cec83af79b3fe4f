-- The graph that lines build, one line after another, and the first fault of a line.
use Rattle.std.specs.Prelude.{◌≡◌, if◌then◌else◌, List, [], ◌∷◌, ◌++◌, length}
use Rattle.std.specs.List.{flat_map}
use Rattle.std.specs.declared.result.Result.{Result}
use Rattle.std.specs.declared.result.Result.TheVariants.{Ok, Err}
use Rattle.term_text.specs.declared.cause.TextCause.{TextCause}
use Rattle.term_text.specs.declared.cause.TextCause.TheVariants as cause
use Rattle.graph_data.specs.declared.graph.Function.{Function}
use Rattle.graph_data.specs.declared.graph.Graph.{Graph}
use Rattle.graph_data.specs.Parts.{Each}
use Rattle.graph_data.specs.WellFormed.{IsWellFormed}
use Rattle.graph_lines.specs.declared.line.Line.{Line}
use Rattle.graph_lines.specs.declared.line.Line.TheVariants as line
use Rattle.graph_lines.specs.Line.{IsLine}
use Rattle.graph_lines.specs.LineLimits.{IsWithinLineLimits}
use Rattle.graph_lines.specs.LineKind.{kind_of_line}
use Rattle.graph_lines.specs.Reading.{and_then}
use Rattle.graph_builder.specs.declared.builder.Position.{Position}
use Rattle.graph_builder.specs.declared.builder.Position.TheVariants as position
use Rattle.graph_builder.specs.declared.builder.Builder.{Builder}
use Rattle.graph_builder.specs.Lines.{function_lines, site_lines, vertex_lines, graph_lines}
use Rattle.graph_builder.specs.Partial.{new_builder, closed_vertex}
use Rattle.graph_builder.specs.Follow.{can_follow}
use Rattle.graph_builder.specs.Order.{is_in_order}
use Rattle.graph_builder.specs.Limits.{is_within}
use Rattle.graph_builder.specs.Extend.{extended}

-- what is built with a line more that can come next: its order is judged before its limits
unfoldable pub judged : Builder → Line → Result Builder TextCause
judged b l =
    if is_in_order b l
    then (if is_within b.position l then Ok (extended b l) else Err cause.OverLimit)
    else Err cause.OutOfOrder

-- what is built with any line more, or the line's first fault
abbrev pub pushed : Builder → Line → Result Builder TextCause
pushed b l = if can_follow b (kind_of_line l) then judged b l else Err cause.BadLine

-- what is built with lines more, one after another
abbrev pub built_from : Builder → List Line → Result Builder TextCause
built_from b [] = Ok b
built_from b (l ∷ ls) = and_then (pushed b l) (λ c. built_from c ls)

-- the graph of these functions, where the last line was read
abbrev pub finished_at : List Function → Position → Result Graph TextCause
finished_at functions position.Between = Err cause.Unended
finished_at functions (position.Function f) = Err cause.Unended
finished_at functions (position.Site f s) = Err cause.Unended
finished_at functions (position.Vertex f s v) = Err cause.Unended
finished_at functions position.Ended = Ok (record { functions = functions })

-- the graph that was built
abbrev pub finished : Builder → Result Graph TextCause
finished b = finished_at b.functions b.position

-- the graph that lines build
abbrev pub built : List Line → Result Graph TextCause
built ls = and_then (built_from new_builder ls) finished

-- the lines of what isn't whole yet
abbrev pub position_lines : Position → List Line
position_lines position.Between = []
position_lines (position.Function f) = function_lines f
position_lines (position.Site f s) = function_lines f ++ site_lines s
position_lines (position.Vertex f s v) =
    function_lines f ++ (site_lines s ++ vertex_lines (length s.vertices, closed_vertex v))
position_lines position.Ended = line.End ∷ []

-- the lines that were pushed
abbrev pub lines_of : Builder → List Line
lines_of b = flat_map function_lines b.functions ++ position_lines b.position

-- what is built is what its lines build
pub record IsBuilt (b : Builder) : Type 0 where
  pub lines : Each IsLine (lines_of b)
  pub built : built_from new_builder (lines_of b) ≡ Ok b

-- the lines of a well-formed graph build it
abbrev pub LinesBuild : Type 0
LinesBuild = (g : Graph) → IsWellFormed g → built (graph_lines g) ≡ Ok g

-- a graph that lines build is well formed, and has just these lines
abbrev pub BuiltHasLines : Type 0
BuiltHasLines =
    (ls : List Line) (g : Graph) → Each IsLine ls → built ls ≡ Ok g
    → IsWellFormed g × (graph_lines g ≡ ls)

-- each line of a well-formed graph has its parts in their ranges and limits
abbrev pub LinesAreShort : Type 0
LinesAreShort =
    (g : Graph) → IsWellFormed g → Each (λ l. IsLine l × IsWithinLineLimits l) (graph_lines g)
