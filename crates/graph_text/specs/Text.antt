-- The one text of a graph: its head and its lines, each ended by a line feed.
use Rattle.std.specs.Prelude.{ℕ, List, [], ◌∷◌, ◌++◌, codes}
use Rattle.std.specs.List.{flat_map}
use Rattle.term_text.specs.Bytes.{line_feed}
use Rattle.graph_data.specs.declared.graph.Function.{Function}
use Rattle.graph_data.specs.declared.graph.Graph.{Graph}
use Rattle.graph_lines.specs.declared.line.Line.{Line}
use Rattle.graph_lines.specs.Text.{line_text}
use Rattle.graph_builder.specs.Lines.{function_lines, graph_lines}

-- the first line
abbrev pub head : List ℕ
head = codes "foxdec graph 1"

-- a line with its line feed
abbrev pub ended : List ℕ → List ℕ
ended text = text ++ line_feed ∷ []

-- lines one after another
abbrev pub lines_text : List Line → List ℕ
lines_text lines = flat_map (λ l. ended (line_text l)) lines

-- the lines of a function
abbrev pub function_text : Function → List ℕ
function_text f = lines_text (function_lines f)

-- the head and all lines
abbrev pub graph_text : Graph → List ℕ
graph_text g = ended head ++ lines_text (graph_lines g)
