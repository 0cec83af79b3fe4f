-- The text of the lines that were read, and the line that comes next.
use Rattle.std.specs.Prelude.{◌≡◌, ℕ, true, List, ◌++◌}
use Rattle.std.specs.declared.result.Result.TheVariants.{Ok}
use Rattle.graph_lines.specs.declared.line.Line.{Line}
use Rattle.graph_lines.specs.Line.{IsLine}
use Rattle.graph_lines.specs.LineKind.{kind_of_line}
use Rattle.graph_lines.specs.Text.{line_text}
use Rattle.graph_builder.specs.declared.builder.Builder.{Builder}
use Rattle.graph_builder.specs.Follow.{can_follow}
use Rattle.graph_builder.specs.Extend.{extended}
use Rattle.graph_builder.specs.Building.{judged, lines_of, IsBuilt}
use Rattle.graph_text.specs.Text.{ended, lines_text}

-- the bytes after the head that were read, with their line feeds
abbrev pub read_text : Builder → List ℕ
read_text b = lines_text (lines_of b)

-- a line with this text can come next
pub record IsNext (b : Builder) (bytes : List ℕ) (l : Line) : Type 0 where
  pub is_line : IsLine l
  pub text : bytes ≡ line_text l
  pub follows : can_follow b (kind_of_line l) ≡ true
  pub judged : judged b l ≡ Ok (extended b l)

-- what is built by its lines, whose text is that of another and one line more
pub record Consumes (before : Builder) (bytes : List ℕ) (next : Builder) : Type 0 where
  pub built : IsBuilt next
  pub text : read_text next ≡ read_text before ++ ended bytes
