-- Why the text of a graph is refused.
use Rattle.std.specs.Prelude.{ℕ, List, length, codes, nat_lt, if◌then◌else◌, Some, None, Result, Ok, Err}
use Rattle.std.specs.declared.option.Option.{Option}
use Rattle.term_text.specs.Causes.{number_of_cause, name_of_cause}
use Rattle.graph_data.specs.declared.graph.Graph.{Graph}
use Rattle.graph_text.specs.declared.refusal.TextRefusal.{TextRefusal}
use Rattle.graph_text.specs.Reading.{graph_at}
use Rattle.foxdec_commands.specs.FileRefusal.{limit}
use Rattle.foxdec_commands.specs.declared.graph_fault.GraphFault.{GraphFault}
use Rattle.foxdec_commands.specs.declared.graph_fault.GraphFault.TheVariants.{TooLong, Line}

-- what a text is read as: a graph, or the first faulty line with its first cause
abbrev pub fault_of : Result Graph TextRefusal → Option GraphFault
fault_of (Ok g) = None
fault_of (Err refusal) = Some (Line refusal)

-- a text over the limit is refused for that, each other one as the reader refuses it
unfoldable pub graph_refusal : List ℕ → Option GraphFault
graph_refusal bytes =
    if nat_lt limit (length bytes) then Some TooLong else fault_of (graph_at bytes)

-- the number of the line, counted from 1, and 0 where the text is too long
abbrev pub fault_line : GraphFault → ℕ
fault_line TooLong = 0
fault_line (Line refusal) = refusal.line

-- the name of the cause
abbrev pub fault_name : GraphFault → List ℕ
fault_name TooLong = codes "TooLong"
fault_name (Line refusal) = name_of_cause refusal.cause

-- and its number
abbrev pub fault_number : GraphFault → ℕ
fault_number TooLong = 8
fault_number (Line refusal) = number_of_cause refusal.cause
