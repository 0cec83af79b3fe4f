-- The ways in which a run ends: the status, the output and the text on the error stream of each.
use Rattle.std.specs.Prelude.{ℕ, Bool, true, false, List, [], ◌++◌, take, codes}
use Rattle.std.specs.Fmt.{decimal}
use Rattle.foxdec_commands.specs.declared.file_refusal.FileRefusal.{FileRefusal}
use Rattle.foxdec_commands.specs.FileRefusal.{refusal_name, refusal_number}
use Rattle.foxdec_commands.specs.declared.graph_fault.GraphFault.{GraphFault}
use Rattle.foxdec_commands.specs.GraphFault.{fault_line, fault_name, fault_number}

-- how a run ends
pub data Ending : Type 0 where
  -- whether the graph is valid, and the output
  printed : Bool → List ℕ → Ending
  -- the words are no command
  not_a_command : Ending
  -- a read failed of the file of this name
  read_failed : List ℕ → Ending
  -- the file of this name is refused as an executable
  file_refused : List ℕ → FileRefusal → Ending
  -- the text of this name is refused as a graph's
  graph_refused : List ℕ → GraphFault → Ending
  -- whether the graph is valid, the output, and how many bytes of it were written
  write_failed : Bool → List ℕ → ℕ → Ending
  -- memory ran out
  out_of_memory : Ending

-- the exit status
abbrev pub status_of : Ending → ℕ
status_of (printed true output) = 0
status_of (printed false output) = 1
status_of not_a_command = 2
status_of (read_failed name) = 3
status_of (file_refused name refusal) = 4
status_of (graph_refused name fault) = 5
status_of (write_failed valid output taken) = 6
status_of out_of_memory = 7

-- what is written to the output stream
abbrev pub output_of : Ending → List ℕ
output_of (printed valid output) = output
output_of (write_failed valid output taken) = take taken output
output_of ending = []

-- the text for the error stream
abbrev pub text_of : Ending → List ℕ
text_of (printed valid output) = []
text_of not_a_command = codes "foxdec: the words are not a command\n"
text_of (read_failed name) = codes "foxdec: " ++ name ++ codes ": read failed\n"
text_of (file_refused name refusal) =
    codes "foxdec: " ++ name ++ codes ": executable refused: " ++ refusal_name refusal
    ++ codes " (" ++ decimal (refusal_number refusal) ++ codes ")\n"
text_of (graph_refused name fault) =
    codes "foxdec: " ++ name ++ codes ": line " ++ decimal (fault_line fault) ++ codes ": "
    ++ fault_name fault ++ codes " (" ++ decimal (fault_number fault) ++ codes ")\n"
text_of (write_failed valid output taken) =
    codes "foxdec: write failed after " ++ decimal taken ++ codes " bytes\n"
text_of out_of_memory = codes "foxdec: out of memory\n"
