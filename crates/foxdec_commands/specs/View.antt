-- The program's own types as plain data.
use Rattle.std.specs.Prelude.{Result, Ok, Err, map, string_bytes}
use Rattle.foxdec_commands.specs.Words.{Asked, check, show, report, lift, root_word, extern_word, addresses_of}
use Rattle.foxdec_commands.specs.Ending.{Ending, printed, not_a_command, read_failed, file_refused, graph_refused, out_of_memory}
use Rattle.foxdec_commands.specs.declared.words.Request.{Request}
use Rattle.foxdec_commands.specs.declared.words.Request.TheVariants.{Check, Show, Report, Lift}
use Rattle.foxdec_commands.specs.declared.ending.Output.{Output}
use Rattle.foxdec_commands.specs.declared.ending.Refusal.{Refusal}
use Rattle.foxdec_commands.specs.declared.ending.Refusal.TheVariants.{NotACommand, ReadFailed, FileRefused, GraphRefused, OutOfMemory}

-- what a request asks for
abbrev pub asked_of : Request → Asked
asked_of (Check file graph) = check file.now graph.now
asked_of (Show file address count) = show file.now address count
asked_of (Report file graph) = report file.now graph.now
asked_of (Lift file words) =
    let given = map string_bytes words.now in lift file.now (addresses_of root_word given) (addresses_of extern_word given)

-- how a run ends with a refusal
abbrev pub refused_of : Refusal → Ending
refused_of NotACommand = not_a_command
refused_of (ReadFailed name) = read_failed name.now
refused_of (FileRefused name refusal) = file_refused name.now refusal
refused_of (GraphRefused name fault) = graph_refused name.now fault
refused_of OutOfMemory = out_of_memory

-- how a run ends with what a command gave, if it is written whole
abbrev pub ending_of : Result Output Refusal → Ending
ending_of (Ok output) = printed output.valid output.bytes.items
ending_of (Err refusal) = refused_of refusal
