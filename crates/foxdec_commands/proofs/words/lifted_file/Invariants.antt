use Rattle.std.proofs.Common.{◌≡◌, ◌++◌, length, map, string_bytes}
use Rattle.foxdec_commands.specs.Words.{lifted_file}
use Rattle.foxdec_commands.proofs.words.lifted_file.Given as goal

abbrev pub invariant-loop-rest : goal.invariant-loop-rest
invariant-loop-rest l = lifted_file (map string_bytes l.rest) ≡ lifted_file (map string_bytes l.fn.words)

abbrev pub decreases-loop-rest : goal.decreases-loop-rest
decreases-loop-rest l = length l.rest
