use Rattle.std.proofs.Common.{◌≡◌, ◌++◌, length, map, string_bytes}
use Rattle.foxdec_commands.specs.Words.{addresses_of}
use Rattle.foxdec_commands.proofs.words.addresses_of.Given as goal

abbrev pub invariant-loop-rest : goal.invariant-loop-rest
invariant-loop-rest l =
    l.found.items ++ addresses_of l.option (map string_bytes l.rest) ≡ addresses_of l.fn.option (map string_bytes l.fn.words)

abbrev pub decreases-loop-rest : goal.decreases-loop-rest
decreases-loop-rest l = length l.rest
