-- The recursion is on a shorter slice.
use Rattle.std.proofs.Common.{length}
use Rattle.x86_decode.proofs.reading.+value_of.Given as goal

abbrev pub decreases-value_of : goal.decreases-value_of
decreases-value_of l = length l.bytes.now
