-- The count and the bits of the rest are those of the bytes.
use Rattle.std.proofs.Common.{◌≡◌, ◌+◌, length}
use Rattle.root_scan.specs.Bits.{bits_set}
use Rattle.root_scan.proofs.bits.covered.Given as goal

abbrev pub invariant-loop-chunk : goal.invariant-loop-chunk
invariant-loop-chunk l = l.count + bits_set l.rest ≡ bits_set l.bits

abbrev pub decreases-loop-chunk : goal.decreases-loop-chunk
decreases-loop-chunk l = length l.rest
