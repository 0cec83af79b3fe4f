use Rattle.instr_at.specs.At.{instr_at}
use Rattle.foxdec_commands.specs.Listing.{listing}
use Rattle.foxdec_commands.proofs.ListingLemmas.{IsListed}
use Rattle.foxdec_commands.proofs.listing.list.Given as goal

abbrev pub decreases-loop-left : goal.decreases-loop-left
decreases-loop-left l = l.left

abbrev pub invariant-loop-left : goal.invariant-loop-left
invariant-loop-left l = IsListed l.image l.out.items l.left l.at (listing (instr_at l.image) l.image l.count l.address)
