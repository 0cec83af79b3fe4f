use Rattle.instr_at.specs.At.{instr_at}
use Rattle.std.proofs.Common.{refl, arith}
use Rattle.foxdec_commands.specs.Listing.{listing}
use Rattle.foxdec_commands.proofs.ListingLemmas.{stops, goes_on, ends}
use Rattle.foxdec_commands.proofs.listing.list.Goals as goal

pub returns-in_default : goal.returns-in_default
returns-in_default c =
    stops c.args.image.now c.loop-left.out.items c.put_none.new.out.items c.code_at-code.result.now c.loop-left.left c.loop-left.at (listing (instr_at c.args.image.now) c.args.image.now c.args.count c.args.address)
    c.loop-left.invariant (omega arith) c.code_at-code.ensures c.in_default.ensures.value c.in_ok-put_none.ensures

pub loop-left-preserved : goal.loop-left-preserved
loop-left-preserved c =
    goes_on c.args.image.now c.loop-left.out.items c.put_instruction.new.out.items c.code_at-code.result.now c.loop-left.left c.loop-left.at _ c.in-Some.i (listing (instr_at c.args.image.now) c.args.image.now c.args.count c.args.address)
    c.loop-left.invariant (omega arith) c.code_at-code.ensures c.in-Some.ensures.value c.in_ok-put_instruction.ensures refl

pub returns : goal.returns
returns c =
    ends c.args.image.now c.loop-left.out.items c.loop-left.left c.loop-left.at (listing (instr_at c.args.image.now) c.args.image.now c.args.count c.args.address) c.loop-left.invariant (omega arith)
