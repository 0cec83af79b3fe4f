use Rattle.std.proofs.Common.{IfSome, drop, subst, arith}
use Rattle.x86_instr.specs.Fits.{InForm}
use Rattle.decode_bench.specs.Sweep.{Begins}
use Rattle.decode_bench.specs.Sweep.Sweeps.{begins}
use Rattle.decode_bench.proofs.SweepLemmas.{past_instruction, past_byte, inside}
use Rattle.decode_bench.proofs.listing.count_instructions.Goals as goal
use Rattle.decode_bench.proofs.listing.count_instructions.Goals.{then-at-next+in-Some, then-at-next+in_default, else-at-next}

pub loop-at-init : goal.loop-at-init
loop-at-init c = (omega arith, begins, omega arith, omega arith)

pub loop-at-preserved : goal.loop-at-preserved
loop-at-preserved c =
    let code = c.args.code.now in
    let at = c.loop-at.at in
    let next = c.loop-at.next in
    let count = c.loop-at.count in
    elim c.if-at-next.branch [
      | then-at-next+in-Some w ↦
          let form : InForm w.in-Some.i = subst (λ o. IfSome o InForm) w.in-Some.is w.instruction_at.ensures.in_form in
          let found : Begins at (drop at code) w.in-Some.i =
          subst (λ o. IfSome o (Begins at (drop at code))) w.in-Some.is w.instruction_at.ensures.found in
          rw (w.next-is, w.count-is)
          (past_instruction code at next count w.in-Some.i c.loop-at-test.true w.if-at-next.true
          found form c.loop-at.invariant)
      | then-at-next+in_default w ↦
          rw (w.next-is, w.count-is)
          (past_byte code at next count c.loop-at-test.true w.if-at-next.true
          (w.instruction_at.ensures.none.0 w.in_default.is) c.loop-at.invariant)
      | else-at-next w ↦
          rw (w.next-is, w.count-is) (inside code at next count w.if-at-next.false c.loop-at.invariant)
    ]
