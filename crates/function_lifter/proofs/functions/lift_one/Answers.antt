use Rattle.std.proofs.Common.{subst, sym}
use Rattle.function_lifter.proofs.RefusedLemmas.{lifted_well}
use Rattle.function_lifter.proofs.functions.lift_one.Goals as goal

pub returns-clause-entry : goal.returns-clause-entry
returns-clause-entry c = c.in_ok-built.ensures.ok.entry_is

pub returns-clause-lifted : goal.returns-clause-lifted
returns-clause-lifted c = lifted_well c.args.image.now c.args.externs.now c.args.entry c.in_ok-built.built c.requires c.in_ok-built.ensures.ok

pub returns-clause-called : goal.returns-clause-called
returns-clause-called c s target member is =
    let well = c.in_ok-built.ensures.ok in
    c.in_ok-add_all_called.ensures.pending target (rw c.as_slice.ensures.value (well.calls s target member is)) (well.inside s target member is).1
