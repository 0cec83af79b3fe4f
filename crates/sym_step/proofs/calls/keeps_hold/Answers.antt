use Rattle.step_values.specs.Views.{view_of}
use Rattle.sym_step.proofs.CallLemmas.{kept_exactly}
use Rattle.sym_step.proofs.calls.keeps_hold.Goals as goal

pub returns-clause-exact : goal.returns-clause-exact
returns-clause-exact c = kept_exactly (view_of c.args.v.now) c.args.i.now c.args.p.now c.in_ok-held.held c.in_ok-held.ensures
