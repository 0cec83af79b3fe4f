use Rattle.safe_runs.proofs.LawLemmas.{Given, all_laws}
use Rattle.safe_runs.proofs.laws.rule_laws.Goals as goal

pub returns : goal.returns
returns c = λ image formed.
    let given : Given image = record {
      formed = formed;
      at = c.instr_at_laws.ensures.found;
      forms = c.spelled_in_form.ensures;
      ranges = c.step_laws.ensures.ranges;
    } in
    let world = c.world_laws.ensures in
    all_laws given (world.state image) (world.begin image) (world.push image) world.entry world.entails world.restores
    c.instruction_laws.ensures.step c.call_laws.ensures.call c.call_laws.ensures.syscall c.call_laws.ensures.target
