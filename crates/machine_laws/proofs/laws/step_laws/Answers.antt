use Rattle.machine_laws.proofs.StoreLemmas.{store_apart, store_back}
use Rattle.machine_laws.proofs.StateLemmas.{reg_below, quad_below, address_below, state_reg, state_write}
use Rattle.machine_laws.proofs.StepLawLemmas.{state_law, call_law, return_law}
use Rattle.machine_laws.proofs.PreserveLemmas.{preserve_law, base_law}
use Rattle.machine_laws.proofs.FlowLemmas.{outcome_law, place_law}
use Rattle.machine_laws.proofs.NamedLemmas.{named_laws}
use Rattle.machine_laws.proofs.laws.step_laws.Goals as goal

pub returns : goal.returns
returns c = record {
  states = state_law;
  ranges = record {
    reg_below = reg_below;
    quad_below = quad_below;
    address_below = address_below;
    state_reg = state_reg;
    state_write = state_write;
  };
  stores = record { apart = store_apart; back = store_back };
  outcomes = outcome_law;
  preserves = preserve_law;
  base = base_law;
  place = place_law;
  calls = call_law;
  returns = return_law;
  named = named_laws;
}
