use Rattle.step_rules.specs.Access.{with_bytes}
use Rattle.step_values.proofs.after.After.store_region.Goals as goal

pub returns : goal.returns
unfolding with_bytes
returns c = rw (← c.requires) c.put.ensures
