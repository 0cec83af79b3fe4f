use Rattle.step_values.proofs.after.After.store.Goals as goal

pub returns-in-Some : goal.returns-in-Some
returns-in-Some c = rw c.in-Some.is c.store_region.ensures
