use Rattle.simulation_example.proofs.check.step_holds.Goals as goal

pub returns-in-None : goal.returns-in-None
returns-in-None c = λ image.
    let holds = c.cases_hold.ensures image in
    (λ yes. record { fork = c.in-None.is; cases = holds.0 yes }, λ all. holds.1 all.cases)
