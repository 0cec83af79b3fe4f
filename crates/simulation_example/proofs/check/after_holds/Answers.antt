use Rattle.simulation_example.proofs.check.after_holds.Goals as goal

pub returns-then-keeps_hold : goal.returns-then-keeps_hold
returns-then-keeps_hold c = λ image.
    let edges = rw (c.next_address-next.ensures, c.after-pred.ensures, c.deref-then-keeps_hold.ensures.value, c.deref.ensures.value) at (c.one_edge.ensures image) in
    let keeps = rw c.deref-2.ensures.value at c.keeps_hold.ensures in
    (λ yes. record { keeps = keeps.0 c.if-keeps_hold.true; case = edges.0 yes }, λ holds. edges.1 holds.case)
