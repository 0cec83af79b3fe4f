use Rattle.simulation.specs.Graph.{view_of}
use Rattle.simulation_example.specs.Example.{example}
use Rattle.simulation_example.proofs.CaseLemmas.{straight_cases, branch_cases}
use Rattle.simulation_example.proofs.check.cases_hold.Goals as goal

pub returns-in-Nop : goal.returns-in-Nop
returns-in-Nop c = λ image.
    let edges = rw (c.next_address-next.ensures, c.step-pred.ensures, c.deref.ensures.value) at (c.one_edge.ensures image) in
    rw (straight_cases (view_of (example image) c.args.function.now c.args.site.now) c.args.instr c.args.vertex.now.pred c.in-Nop.is) (edges.0, edges.1)

pub returns-in-Branch : goal.returns-in-Branch
returns-in-Branch c = λ image.
    let edges = rw (c.next_address-next.ensures, c.step-pred.ensures, c.deref-in-Branch.ensures.value) at (c.two_edges.ensures image) in
    rw (branch_cases (view_of (example image) c.args.function.now c.args.site.now) c.args.instr c.args.vertex.now.pred c.in-Branch.target c.in-Branch.is) (edges.0, edges.1)
