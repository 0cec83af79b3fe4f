use Rattle.simulation.specs.Valid.{EdgeHolds}
use Rattle.simulation_example.specs.Example.{example, rules}
use Rattle.simulation_example.proofs.ListLemmas.{one_beside}
use Rattle.simulation_example.proofs.check.one_edge.Goals as goal

pub returns-in-len1 : goal.returns-in-len1
returns-in-len1 c = λ image.
    let beside = one_beside (EdgeHolds (example image) (rules image) c.args.function.now) (record { address = c.args.address; pred = c.args.pred }) c.args.out.now (0, 0) c.in-len1.len_at_least c.in-len1.len_below in
    let edge = c.edge_holds.ensures image in
    (λ yes. beside.0 (edge.0 yes), λ both. edge.1 (beside.1 both))
