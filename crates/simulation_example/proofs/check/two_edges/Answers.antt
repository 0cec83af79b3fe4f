use Rattle.std.proofs.Common.{◌≡◌, false}
use Rattle.simulation.specs.Valid.{EdgeHolds}
use Rattle.simulation_example.specs.Example.{example, rules}
use Rattle.simulation_example.proofs.ListLemmas.{two_beside}
use Rattle.simulation_example.proofs.check.two_edges.Goals as goal

pub returns-then-edge_holds : goal.returns-then-edge_holds
returns-then-edge_holds c = λ image.
    let beside = two_beside (EdgeHolds (example image) (rules image) c.args.function.now) (record { address = c.args.address; pred = c.args.pred }) (record { address = c.args.target; pred = c.args.pred }) c.args.out.now (0, 0) (0, 0) c.in-len2.len_at_least c.in-len2.len_below in
    let first = c.edge_holds.ensures image in
    let second = c.edge_holds-then-edge_holds.ensures image in
    (λ yes. beside.0 (first.0 c.if-edge_holds.true, second.0 yes), λ both. second.1 (beside.1 both).1)

pub returns-else-edge_holds : goal.returns-else-edge_holds
returns-else-edge_holds c = λ image.
    let beside = two_beside (EdgeHolds (example image) (rules image) c.args.function.now) (record { address = c.args.address; pred = c.args.pred }) (record { address = c.args.target; pred = c.args.pred }) c.args.out.now (0, 0) (0, 0) c.in-len2.len_at_least c.in-len2.len_below in
    let first = c.edge_holds.ensures image in
    let no : c.edge_holds.result ≡ false = c.if-edge_holds.false in
    (λ yes. cc, λ both. first.1 (beside.1 both).0)
