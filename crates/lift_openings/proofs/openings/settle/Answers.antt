use Rattle.std.proofs.Common.{List, ℕ, sym, subst}
use Rattle.lift_graph.specs.Edges.{IsWoven}
use Rattle.lift_rounds.specs.Known.{reading}
use Rattle.lift_rounds.specs.Settled.{IsLed, IsSettled}
use Rattle.lift_openings.proofs.openings.settle.Goals as goal

pub returns-clause-lifted : goal.returns-clause-lifted
returns-clause-lifted g c =
    let s = g.S.Steps in
    let a = c.args.steps.now in
    let b = c.run_rounds.new.steps in
    let graph = c.run_rounds.new.graph in
    let made = reading (s.read b) c.run_rounds.new.made.items in
    let r = c.in_ok-calm.ensures in
    let e = sym (g.met.S.Steps.means a b r.grows) in
    let settled = r.settled c.if-prove.false in
    record {
      found = record { graph = r.graph; rows = r.rows; held = r.made; led = subst (λ m. IsLed m graph made) e r.led };
      settled = (settled.0, settled.1, subst (λ m. IsSettled m graph settled.0 made) e settled.2);
      kept = r.kept c.if-prove.false;
    }
