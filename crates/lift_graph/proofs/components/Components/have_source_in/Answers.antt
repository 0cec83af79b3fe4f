use Rattle.std.proofs.Common.{ap, ◌∙◌, arith}
use Rattle.lift_graph.specs.Components.{part_of}
use Rattle.lift_graph.specs.declared.graph.Place.{Place}
use Rattle.lift_graph.proofs.components.Components.have_source_in.Goals as goal

pub returns-clause-only : goal.returns-clause-only
returns-clause-only c = λ u s e.
    let first : Place = record { vertex = 0; case = 0 } in
    let l = s.1 in
    absurd (c.loop-place.invariant s.0 first (omega arith) (ap (part_of c.args.self.now) (s.2 first) ∙ e))
