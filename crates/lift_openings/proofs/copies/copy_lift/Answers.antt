use Rattle.std.proofs.Common.{◌∙◌, ap}
use Rattle.lift_rounds.specs.Known.{reading}
use Rattle.lift_openings.specs.declared.lift.Lift.{Lift}
use Rattle.lift_openings.proofs.FoundLemmas.{lifted_copied}
use Rattle.lift_openings.proofs.copies.copy_lift.Goals as goal

pub returns-clause-lifted : goal.returns-clause-lifted
returns-clause-lifted g c =
    let s = g.S.Steps in
    let now = c.args.steps.now in
    let copy : Lift g.row.S-Pred.Denot = record { graph = c.in_ok-graph.graph; made = c.in_ok-made.made } in
    lifted_copied (s.meaning now) (s.has now) (s.read now) c.args.lift.now copy c.in_ok-graph.ensures.graph c.in_ok-graph.ensures.copy
    (c.in_ok-made.ensures.value ∙ ap (reading (s.read now)) c.as_slice.ensures.value) c.in_ok-made.ensures.inside c.requires
