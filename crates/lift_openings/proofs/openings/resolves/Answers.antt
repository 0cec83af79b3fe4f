use Rattle.std.proofs.Common.{◌↔◌, List, ℕ, Option, true, map, IfSome, IsTrue, subst, ◌≡◌}
use Rattle.std.specs.List.{All}
use Rattle.lift_rounds.specs.Known.{pred_at, reading}
use Rattle.lift_openings.proofs.ResolvedLemmas.{resolved_at}
use Rattle.lift_openings.proofs.openings.resolves.Goals as goal

pub returns-clause-resolved : goal.returns-clause-resolved
returns-clause-resolved g c =
    let now = c.args.steps.now in
    let read = g.S.Steps.read now in
    let tells = g.S.Jumps.tells now c.args.address in
    let lift = c.args.lift.now in
    let site = c.in_ok-site.site.items in
    let at = resolved_at tells read lift c.args.address site (c.in_ok-site.ensures.site c.requires.graph.listed) in
    let all : IsTrue c.in_ok-resolved.resolved ↔ All (λ known. IfSome known (λ p. tells p ≡ true)) (map (pred_at (reading read lift.made.items)) site) =
    rw (← c.as_slice.ensures.value, ← c.as_slice-2.ensures.value) c.in_ok-resolved.ensures.value in
    (λ r. at.0 (all.0 r), λ h. all.1 (at.1 h))
