use Rattle.std.proofs.Common.{◌≡◌, take}
use Rattle.std.specs.List.{All}
use Rattle.lift_rounds.specs.Known.{IsHeld, reading}
use Rattle.lift_openings.proofs.copies.copy_made.Given as goal

abbrev pub invariant-loop-one : goal.invariant-loop-one
invariant-loop-one g l =
    let read = g.S.Steps.read l.steps in
    record {
      value : reading read l.copies.items ≡ take l.one-index (reading read l.made);
      inside : All (λ m. IsHeld (g.S.Steps.has l.steps) m) l.copies.items;
    }
