use Rattle.std.proofs.Common.{◌≡◌, map, take}
use Rattle.std.specs.List.{All}
use Rattle.lift_rounds.specs.Known.{case_reading}
use Rattle.lift_openings.proofs.copies.copy_cases.Given as goal

abbrev pub invariant-loop-case : goal.invariant-loop-case
invariant-loop-case g l =
    let read = case_reading (g.S.Steps.read l.steps) in
    record {
      value : map read l.copies.items ≡ take l.case-index (map read l.cases);
      inside : All (λ c. g.S.Steps.has l.steps c.pred) l.copies.items;
    }
