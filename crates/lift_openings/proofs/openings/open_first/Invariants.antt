use Rattle.std.proofs.Common.{◌≡◌, ℕ}
use Rattle.lift_openings.specs.Lifted.{IsBegun, IsLifted}
use Rattle.lift_openings.proofs.openings.open_first.Given as goal

abbrev pub invariant-loop-address : goal.invariant-loop-address
invariant-loop-address g l =
    let t = g.S.Steps in
    record {
      continues : g.S.Jumps.continues l.fn.steps l.steps;
      opened : g.S.Jumps.opened l.steps ≡ g.S.Jumps.opened l.fn.steps;
      lifted : IsLifted (t.meaning l.steps) (t.has l.steps) (t.read l.steps) l.lift;
      begun : (address : ℕ) (start : g.row.S-Plain.Denot) → IsBegun (t.read l.fn.steps) l.fn.lift address start → IsBegun (t.read l.steps) l.lift address start;
    }
