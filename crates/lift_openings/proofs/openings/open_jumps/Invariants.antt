use Rattle.std.proofs.Common.{◌-◌, ◌^◌, ℕ, length}
use Rattle.lift_openings.specs.Lifted.{IsBegun, IsLifted}
use Rattle.lift_openings.proofs.openings.open_jumps.Given as goal

abbrev pub invariant-jumps : goal.invariant-jumps
invariant-jumps g l =
    let t = g.S.Steps in
    record {
      continues : g.S.Jumps.continues l.fn.steps l.steps;
      lifted : IsLifted (t.meaning l.steps) (t.has l.steps) (t.read l.steps) l.lift;
      begun : (address : ℕ) (start : g.row.S-Plain.Denot) → IsBegun (t.read l.fn.steps) l.fn.lift address start → IsBegun (t.read l.steps) l.lift address start;
    }

abbrev pub decreases-jumps : goal.decreases-jumps
decreases-jumps g l = 2 ^ 64 - length (g.S.Jumps.opened l.steps)
