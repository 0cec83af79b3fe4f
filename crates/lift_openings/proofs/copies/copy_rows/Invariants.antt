use Rattle.std.proofs.Common.{◌≡◌, take}
use Rattle.lift_openings.specs.Copies.{rows_of}
use Rattle.lift_openings.proofs.copies.copy_rows.Given as goal

abbrev pub invariant-loop-row : goal.invariant-loop-row
invariant-loop-row g l = rows_of l.copies.items ≡ take l.row-index (rows_of l.rows)
