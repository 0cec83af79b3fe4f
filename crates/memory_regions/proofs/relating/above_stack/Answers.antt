use Rattle.std.proofs.Common.{◌≤◌, length}
use Rattle.memory_regions.proofs.SummandLemmas.{above_stack-long}
use Rattle.memory_regions.proofs.relating.above_stack.Goals as goal

pub returns-in_default-2 : goal.returns-in_default-2
returns-in_default-2 c =
    let long : 2 ≤ length c.sum.inside.atoms = rw c.as_slice.ensures at c.in_default.len_at_least in
    rw (← c.as_sum-sum.ensures.value, ← c.sum.view_is) (above_stack-long c.sum.inside.constant c.sum.inside.atoms long)
