-- The second choice is 16.
use Rattle.step_replay.proofs.replay.is_as_recorded.Goals as goal

pub returns-else-agrees : goal.returns-else-agrees
returns-else-agrees c h = let found = c.agrees-else-agrees.ensures h in (found.0, 16, found.1, found.2)
