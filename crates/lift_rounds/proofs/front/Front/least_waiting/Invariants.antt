use Rattle.std.specs.BTreeMap.{btree_map_len}
use Rattle.lift_rounds.proofs.front.Front.least_waiting.Given as goal

abbrev pub decreases-waits : goal.decreases-waits
decreases-waits l = btree_map_len l.self.waiting
