use Rattle.std.proofs.Common.{◌≡◌, drop}
use Rattle.memory_regions.specs.Relate.{relate}
use Rattle.memory_regions.specs.Context.{known}
use Rattle.mem_forest.specs.Levels.{related}
use Rattle.mem_forest.proofs.levels.related.Given as goal

abbrev pub invariant-loop-name : goal.invariant-loop-name
invariant-loop-name l =
    related (relate (known l.context) l.region.at l.region.bytes) (drop l.name-index l.names) l.bytes
    ≡ related (relate (known l.context) l.region.at l.region.bytes) l.names l.bytes
