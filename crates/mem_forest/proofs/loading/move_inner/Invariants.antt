use Rattle.std.proofs.Common.{◌≡◌, ◌+◌, ◌-◌, ◌≤◌, ◌++◌, take, drop, vec_len, vec_capacity}
use Rattle.std.specs.Prelude.{not, filter, count_by}
use Rattle.memory_regions.specs.Relate.{relate}
use Rattle.memory_regions.specs.Context.{known}
use Rattle.mem_forest.specs.Plain.{PlainNode}
use Rattle.mem_forest.specs.Levels.{related, is_around}
use Rattle.mem_forest.proofs.loading.move_inner.Given as goal

abbrev pub invariant-scan : goal.invariant-scan
invariant-scan l =
    let around = λ (n : PlainNode). is_around (related (relate (known l.context) l.region.at l.region.bytes) n.names n.bytes) in
    record {
      within : l.at ≤ vec_len l.nodes;
      moved : l.inner.items ++ filter around (drop l.at l.nodes.items) ≡ l.initial.inner.items ++ filter around l.initial.nodes.items;
      left : take l.at l.nodes.items ++ filter (λ n. not (around n)) (drop l.at l.nodes.items) ≡ filter (λ n. not (around n)) l.initial.nodes.items;
      room : vec_len l.inner + count_by around (drop l.at l.nodes.items) ≤ vec_capacity l.inner;
      kept : vec_capacity l.nodes ≡ vec_capacity l.initial.nodes;
      fewer : vec_len l.nodes ≤ vec_len l.initial.nodes;
    }

abbrev pub decreases-scan : goal.decreases-scan
decreases-scan l = vec_len l.nodes - l.at
