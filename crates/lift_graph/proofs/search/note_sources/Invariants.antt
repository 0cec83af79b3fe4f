use Rattle.std.proofs.Common.{◌≡◌, ◌≤◌, ◌+◌, ◌*◌, length}
use Rattle.lift_graph.specs.Search.{unset}
use Rattle.lift_graph.proofs.SearchLemmas.{IsNotedSoFar}
use Rattle.lift_graph.proofs.search.note_sources.Given as goal

abbrev pub invariant-loop-place : goal.invariant-loop-place
invariant-loop-place l =
    record {
      rows : length l.marks.items ≡ length l.fn.marks.items;
      noted : IsNotedSoFar l.places l.place-index l.fn.marks.items l.fn.waiting.items l.marks.items l.waiting.items;
      room : 2 * unset l.marks.items + length l.waiting.items ≤ 2 * unset l.fn.marks.items + length l.fn.waiting.items;
    }
