use Rattle.std.proofs.Common.{◌-◌, ◌+◌, ◌<◌, length}
use Rattle.wire_io.specs.Shelf.{IsFront, GoesOn}
use Rattle.wire_io.proofs.reading.read_whole.Given as goal

abbrev pub invariant-loop-whole : goal.invariant-loop-whole
invariant-loop-whole g l = record {
  room : 0 < length l.piece.items;
  front : IsFront l.whole.items (g.S.Shelf.file l.initial.shelf l.name);
  shelf : GoesOn (g.S.Shelf.file l.initial.shelf) (g.S.Shelf.file l.shelf) (g.S.Shelf.faults l.initial.shelf) (g.S.Shelf.faults l.shelf);
}

abbrev pub decreases-loop-whole : goal.decreases-loop-whole
decreases-loop-whole g l = l.limit + 1 - length l.whole.items
