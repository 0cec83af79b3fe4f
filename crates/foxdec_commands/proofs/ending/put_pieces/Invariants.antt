use Rattle.std.proofs.Common.{◌≤◌, take}
use Rattle.std.specs.List.{flat_map}
use Rattle.wire_io.specs.Sink.{Grows}
use Rattle.foxdec_commands.proofs.ending.put_pieces.Given as goal

abbrev pub invariant-loop-piece : goal.invariant-loop-piece
invariant-loop-piece g l = record {
  front : Grows (g.E.Sink.written l.initial.err) (g.E.Sink.written l.err) (flat_map (λ piece. piece.now) (take l.piece-index l.pieces));
  faults : g.E.Sink.faults l.initial.err ≤ g.E.Sink.faults l.err;
  stalls : g.E.Sink.stalls l.initial.err ≤ g.E.Sink.stalls l.err;
}
