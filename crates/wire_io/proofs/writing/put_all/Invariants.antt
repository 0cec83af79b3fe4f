use Rattle.std.proofs.Common.{length, ◌-◌, ◌≤◌, take}
use Rattle.wire_io.specs.Sink.{Grows, KeepsRoom}
use Rattle.wire_io.proofs.writing.put_all.Given as goal

abbrev pub invariant-loop-taken : goal.invariant-loop-taken
invariant-loop-taken g l = record {
  within : l.taken ≤ length l.bytes;
  front : Grows (g.O.Sink.written l.initial.sink) (g.O.Sink.written l.sink) (take l.taken l.bytes);
  room : KeepsRoom (g.O.Sink.room l.initial.sink) (g.O.Sink.room l.sink) (g.O.Sink.stalls l.initial.sink) (g.O.Sink.stalls l.sink) (g.O.Sink.written l.sink);
  later : g.O.Sink.faults l.initial.sink ≤ g.O.Sink.faults l.sink;
  stalls_later : g.O.Sink.stalls l.initial.sink ≤ g.O.Sink.stalls l.sink;
}

abbrev pub decreases-loop-taken : goal.decreases-loop-taken
decreases-loop-taken g l = length l.bytes - l.taken
