-- Streams in memory as plain data, and what a write to them takes and leaves.
use Rattle.std.specs.Prelude.{ℕ, ◌==◌, ◌&&◌, not, min, cond, List, ◌++◌, length, take}
use Rattle.wire_io.specs.Counts.{raised}

-- a stream: its bytes and its room, the most bytes of one write, the calls that fail, and counts
pub record SinkState : Type 0 where
  pub bytes : List ℕ
  pub room : ℕ
  pub step : ℕ
  pub failing : List ℕ
  pub calls : ℕ
  pub faults : ℕ
  pub stalls : ℕ

-- a stream without faults: its bytes, its room and its count of stalls
pub record QuietSinkState : Type 0 where
  pub bytes : List ℕ
  pub room : ℕ
  pub stalls : ℕ

-- as many bytes as the step, the room that is left and the piece allow
abbrev pub taken : ℕ → ℕ → List ℕ → ℕ
taken step left piece = min (min (length piece) left) step

-- the count of stalls after n bytes of a piece were taken
abbrev pub stalls_after : ℕ → List ℕ → ℕ → ℕ
stalls_after n piece stalls = cond (n == 0 && not (length piece == 0)) (raised stalls) stalls

-- a stream that took n bytes of a piece
abbrev pub after_put : SinkState → List ℕ → ℕ → SinkState
after_put sink piece n =
    record sink {
      bytes = sink.bytes ++ take n piece;
      calls = raised sink.calls;
      stalls = stalls_after n piece sink.stalls;
    }

-- a stream after a call that failed
abbrev pub after_fault : SinkState → SinkState
after_fault sink = record sink { calls = raised sink.calls; faults = raised sink.faults }

-- a stream without faults that took n bytes of a piece
abbrev pub after_quiet_put : QuietSinkState → List ℕ → ℕ → QuietSinkState
after_quiet_put sink piece n =
    record sink { bytes = sink.bytes ++ take n piece; stalls = stalls_after n piece sink.stalls }
