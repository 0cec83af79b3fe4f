-- The files and the streams of a run, before and after it.
use Rattle.std.specs.Prelude.{◌⊎◌, ℕ, List, take}
use Rattle.std.specs.declared.option.Option.{Option}
use Rattle.wire_io.specs.declared.outside.Shelf as shelf
use Rattle.wire_io.specs.declared.outside.Sink as sink
use Rattle.wire_io.specs.Counts.{Rose}
use Rattle.wire_io.specs.Sink.{Grows}

-- The bytes under a name, where they are known, and how often reads of a name have failed.
pub record Files : Type 0 where
  pub known : List ℕ → Option (List ℕ)
  pub faults : List ℕ → ℕ
  pub later_faults : List ℕ → ℕ

-- What a stream has, where that is known, and how often a write has failed or taken nothing.
pub record Stream : Type 0 where
  pub written : Option (List ℕ)
  pub later_written : Option (List ℕ)
  pub faults : ℕ
  pub later_faults : ℕ
  pub stalls : ℕ
  pub later_stalls : ℕ

-- the files of a shelf before and after, by what the shelf tells
abbrev pub files_of : {X : Type 0} → shelf.Ghosts X → X → X → Files
files_of tells old new = record {
  known = tells.file old;
  faults = tells.faults old;
  later_faults = tells.faults new;
}

-- the stream of a sink before and after, by what the sink tells
abbrev pub stream_of : {X : Type 0} → sink.Ghosts X → X → X → Stream
stream_of tells old new = record {
  written = tells.written old;
  later_written = tells.written new;
  faults = tells.faults old;
  later_faults = tells.faults new;
  stalls = tells.stalls old;
  later_stalls = tells.stalls new;
}

-- a read of the file of this name failed
abbrev pub ReadFailed : Files → List ℕ → Type 0
ReadFailed files name = Rose (files.faults name) (files.later_faults name)

-- a write failed or took nothing
abbrev pub HasTrouble : Stream → Type 0
HasTrouble stream = Rose stream.faults stream.later_faults ⊎ Rose stream.stalls stream.later_stalls

-- these bytes were added, and no others
abbrev pub Adds : Stream → List ℕ → Type 0
Adds stream bytes = Grows stream.written stream.later_written bytes

-- The first bytes of a text were added, and all of it but where the stream had trouble.
pub record Says (stream : Stream) (text : List ℕ) : Type 0 where
  pub front : (n : ℕ) × Adds stream (take n text)
  pub whole : HasTrouble stream ⊎ Adds stream text
