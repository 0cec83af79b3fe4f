-- Files in memory as plain data, and what a read of them gives.
use Rattle.std.specs.Prelude.{ℕ, ◌-◌, min, Bool, cond, List, [], length, map, find, unwrap_or, String, Vec, string_bytes}
use Rattle.std.specs.Str.{bytes_eq}
use Rattle.std.specs.Option.{option_map}
use Rattle.std.specs.declared.alloc.Global.{Global}
use Rattle.std.specs.declared.option.Option.{Option}
use Rattle.wire_io.specs.Counts.{raised}

-- a shelf: names with bytes, the most bytes of one read, the calls that fail, and two counts
pub record ShelfState : Type 0 where
  pub files : List (List ℕ × List ℕ)
  pub step : ℕ
  pub failing : List ℕ
  pub calls : ℕ
  pub faults : ℕ

-- a shelf without faults: names with bytes, and the most bytes of one read
pub record QuietShelfState : Type 0 where
  pub files : List (List ℕ × List ℕ)
  pub step : ℕ

-- the names and the bytes of owned pairs
abbrev pub plain_files : List (String Global × Vec ℕ Global) → List (List ℕ × List ℕ)
plain_files pairs = map (λ pair. (string_bytes pair.0, pair.1.items)) pairs

-- the bytes of the first pair with the name
abbrev pub file_under : List (List ℕ × List ℕ) → List ℕ → Option (List ℕ)
file_under files name = option_map (λ pair. pair.1) (find (λ pair. bytes_eq pair.0 name) files)

-- the same, where an unknown name is the empty file
abbrev pub file_or_empty : List (List ℕ × List ℕ) → List ℕ → List ℕ
file_or_empty files name = unwrap_or (file_under files name) []

-- as many bytes as the step, the piece and the rest of the file from the place on allow
abbrev pub given : ℕ → ℕ → List ℕ → ℕ → ℕ
given step place file room = min (min (length file - place) room) step

-- a shelf after one call, which failed or did not
abbrev pub after_read : ShelfState → Bool → ShelfState
after_read shelf failed =
    record shelf {
      calls = raised shelf.calls;
      faults = cond failed (raised shelf.faults) shelf.faults;
    }
