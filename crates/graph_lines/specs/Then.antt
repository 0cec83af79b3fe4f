-- Readings one after another, each of which may find a cause.
use Rattle.std.specs.Prelude.{Option, Some, None}
use Rattle.std.specs.declared.result.Result.{Result}
use Rattle.std.specs.declared.result.Result.TheVariants.{Ok, Err}
use Rattle.term_text.specs.declared.cause.TextCause.{TextCause}
use Rattle.term_text.specs.declared.cause.TextCause.TheVariants.{BadLine}

-- what is read next, after what was read
abbrev pub and_then : {A B : Type 0}
    → Result A TextCause → (A → Result B TextCause) → Result B TextCause
and_then (Ok x) f = f x
and_then (Err e) f = Err e

-- what has its form goes on, the rest is no line
abbrev pub or_bad_line : {A B : Type 0} → Option A → (A → Result B TextCause) → Result B TextCause
or_bad_line None f = Err BadLine
or_bad_line (Some x) f = f x
