use Rattle.std.proofs.Common.{◌≡◌, drop}
use Rattle.term_text.specs.Numbers.{digits_at}
use Rattle.term_text.proofs.numbers.push_digits.Given as goal

abbrev pub invariant-loop-byte : goal.invariant-loop-byte
invariant-loop-byte l = digits_at l.hex l.n (drop l.byte-index l.bytes) ≡ digits_at l.hex 0 l.bytes
