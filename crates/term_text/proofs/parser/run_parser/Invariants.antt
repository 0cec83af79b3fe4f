use Rattle.std.proofs.Common.{◌≡◌, ◌≤◌, ◌-◌, [], take, drop}
use Rattle.term_text.specs.Parser.{run, start}
use Rattle.term_text.proofs.parser.run_parser.Given as goal

abbrev pub invariant-loop-i : goal.invariant-loop-i
invariant-loop-i l = (l.begin ≤ l.i) × (run l.parser (take (l.i - l.begin) (drop l.begin l.bytes)) (drop l.i l.bytes) ≡ run start [] l.bytes)
