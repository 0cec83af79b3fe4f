-- The words of the segments so far.
use Rattle.std.proofs.Common.{◌≡◌, ◌++◌, take, filter}
use Rattle.root_scan.specs.Words.{is_within}
use Rattle.root_scan.specs.Roots.{all_data_words}
use Rattle.root_scan.proofs.roots.push_within.Given as goal

abbrev pub invariant-loop-segment : goal.invariant-loop-segment
invariant-loop-segment l =
    l.roots.items ≡ l.initial.roots.items ++ filter (is_within l.lo l.hi) (all_data_words (take l.segment-index l.segments))
