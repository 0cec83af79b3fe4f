-- What is found, and what the rest has, is what the bytes have.
use Rattle.std.proofs.Common.{◌≡◌, ◌++◌, filter, length}
use Rattle.root_scan.specs.Words.{is_within, words_from}
use Rattle.scan_bench.proofs.plain.plain_words.Given as goal

abbrev pub invariant-loop-word : goal.invariant-loop-word
invariant-loop-word l =
    l.found.items ++ filter (is_within l.lo l.hi) (words_from 0 l.rest)
    ≡ filter (is_within l.lo l.hi) (words_from 0 l.bytes)

abbrev pub decreases-loop-word : goal.decreases-loop-word
decreases-loop-word l = length l.rest
