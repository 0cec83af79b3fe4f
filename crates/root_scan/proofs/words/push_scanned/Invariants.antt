-- What is found, and what the rest has, is what the bytes have.
use Rattle.std.proofs.Common.{◌≡◌, ◌++◌, filter, length}
use Rattle.root_scan.specs.Words.{is_within, words_from}
use Rattle.root_scan.proofs.words.push_scanned.Given as goal

abbrev pub invariant-loop-chunk : goal.invariant-loop-chunk
invariant-loop-chunk l =
    l.found.items ++ filter (is_within l.lo l.hi) (words_from 0 l.rest)
    ≡ l.initial.found.items ++ filter (is_within l.lo l.hi) (words_from l.place l.bytes)

abbrev pub decreases-loop-chunk : goal.decreases-loop-chunk
decreases-loop-chunk l = length l.rest
