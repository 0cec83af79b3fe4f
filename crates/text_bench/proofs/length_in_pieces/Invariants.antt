-- What has been counted and the functions that are left make up the whole.
use Rattle.std.proofs.Common.{length}
use Rattle.graph_text.specs.Text.{graph_text}
use Rattle.text_bench.proofs.PieceLemmas.{Counted}
use Rattle.text_bench.proofs.length_in_pieces.Given as goal

abbrev pub invariant-loop-function : goal.invariant-loop-function
invariant-loop-function l = Counted (length (graph_text l.graph)) l.function-items l.function-index l.length
