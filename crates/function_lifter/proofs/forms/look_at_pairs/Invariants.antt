use Rattle.std.proofs.Common.{take}
use Rattle.graph_data.specs.Parts.{Each}
use Rattle.lifted_exact.specs.Looked.{ArePairTerms}
use Rattle.function_lifter.proofs.forms.look_at_pairs.Given as goal

abbrev pub invariant-loop-pair : goal.invariant-loop-pair
invariant-loop-pair l = Each ArePairTerms (take l.pair-index l.pairs)
