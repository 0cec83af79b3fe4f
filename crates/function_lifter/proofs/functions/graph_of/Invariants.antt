use Rattle.std.proofs.Common.{◌≡◌, map}
use Rattle.function_lifter.proofs.functions.graph_of.Given as goal

abbrev pub invariant-loop-function : goal.invariant-loop-function
invariant-loop-function l = l.functions ≡ map (λ e. e.1) l.yielded
