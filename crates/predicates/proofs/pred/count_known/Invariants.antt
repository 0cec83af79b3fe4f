use Rattle.std.proofs.Common.{◌≡◌, ◌+◌, ◌≤◌, drop}
use Rattle.predicates.specs.Registers.{known_among}
use Rattle.predicates.proofs.pred.count_known.Given as goal

abbrev pub invariant-loop-reg : goal.invariant-loop-reg
invariant-loop-reg l = record {
  rest : l.known + known_among (drop l.reg-index l.regs) ≡ known_among l.regs;
  within : l.known ≤ l.reg-index;
}
