use Rattle.std.proofs.Common.{◌≡◌, ◌++◌, take, drop, length, map}
use Rattle.step_rules.specs.Drop.{term_without}
use Rattle.pred_moves.proofs.facts.forget_terms.Given as goal

abbrev pub invariant-loop-r : goal.invariant-loop-r
invariant-loop-r l = record {
  as_many : length l.regs ≡ length l.initial.regs;
  done : take l.r l.regs ++ map (term_without l.s) (drop l.r l.regs) ≡ map (term_without l.s) l.initial.regs;
}
