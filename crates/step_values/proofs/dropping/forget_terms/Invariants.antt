use Rattle.std.proofs.Common.{◌≡◌, ◌++◌, take, drop, length}
use Rattle.std.specs.Prelude.{map}
use Rattle.step_rules.specs.Drop.{term_without}
use Rattle.step_values.proofs.dropping.forget_terms.Given as goal

abbrev pub invariant-loop-r : goal.invariant-loop-r
invariant-loop-r l = record {
  len : length l.regs.items ≡ length l.initial.regs.items;
  same : take l.r l.regs.items ++ map (term_without l.s) (drop l.r l.regs.items) ≡ map (term_without l.s) l.initial.regs.items;
}
