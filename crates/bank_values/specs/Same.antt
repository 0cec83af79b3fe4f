-- When two predicates of numbers have the same numbers.
use Rattle.std.specs.Prelude.{◌≡◌, List}
use Rattle.bank_values.specs.Numbered.{NumberNode, level}
use Rattle.bank_values.specs.declared.pred.BankPred.{BankPred}

-- two nodes have the same addresses, size and value
pub record HasSameSpot (c d : NumberNode) : Type 0 where
  pub bytes : c.bytes ≡ d.bytes
  pub value : c.value ≡ d.value
  pub names : c.names ≡ d.names

-- the same is known of the registers and the flags
pub record HasSameRegisters (p q : BankPred) : Type 0 where
  pub regs : p.regs.items ≡ q.regs.items
  pub flags : p.flags ≡ q.flags

-- the same is known of bounds and of memory
pub record HasSameMemory (p q : BankPred) : Type 0 where
  pub bounds : p.bounds.items ≡ q.bounds.items
  pub nodes : level p.nodes.items ≡ level q.nodes.items
