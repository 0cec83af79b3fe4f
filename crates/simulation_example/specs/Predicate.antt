-- What the predicates of the small machine say, and what follows from them.
use Rattle.std.specs.Prelude.{◌≡◌, ℕ, ◌⊎◌, Bool, true, IsTrue, ◌&&◌, ◌==◌, if◌then◌else◌}
use Rattle.std.specs.Prelude.{List, All}
use Rattle.std.specs.List.{list_any}
use Rattle.simulation.specs.Registers as register
use Rattle.simulation_example.specs.declared.machine.Instr.{Instr}
use Rattle.simulation_example.specs.declared.machine.Instr.TheVariants.{Draw, Swap}
use Rattle.simulation_example.specs.declared.predicate.Term.{Term}
use Rattle.simulation_example.specs.declared.predicate.Term.TheVariants.{EntryRax, EntryRbx}
use Rattle.simulation_example.specs.declared.predicate.Term.TheVariants.{Name, Unknown}
use Rattle.simulation_example.specs.declared.predicate.Region.{Region}
use Rattle.simulation_example.specs.declared.predicate.Pred.{Pred}
use Rattle.simulation_example.specs.Machine.{State, set}

-- the state in which an activation began, and the value last named at each address
pub record Valuation : Type 0 where
  pub start : State
  pub names : ℕ → ℕ

-- the valuation of an activation that begins in the state
abbrev pub fresh : State → Valuation
fresh state = record { start = state; names = λ address. 0 }

-- the valuation in which the name of the site at an address has a value
abbrev pub named : Valuation → ℕ → ℕ → Valuation
named valuation address value =
    record { start = valuation.start; names = set valuation.names address value }

-- the word at the stack pointer of the entry
abbrev pub return_address : Valuation → ℕ
return_address valuation = valuation.start.memory (valuation.start.regs register.rsp)

-- the number is the term's value; an unknown term has every value
abbrev pub HasValue : Term → Valuation → ℕ → Type 0
HasValue EntryRax valuation number = number ≡ valuation.start.regs register.rax
HasValue EntryRbx valuation number = number ≡ valuation.start.regs register.rbx
HasValue (Name address) valuation number = number ≡ valuation.names address
HasValue Unknown valuation number = Unit {0}

-- what holds of each state here: registers that no instruction changes for good, and the FS base
pub record Fixed (state start : State) : Type 0 where
  pub rsp : state.regs register.rsp ≡ start.regs register.rsp
  pub rbp : state.regs register.rbp ≡ start.regs register.rbp
  pub r12 : state.regs register.r12 ≡ start.regs register.r12
  pub r13 : state.regs register.r13 ≡ start.regs register.r13
  pub r14 : state.regs register.r14 ≡ start.regs register.r14
  pub r15 : state.regs register.r15 ≡ start.regs register.r15
  pub fs : state.fs ≡ start.fs

-- the predicate holds of the state under the valuation
pub record Sat (pred : Pred) (state : State) (valuation : Valuation) : Type 0 where
  pub fixed : Fixed state valuation.start
  pub rax : HasValue pred.rax valuation (state.regs register.rax)
  pub rbx : HasValue pred.rbx valuation (state.regs register.rbx)
  pub cell :
      IsTrue pred.cell →
      state.memory (valuation.start.regs register.rsp) ≡ return_address valuation

-- the predicate of an entry: each entry symbol where it belongs, and the return address
abbrev pub entry_pred : Pred
entry_pred = record { rax = EntryRax; rbx = EntryRbx; cell = true }

-- each number with the first term has the second: that one is unknown, or the same
abbrev pub Covers : Term → Term → Type 0
Covers term weaker = (weaker ≡ Unknown) ⊎ (weaker ≡ term)

-- entailment, fact by fact
pub record Entails (pred weaker : Pred) : Type 0 where
  pub rax : Covers pred.rax weaker.rax
  pub rbx : Covers pred.rbx weaker.rbx
  pub cell : IsTrue weaker.cell → IsTrue pred.cell

-- a return is verified: rbx and the return address are those of the entry
pub record Returns (pred : Pred) : Type 0 where
  pub rbx : pred.rbx ≡ EntryRbx
  pub cell : IsTrue pred.cell

-- the term without the name of the site at the address
abbrev pub forget_term : ℕ → Term → Term
forget_term address EntryRax = EntryRax
forget_term address EntryRbx = EntryRbx
forget_term address (Name named) = if named == address then Unknown else Name named
forget_term address Unknown = Unknown

-- the predicate without the facts that mention the name of the site at the address
abbrev pub forget : ℕ → Pred → Pred
forget address pred =
    record {
      rax = forget_term address pred.rax;
      rbx = forget_term address pred.rbx;
      cell = pred.cell;
    }

-- what holds after an ordinary instruction at the address: the old name goes first
abbrev pub step_of : ℕ → Instr → Pred → Pred
step_of address Draw pred = record (forget address pred) { rax = Name address }
step_of address Swap pred =
    record (forget address pred) {
      rax = forget_term address pred.rbx;
      rbx = forget_term address pred.rax;
    }
step_of address instr pred = forget address pred

-- the region is the word at the stack pointer of the entry
abbrev pub is_cell : Region → Bool
is_cell region = region.offset == 0

-- what holds after a callee that keeps the regions: rax is the name, the cell if it is kept
abbrev pub after_of : ℕ → List Region → Pred → Pred
after_of address keeps pred =
    record {
      rax = Name address;
      rbx = forget_term address pred.rbx;
      cell = pred.cell && list_any is_cell keeps;
    }

-- each region that a callee is to keep is the cell, which has its value
abbrev pub KeepsHold : List Region → Pred → Type 0
KeepsHold keeps pred = All (λ region. IsTrue (is_cell region && pred.cell)) keeps
