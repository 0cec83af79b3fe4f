-- What the small machine does: its states, and the state after each instruction.
use Rattle.std.specs.Prelude.{ℕ, ◌+◌, ◌-◌, ◌%◌, ◌^◌, ◌<◌, Option, Some, None}
use Rattle.std.specs.Prelude.{◌==◌, if◌then◌else◌}
use Rattle.simulation.specs.Registers.{rax, rbx, rsp}
use Rattle.simulation.specs.World.{Class, Ordinary, Calling, System, Returning}
use Rattle.simulation_example.specs.declared.machine.Instr.{Instr}
use Rattle.simulation_example.specs.declared.machine.Instr.TheVariants.{Nop, Draw, Swap}
use Rattle.simulation_example.specs.declared.machine.Instr.TheVariants.{Branch, Call, Syscall, Ret}

-- a state; memory is a word at each address, and words at two addresses do not overlap
pub record State : Type 0 where
  pub rip : ℕ
  pub regs : ℕ → ℕ
  pub fs : ℕ
  pub memory : ℕ → ℕ

-- each register is a number below 2^64
abbrev pub IsState : State → Type 0
IsState state = (register : ℕ) → state.regs register < 2 ^ 64

-- the function with a value at one place
abbrev pub set : (ℕ → ℕ) → ℕ → ℕ → ℕ → ℕ
set values place value other = if other == place then value else values other

-- the address after an address
abbrev pub next_of : ℕ → ℕ
next_of address = (address + 1) % 2 ^ 64

-- eight less, modulo 2^64
abbrev pub lowered : ℕ → ℕ
lowered number = (number + (2 ^ 64 - 8)) % 2 ^ 64

-- the class of an instruction
abbrev pub class_of : Instr → Class
class_of Nop = Ordinary
class_of Draw = Ordinary
class_of Swap = Ordinary
class_of (Branch target) = Ordinary
class_of (Call target) = Calling
class_of Syscall = System
class_of Ret = Returning

-- memory when a callee begins: a call has pushed the next address
unfoldable pub pushed : State → Instr → ℕ → ℕ
pushed state Nop = state.memory
pushed state Draw = state.memory
pushed state Swap = state.memory
pushed state (Branch target) = state.memory
pushed state (Call target) = set state.memory (lowered (state.regs rsp)) (next_of state.rip)
pushed state Syscall = state.memory
pushed state Ret = state.memory

-- rax and rbx exchanged
abbrev pub swapped : (ℕ → ℕ) → ℕ → ℕ
swapped regs = set (set regs rax (regs rbx)) rbx (regs rax)

-- the state after an instruction; a syscall leaves the machine
unfoldable pub next : State → Instr → ℕ → Option State
next state Nop choice = Some (record state { rip = next_of state.rip })
next state Draw choice =
    Some (record state { rip = next_of state.rip; regs = set state.regs rax (choice % 2 ^ 64) })
next state Swap choice =
    Some (record state { rip = next_of state.rip; regs = swapped state.regs })
next state (Branch target) choice =
    Some (record state { rip = if state.regs rax == 0 then target else next_of state.rip })
next state (Call target) choice =
    Some
    (record {
      rip = target;
      regs = set state.regs rsp (lowered (state.regs rsp));
      fs = state.fs;
      memory = pushed state (Call target);
    })
next state Syscall choice = None
next state Ret choice =
    Some
    (record state {
      rip = state.memory (state.regs rsp);
      regs = set state.regs rsp ((state.regs rsp + 8) % 2 ^ 64);
    })

-- the value that a site names: the drawn number
abbrev pub named_value : State → Instr → State → Option ℕ
named_value state Draw new = Some (new.regs rax)
named_value state instr new = None

-- the constant to which a call goes
unfoldable pub target_of : Instr → Option ℕ
target_of (Call target) = Some target
target_of Nop = None
target_of Draw = None
target_of Swap = None
target_of (Branch target) = None
target_of Syscall = None
target_of Ret = None
